use Rattle.std.proofs.Common.{[], subst, arith}
use Rattle.std.proofs.lemmas.List.{length-map}
use Rattle.hdt_wire.specs.Control.{HasNoZero}
use Rattle.hdt_dict.specs.Strings.{BorrowedString, empty_string}
use Rattle.hdt_dict.specs.Laws.Strings.{string_at}
use Rattle.hdt_probe_parts.proofs.dict_writing.section_writer_of.Goals as goal

pub push-requires : goal.push-requires
push-requires c =
    let strings = c.args.strings.now in
    let i = c.loop-string.string-index in
    record { no_zero = subst HasNoZero (string_at strings i empty_string [] c.loop-string-test.true) (c.requires.strings.no_zero i (omega (arith, c.loop-string-test.true, length-map strings (λ (v : BorrowedString). v.now)))) }
