use Rattle.std.proofs.Common.{[], below_more, subst, sym, arith}
use Rattle.std.proofs.lemmas.List.{get_or_default, length-map}
use Rattle.hdt_front.specs.Canonical.{borrowed_texts}
use Rattle.hdt_dict.specs.Strings.{BorrowedString, empty_string}
use Rattle.hdt_dict.specs.Laws.Strings.{string_at}
use Rattle.hdt_dict.specs.Strings.{IsDictionaryString}
use Rattle.hdt_probe_parts.proofs.dict_writing.are_valid_strings.Goals as goal

pub loop-text-preserved : goal.loop-text-preserved
loop-text-preserved c =
    below_more _ _ c.loop-text.invariant
    (subst IsDictionaryString (sym (string_at c.args.list.now c.loop-text.text-index empty_string [] c.loop-text-test.true)) (c.is_valid_string.ensures c.if-not-is_valid_string.false))

pub returns : goal.returns
returns c = λ _ k d lt.
    let list = c.args.list.now in
    subst IsDictionaryString (get_or_default (borrowed_texts list) k [] d lt) (c.loop-text.invariant k (omega (arith, lt, c.loop-text-test.false, length-map list (λ (v : BorrowedString). v.now))))
