use Rattle.std.proofs.Common.{refl}
use Rattle.hdt_build.specs.Inside.Groups.{numbers_of_codes}
use Rattle.hdt_build.proofs.RecordMerging.{merge_ended}
use Rattle.hdt_build.proofs.record_merging.merge_records.Goals as goal

pub returns : goal.returns
returns g c n has =
    let m = c.in_ok-take_records.ensures c.if-not-branch.false n has in
    let t = c.take_records.new in
    merge_ended g.S.Scratch.IsKnown n c.args.runs.now m.rests t.builder t.numbers t.events m.merging m.none
    c.in_ok-sections.sections (numbers_of_codes c.in_ok-sections.codes) c.push_codes.new.numbers t.events
    (c.in_ok-sections.ensures n m.merging.groups m.merging.codes m.merging.has) c.in_ok-push_codes.ensures (λ _. refl)
