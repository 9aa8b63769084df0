use Rattle.std.proofs.Common.{◌∙◌, [], map, ap, arith}
use Rattle.std.specs.Prelude.{slice_index}
use Rattle.std.proofs.lemmas.List.{take_all}
use Rattle.hdt_build.proofs.IndexTriples.{mapped_more}
use Rattle.hdt_build.proofs.triples.mapped_numbers.Goals as goal

pub loop-number-preserved : goal.loop-number-preserved
loop-number-preserved c =
    let l = c.loop-number in
    record {
      mapped = rw c.in_ok-push.ensures.items
          (mapped_more (slice_index c.args.list.now) 0 c.args.numbers.now l.number-index [] l.made.items
          c.loop-number-test.true l.invariant.mapped);
    }

pub returns : goal.returns
returns c =
    let l = c.loop-number in
    l.invariant.mapped ∙ ap (map (slice_index c.args.list.now))
    (take_all l.number-index c.args.numbers.now (omega (arith, c.loop-number-test.false)))
