use Rattle.std.proofs.Common.{◌≡◌, ◌-◌, [], ℕ, List, ap, ◌∙◌, arith}
use Rattle.hdt_front.specs.PackedView.{block_layout}
use Rattle.hdt_front.specs.Iteration.{IterState, located_from}
use Rattle.hdt_front.specs.SectionIteration.{located_strings}
use Rattle.hdt_front.proofs.section_iter.SectionIter.new.Goals as goal

pub returns : goal.returns
unfolding located_strings
returns c =
    let s = c.args.section.now.packed in
    let view : ℕ → List ℕ → IterState =
    λ n last. record {
      last = last;
      ahead =
          located_from (block_layout c.args.section.now.packed) n 0 last c.args.section.now.packed.bytes.now;
    } in
    let all : s.count - 0 ≡ s.count = omega arith in
    ap (view (s.count - 0)) c.new.ensures.items ∙ ap (λ n. view n []) all
