use Rattle.std.proofs.Common.{◌∙◌, ◌++◌, List, ℕ, ap, arith, sym}
use Rattle.hdt_build.proofs.TripleRuns.{joined_next, joined_none}
use Rattle.hdt_build.proofs.triple_runs.all_numbers.Goals as goal

pub loop-list-init : goal.loop-list-init
loop-list-init g c = record { known = λ _. c.new-made.ensures.items ∙ sym (joined_none {X = ℕ}) }

pub loop-list-preserved : goal.loop-list-preserved
loop-list-preserved g c = record {
  known = λ known.
      c.in_ok-append_numbers.ensures c.if-not-branch.false known
      ∙ (ap (λ (l : List ℕ). l ++ c.list-item.result) (c.loop-list.invariant.known known)
      ∙ sym (joined_next c.args.lists.now c.loop-list.list-index c.list-item.result (omega arith) c.list-item.is));
}
