use Rattle.std.proofs.Common.{◌≡◌, ℕ, ◌+◌, ◌<◌, get_or}
use Rattle.std.specs.declared.cmp.Ordering.TheVariants.{Less}
use Rattle.hdt_build.proofs.Order.{triple_cmp}
use Rattle.hdt_build.proofs.triples.are_ascending.Given as goal

abbrev pub invariant-loop-at : goal.invariant-loop-at
invariant-loop-at l = record {
  ascend : (k : ℕ) → k + 1 < l.at → triple_cmp (get_or l.triples k (0, 0, 0)) (get_or l.triples (k + 1) (0, 0, 0))
      ≡ Less;
}
