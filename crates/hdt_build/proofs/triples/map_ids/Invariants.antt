use Rattle.std.proofs.Common.{◌≡◌, ℕ, ◌<◌, ◌≤◌, length, get_or}
use Rattle.hdt_build.specs.Graph.{mapped_triple}
use Rattle.hdt_build.proofs.triples.map_ids.Given as goal

abbrev pub invariant-loop-triple : goal.invariant-loop-triple
invariant-loop-triple l = record {
  long : length l.triple-items ≡ length l.initial.triple-items;
  done : (k : ℕ) → k < l.triple-index
      → get_or l.triple-items k (0, 0, 0)
      ≡ mapped_triple l.subjects l.predicates l.objects (get_or l.initial.triple-items k (0, 0, 0));
  left : (k : ℕ) → l.triple-index ≤ k → get_or l.triple-items k (0, 0, 0) ≡ get_or l.initial.triple-items k (0, 0, 0);
}
