use Rattle.std.proofs.Common.{ℕ, ◌<◌}
use Rattle.hdt_triples.specs.Inside.Writable.{IsWritableAt}
use Rattle.hdt_triples.proofs.writing.are_writable.Given as goal

abbrev pub invariant-loop-i : goal.invariant-loop-i
invariant-loop-i l = (k : ℕ) → k < l.i → IsWritableAt l.triples k
