use Rattle.std.proofs.Common.{◌≡◌, ◌++◌, length}
use Rattle.hdt_build.proofs.triple_merging.append_run.Given as goal

abbrev pub invariant-triples : goal.invariant-triples
invariant-triples l = l.out.items ++ l.reader ≡ l.fn.out.items ++ l.run

abbrev pub decreases-triples : goal.decreases-triples
decreases-triples l = length l.reader
