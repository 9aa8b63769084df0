use Rattle.std.proofs.Common.{◌≡◌, ◌++◌, take}
use Rattle.hdt_build.proofs.triple_runs.written.Given as goal

abbrev pub invariant-loop-triple : goal.invariant-loop-triple
invariant-loop-triple g l = record {
  known : g.S.Scratch.IsKnown → l.writer ≡ l.fn.out ++ take l.triple-index l.triples;
}
