use Rattle.std.proofs.Common.{◌≡◌, ◌++◌, map, take}
use Rattle.hdt_build.specs.Graph.{mapped_triple}
use Rattle.hdt_build.proofs.triples.extend_mapped.Given as goal

abbrev pub invariant-loop-triple : goal.invariant-loop-triple
invariant-loop-triple l = record {
  mapped : l.out.items ≡ l.fn.out.items
      ++ map (mapped_triple l.indices l.indices l.indices) (take l.triple-index l.triples);
}
