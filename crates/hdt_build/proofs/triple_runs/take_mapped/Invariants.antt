use Rattle.std.proofs.Common.{◌≡◌, ◌-◌, ◌++◌, length, map}
use Rattle.hdt_build.specs.Graph.{mapped_triple}
use Rattle.hdt_build.proofs.triple_runs.take_mapped.Given as goal

abbrev pub invariant-triples : goal.invariant-triples
invariant-triples g l = record {
  known : g.S.Scratch.IsKnown → l.part.items ++ map (mapped_triple l.ids l.ids l.ids) l.reader
      ≡ map (mapped_triple l.ids l.ids l.ids) l.fn.reader;
}

abbrev pub decreases-triples : goal.decreases-triples
decreases-triples g l = l.most - length l.part.items
