use Rattle.std.proofs.Common.{◌≡◌, ◌++◌, map, length}
use Rattle.hdt_triples.specs.Remaining.{remaining_matches}
use Rattle.hdt_file.specs.Graph.{graph_view}
use Rattle.hdt_build.specs.Inside.Rewriting.{with_new_ids}
use Rattle.hdt_build.proofs.merged_triples.append_triples.Given as goal

abbrev pub invariant-triples : goal.invariant-triples
invariant-triples l =
    let f = with_new_ids l.ids in
    record { joined : l.out ++ map f (remaining_matches l.triples) ≡ l.fn.out ++ map f (graph_view l.graph).triples }

abbrev pub decreases-triples : goal.decreases-triples
decreases-triples l = length (remaining_matches l.triples)
