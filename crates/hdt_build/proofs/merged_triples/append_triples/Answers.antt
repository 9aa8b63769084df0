use Rattle.std.proofs.Common.{◌∙◌, ◌++◌, List, map, ap, refl}
use Rattle.hdt_triples.specs.TripleSequences.{Triple}
use Rattle.hdt_file.specs.Graph.{graph_view}
use Rattle.hdt_build.specs.Inside.Rewriting.{with_new_ids}
use Rattle.hdt_build.proofs.DenotedStrings.{matches_all}
use Rattle.hdt_build.proofs.merged_triples.append_triples.Goals as goal

pub triples-init : goal.triples-init
triples-init c =
    let all = (graph_view c.args.graph.now).triples in
    record {
      joined = ap (λ (ts : List Triple). c.args.out.now ++ map (with_new_ids c.args.ids.now) ts)
          (c.search-triples.ensures.items ∙ matches_all _ all refl refl refl);
    }
