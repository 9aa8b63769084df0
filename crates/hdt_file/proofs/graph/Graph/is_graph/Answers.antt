use Rattle.std.proofs.Common.{◌-◌, true, length, arith, subst}
use Rattle.std.proofs.lemmas.Option.{slice_get_within}
use Rattle.hdt_triples.specs.declared.pattern.Counts.{Counts}
use Rattle.hdt_triples.specs.Laws.TripleSequences.{length-triples}
use Rattle.hdt_triples.specs.IndexViews.{string_counts, triples_listed}
use Rattle.hdt_triples.specs.Order.{AreInRange}
use Rattle.hdt_triples.specs.Laws.Order.{triples_ascend, triples_in_range}
use Rattle.hdt_triples.specs.TripleSequences.{triples_of}
use Rattle.hdt_triples.specs.Views.{triples_view}
use Rattle.hdt_file.specs.Graph.{graph_view, parts_of_graph}
use Rattle.hdt_file.proofs.graph.Graph.is_graph.Goals as goal

pub returns : goal.returns
unfolding graph_view parts_of_graph triples_view
returns c =
    let g = c.args.self.now in
    let t = triples_listed g.triples in
    let f = triples_view t in
    let d = c.sections_are_valid.ensures in
    record {
      shared = d.shared;
      subjects = d.subjects;
      predicates = d.predicates;
      objects = d.objects;
      shared_subjects = d.shared_subjects;
      shared_objects = d.shared_objects;
      subjects_objects = d.subjects_objects;
      some = omega (
        arith,
        length-triples f,
        t.valid.marked.triples,
        slice_get_within f.bitmap_z (length f.bitmap_z - 1) true t.valid.marked.last_triple,
      );
      range = subst (λ (counts : Counts). AreInRange counts (triples_of f)) g.roles
          (triples_in_range (string_counts t) f t.valid);
      ascend = triples_ascend (string_counts t) f t.valid;
    }
