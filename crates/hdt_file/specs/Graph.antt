-- The graph of a valid file, and the views of a `Layout` and a `Graph`.
use Rattle.std.specs.Prelude.{◌<◌, length, ℕ, ◌+◌, List, [], ◌∷◌}
use Rattle.hdt_front.specs.Section.{AreSectionStrings}
use Rattle.hdt_dict.specs.Dictionary.{AreDisjoint, lists_of_dictionary}
use Rattle.hdt_triples.specs.Order.{AreAscending, AreInRange}
use Rattle.hdt_file.specs.File.{FileParts, GraphParts, graph_of_file, role_counts}
use Rattle.hdt_dict.specs.Views.{dictionary_of}
use Rattle.hdt_triples.specs.IndexViews.{directories_held, lists_held, triples_listed}
use Rattle.hdt_triples.specs.Views.{triples_view, entry_widths}
use Rattle.hdt_file.specs.Head.{head_parts}
use Rattle.hdt_file.specs.declared.graph.Graph.{Graph}
use Rattle.hdt_file.specs.declared.layout.Layout.{Layout}

-- Four sections of strings, no string in two of shared, subjects and objects, and at least one triple. The triples
-- strictly ascend, and each of their IDs is that of a string.
pub record IsGraph (g : GraphParts) : Type 0 where
  pub shared : AreSectionStrings g.dictionary.shared
  pub subjects : AreSectionStrings g.dictionary.subjects
  pub predicates : AreSectionStrings g.dictionary.predicates
  pub objects : AreSectionStrings g.dictionary.objects
  pub shared_subjects : AreDisjoint g.dictionary.shared g.dictionary.subjects
  pub shared_objects : AreDisjoint g.dictionary.shared g.dictionary.objects
  pub subjects_objects : AreDisjoint g.dictionary.subjects g.dictionary.objects
  pub some : 0 < length g.triples
  pub range : AreInRange (role_counts g.dictionary) g.triples
  pub ascend : AreAscending g.triples

-- ---- a `Layout` and a `Graph`

-- the file of a `Layout`, without addresses in memory
unfoldable pub parts_of_layout : Layout → FileParts
parts_of_layout l = record {
  head = head_parts l.head;
  dictionary = dictionary_of l.dictionary;
  triples = triples_view l.triples;
  widths = entry_widths l.triples;
}

-- the file of a `Graph`
unfoldable pub parts_of_graph : Graph → FileParts
parts_of_graph g = record {
  head = head_parts g.head;
  dictionary = dictionary_of g.dictionary;
  triples = triples_view (triples_listed g.triples);
  widths = entry_widths (triples_listed g.triples);
}

-- the number of u64 values in the rank/select indexes and the inverted indexes of the triples of a file
abbrev pub parts_held : FileParts → ℕ
parts_held p = directories_held p.triples + lists_held (role_counts (lists_of_dictionary p.dictionary)) p.triples

-- the graph of a `Layout`: its header body, the strings of its sections, and its triples as IDs
unfoldable pub layout_view : Layout → GraphParts
layout_view l = graph_of_file (parts_of_layout l)

-- the graph of a `Graph`
unfoldable pub graph_view : Graph → GraphParts
graph_view g = graph_of_file (parts_of_graph g)

-- the number of triples, and of strings in each section: shared, subjects, predicates, objects
abbrev pub graph_counts : GraphParts → List ℕ
graph_counts g = length g.triples ∷ length g.dictionary.shared ∷ length g.dictionary.subjects
    ∷ length g.dictionary.predicates ∷ length g.dictionary.objects ∷ []
