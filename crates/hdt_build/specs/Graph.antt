-- A graph as string triples, and its encoding as a dictionary and ID triples (HDT submission, dictionary and triples).
use Rattle.std.specs.Prelude.{ℕ, List, [], map, slice_index, slice_index_or}
use Rattle.std.specs.List.{All}
use Rattle.hdt_dict.specs.Split.{IsSplit}
use Rattle.hdt_dict.specs.Strings.{SameMembers}
use Rattle.hdt_triples.specs.TripleSequences.{Triple}
use Rattle.hdt_triples.specs.Order.{AreAscending, IsInRange}
use Rattle.hdt_file.specs.Denoted.{StringTriple}
use Rattle.hdt_build.specs.Layouts.{denoted_by, graph_parts_of}
use Rattle.hdt_dict.specs.Dictionary.{SectionLists}
use Rattle.hdt_file.specs.File.{role_counts}

abbrev pub subjects_of : List StringTriple → List (List ℕ)
subjects_of g = map (λ t. t.0) g

abbrev pub predicates_of : List StringTriple → List (List ℕ)
predicates_of g = map (λ t. t.1) g

abbrev pub objects_of : List StringTriple → List (List ℕ)
objects_of g = map (λ t. t.2) g

-- The dictionary and the ID triples encode the graph: the sections have exactly the strings that it uses in their
-- roles, the triples ascend, and a file with these, whatever its header body, denotes exactly the graph.
pub record IsEncodedGraph (g : List StringTriple) (d : SectionLists) (ts : List Triple) : Type 0 where
  pub sections : IsSplit (subjects_of g) (predicates_of g) (objects_of g) d
  pub ascending : AreAscending ts
  pub in_range : All (IsInRange (role_counts d)) ts
  pub denotes : SameMembers (denoted_by (graph_parts_of [] d ts)) g

-- ---- triples of indices into a list of strings

abbrev pub string_triple_at : List (List ℕ) → Triple → StringTriple
string_triple_at xs t = (slice_index_or xs t.0 [], slice_index_or xs t.1 [], slice_index_or xs t.2 [])

-- the string triples of index triples
abbrev pub string_triples_of : List (List ℕ) → List Triple → List StringTriple
string_triples_of xs ids = map (string_triple_at xs) ids

-- an index triple, mapped through one list for each role
abbrev pub mapped_triple : (sn pn on : List ℕ) → Triple → Triple
mapped_triple sn pn on t = (slice_index sn t.0, slice_index pn t.1, slice_index on t.2)
