-- Collecting the triples of a document, as indices into its list of strings.
use Rattle.std.specs.Prelude.{◌≡◌, ℕ, ◌<◌, ◌≤◌, ◌++◌, List, [], length, slice_index_or}
use Rattle.std.specs.List.{All}
use Rattle.hdt_triples.specs.TripleSequences.{Triple}
use Rattle.hdt_wire.specs.declared.Role.{Role}
use Rattle.hdt_wire.specs.declared.Role.TheVariants.{Subject, Predicate, Object}
use Rattle.hdt_dict.specs.Dictionary.{role_strings}
use Rattle.hdt_file.specs.Denoted.{StringTriple, string_of}
use Rattle.hdt_file.specs.File.{GraphParts}
use Rattle.hdt_build.specs.declared.sections.NewIds.{NewIds}
use Rattle.hdt_build.specs.Inside.Rewriting.{new_id}
use Rattle.hdt_build.specs.Reading.{HasDictionaryStrings}
use Rattle.hdt_build.specs.Relabelling.{relabelled}
use Rattle.hdt_build.specs.Graph.{string_triples_of}
use Rattle.hdt_build.specs.declared.collector.TripleCollector.{TripleCollector}
use Rattle.hdt_build.specs.declared.queue.Queue.{Queue}

-- all indices of the triples are less than n
pub record AreBelow (n : ℕ) (ids : List Triple) : Type 0 where
  pub subjects : All (λ t. t.0 < n) ids
  pub predicates : All (λ t. t.1 < n) ids
  pub objects : All (λ t. t.2 < n) ids

-- each ID of a role is mapped to an index of its string, with the prefix before its label, in the list
abbrev pub HaveIndices : List ℕ → GraphParts → Role → List (List ℕ) → (ℕ → ℕ) → Type 0
HaveIndices prefix g role xs index = (n : ℕ) → 1 ≤ n → n ≤ length (role_strings g.dictionary role)
    → (index n < length xs) × (slice_index_or xs (index n) [] ≡ relabelled prefix (string_of g role n))

-- each ID of each role is mapped to an index of its string, with the prefix before its label, in the list
pub record AreIndexMaps (prefix : List ℕ) (g : GraphParts) (xs : List (List ℕ)) (ids : NewIds) : Type 0 where
  pub subjects : HaveIndices prefix g Subject xs (new_id ids.subjects)
  pub predicates : HaveIndices prefix g Predicate xs (new_id ids.predicates)
  pub objects : HaveIndices prefix g Object xs (new_id ids.objects)

-- the string triples of a queue, in input order, with duplicates
abbrev pub queued_triples : Queue → List StringTriple
queued_triples q = string_triples_of q.strings q.ids.items

-- all indices of queued triples are those of strings
abbrev pub IsValidQueue : Queue → Type 0
IsValidQueue q = AreBelow (length q.strings) q.ids.items

-- the string triples collected so far, in input order, with duplicates
abbrev pub collected_triples : TripleCollector → List StringTriple
collected_triples c = string_triples_of c.terms c.ids.items ++ queued_triples c.queue

-- all indices of the triples, queued or not, are those of strings
pub record IsValidCollector (c : TripleCollector) : Type 0 where
  pub interned : AreBelow (length c.terms) c.ids.items
  pub queued : IsValidQueue c.queue

-- all indices of the triples are those of strings, and a dictionary can have the strings of the triples
pub record IsValidMerger (xs : List (List ℕ)) (ids : List Triple) : Type 0 where
  pub sound : AreBelow (length xs) ids
  pub texts : HasDictionaryStrings (string_triples_of xs ids)

-- the collector is valid, and a dictionary can have the strings of its triples
pub record IsValidBuilder (c : TripleCollector) : Type 0 where
  pub sound : IsValidCollector c
  pub texts : HasDictionaryStrings (collected_triples c)
