-- The triples of documents, in batches of records.
use Rattle.std.specs.Prelude.{◌≡◌, ◌↔◌, ◌<◌, ◌+◌, ◌-◌, ◌%◌, ◌^◌, ◌++◌, ◌∷◌, ℕ, List, [], None, drop, length, map, take}
use Rattle.std.specs.Prelude.{slice_index_or}
use Rattle.std.specs.List.{Contains}
use Rattle.hdt_wire.specs.declared.Role.{Role}
use Rattle.hdt_wire.specs.declared.Role.TheVariants.{Subject, Predicate, Object}
use Rattle.hdt_triples.specs.TripleSequences.{Triple}
use Rattle.hdt_triples.specs.Uses.{Uses, role_component}
use Rattle.hdt_file.specs.Denoted.{StringTriple}
use Rattle.hdt_file.specs.File.{GraphParts}
use Rattle.hdt_dict.specs.Dictionary.{role_strings}
use Rattle.hdt_dict.specs.Writing.{AreSections}
use Rattle.hdt_build.specs.declared.collector.TripleCollector.{TripleCollector}
use Rattle.hdt_build.specs.Graph.{IsEncodedGraph, mapped_triple, string_triples_of}
use Rattle.hdt_build.specs.Inside.Collecting.{AreBelow, IsValidCollector, collected_triples}
use Rattle.hdt_build.specs.Inside.Events.{dealt, id_of_codes, pairs_of}
use Rattle.hdt_build.specs.Inside.Groups.{HaveSize, lists_of_states, SectionStates}
use Rattle.hdt_build.specs.Inside.Records.{AreRecordRuns, record_of}
use Rattle.hdt_build.specs.Inside.TripleRuns.{joined_runs}
use Rattle.hdt_build.specs.Relabelling.{relabelled}

-- the string of a record
abbrev pub plain : List ℕ → List ℕ
plain x = take (length x - 2) x

-- the triples of the strings of records
abbrev pub plain_triples : List StringTriple → List StringTriple
plain_triples ts = map (λ t. (plain t.0, plain t.1, plain t.2)) ts

-- the records of a triple of strings
abbrev pub record_triple : StringTriple → StringTriple
record_triple t = (record_of Subject t.0, record_of Predicate t.1, record_of Object t.2)

-- the strings of triples in a role
abbrev pub strings_in_role : Role → List StringTriple → List (List ℕ)
strings_in_role role g = map (role_component role) g

-- the triples of records of all batches, given the records of each batch, and its triples as indices of them
unfoldable pub batch_triples : List (List (List ℕ)) → List (List Triple) → List StringTriple
batch_triples [] tss = []
batch_triples (run ∷ runs) [] = []
batch_triples (run ∷ runs) (ts ∷ tss) = string_triples_of run ts ++ batch_triples runs tss

-- The batches have the triples g. The records are those of its strings, and no others.
pub record AreBatches (runs : List (List (List ℕ))) (tss : List (List Triple)) (g : List StringTriple) : Type 0 where
  pub long : length tss ≡ length runs
  pub below : (b : ℕ) → b < length runs
      → AreBelow (length (slice_index_or runs b [])) (slice_index_or tss b [])
  pub records : AreRecordRuns runs
  pub triples : batch_triples runs tss ≡ map record_triple g
  pub members : (role : Role) (x : List ℕ)
      → Contains (joined_runs runs) (record_of role x) ↔ Contains (strings_in_role role g) x

-- ---- one batch

-- a triple has the index in some role
abbrev pub IsUsedIndex : List Triple → ℕ → Type 0
IsUsedIndex ts k = (role : Role) × Uses ts role k

-- the triples of records, as indices of these records, each of which is used
pub record IsBatchOf (all : List StringTriple) (run : List (List ℕ)) (ts : List Triple) : Type 0 where
  pub triples : string_triples_of run ts ≡ all
  pub below : AreBelow (length run) ts
  pub used : (k : ℕ) → k < length run → IsUsedIndex ts k

-- ---- the batch of a file

-- the records of the strings of a role, with the prefix before their labels
abbrev pub records_of : List ℕ → GraphParts → Role → List (List ℕ)
records_of prefix g role = map (λ x. record_of role (relabelled prefix x)) (role_strings g.dictionary role)

-- The indices of the records of a triple, given the number of predicates and that of subjects: first come the records
-- of the predicates, then those of the subjects, then those of the objects.
abbrev pub indices_of : ℕ → ℕ → Triple → Triple
indices_of predicates subjects t = (
  (predicates + (t.0 + (2 ^ 64 - 1)) % 2 ^ 64) % 2 ^ 64,
  (t.1 + (2 ^ 64 - 1)) % 2 ^ 64,
  ((predicates + subjects) % 2 ^ 64 + (t.2 + (2 ^ 64 - 1)) % 2 ^ 64) % 2 ^ 64,
)

-- ---- while triples are added

-- the finished batches, and the collector of the current one, have triples of records
pub record HaveRecords (known : Type 0) (runs : List (List (List ℕ))) (tss : List (List Triple))
    (c : TripleCollector) : Type 0 where
  pub sound : IsValidCollector c
  pub current : collected_triples c ≡ map record_triple (plain_triples (collected_triples c))
  pub finished : known → AreBatches runs tss (plain_triples (batch_triples runs tss))
  pub some : known → batch_triples runs tss ≡ [] → runs ≡ []

-- ---- IDs

-- consecutive lists joined, so many each time
unfoldable pub grouped : {X : Type 0} → List ℕ → List (List X) → List (List X)
grouped [] xss = []
grouped (n ∷ ns) xss = joined_runs (take n xss) ∷ grouped ns (drop n xss)

-- the triples of all batches, given the ID of each record of each batch
unfoldable pub joined_mapped : List (List Triple) → List (List ℕ) → List Triple
joined_mapped [] idss = []
joined_mapped (ts ∷ tss) [] = []
joined_mapped (ts ∷ tss) (ids ∷ idss) = map (mapped_triple ids ids ids) ts ++ joined_mapped tss idss

-- the list of each of so many runs has the IDs of its records
pub record AreIdLists (known : Type 0) (count shared : ℕ) (numbers events : List ℕ)
    (lists : List (List ℕ)) : Type 0 where
  pub long : length lists ≡ count
  pub ids : known → (b : ℕ) → b < count
      → slice_index_or lists b [] ≡ dealt (id_of_codes shared) b None (pairs_of numbers) events

-- The sections are valid. If the contents of scratch are known, the sections and the triples encode the graph of the
-- batches.
pub record AreEncodedBatches (known : Type 0) (n : ℕ) (runs : List (List (List ℕ))) (tss : List (List Triple))
    (sections : SectionStates) (triples : List Triple) : Type 0 where
  pub valid : AreSections (lists_of_states sections)
  pub blocks : HaveSize n sections
  pub encoded : known → (g : List StringTriple) → AreBatches runs tss g
      → IsEncodedGraph g (lists_of_states sections) triples
