-- What reading a canonical file gives.
use Rattle.std.specs.Prelude.{◌≡◌, ℕ, List, [], ◌∷◌, length, Ok}
use Rattle.std.specs.List.{flat_map}
use Rattle.hdt_wire.specs.Exact.{viewed}
use Rattle.hdt_dict.specs.Dictionary.{SectionLists}
use Rattle.hdt_dict.specs.Strings.{SameMembers}
use Rattle.hdt_file.specs.Denoted.{StringTriple, denoted}
use Rattle.hdt_file.specs.File.{GraphParts, IsLayout, decode_graph}
use Rattle.hdt_file.specs.StringTriples.{AreDistinctTriples}
use Rattle.hdt_file.specs.Tight.{IsTight, decode_tight_graph}
use Rattle.hdt_file.specs.Graph.{graph_counts}
use Rattle.hdt_triples.specs.TripleSequences.{Triple}
use Rattle.hdt_build.specs.declared.options.Report.{Report}
use Rattle.hdt_build.specs.Relabelling.{relabelled_triples}

-- the graph that a file denotes: its triples, with the string of each ID
abbrev pub denoted_by : GraphParts → List StringTriple
denoted_by g = denoted g g.triples

-- the triples of all graphs, one graph after another, with duplicates
abbrev pub union_of : List GraphParts → List StringTriple
union_of gs = flat_map denoted_by gs

-- the triples of all graphs, one graph after another, with duplicates, and with the prefix of each before its labels
abbrev pub union_apart : List (List ℕ × GraphParts) → List StringTriple
union_apart gs = flat_map (λ g. relabelled_triples g.0 (denoted_by g.1)) gs

-- a graph of a header body, a dictionary and ID triples
abbrev pub graph_parts_of : List ℕ → SectionLists → List Triple → GraphParts
graph_parts_of header d ts = record {
  header = header;
  dictionary = d;
  triples = ts;
}

-- the counts of a report: triples, then shared, subjects, predicates and objects
abbrev pub reported_lens : Report → List ℕ
reported_lens r = r.triples ∷ r.shared ∷ r.subjects ∷ r.predicates ∷ r.objects ∷ []

-- The report has the counts that `verify` and `verify_tight` of hdt_file return for the bytes, and their length.
pub record IsVerified (bytes : List ℕ) (report : Report) : Type 0 where
  pub verified : viewed graph_counts (decode_graph bytes) ≡ Ok (reported_lens report)
  pub tight : viewed graph_counts (decode_tight_graph bytes) ≡ Ok (reported_lens report)
  pub bytes_are : report.bytes ≡ length bytes

-- The bytes are a valid file with this header body and without unused strings. The file has exactly the triples of the
-- graph, each once.
pub record IsLayoutOf (header : List ℕ) (graph : List StringTriple) (bytes : List ℕ) : Type 0 where
  pub parts : GraphParts
  pub layout : IsLayout bytes parts
  pub header_is : parts.header ≡ header
  pub tight : IsTight parts
  pub exactly : SameMembers (denoted_by parts) graph
  pub once : AreDistinctTriples (denoted_by parts)
