-- The files that are built from a document and rewritten from a graph.
use Rattle.std.specs.Prelude.{◌≡◌, ℕ, ◌<◌, ◌^◌, List, length, map, take, Option}
use Rattle.std.specs.List.{flat_map}
use Rattle.std.specs.Io.KnownBytes.{Appends}
use Rattle.hdt_wire.specs.Checks.{IsBytes}
use Rattle.hdt_dict.specs.Dictionary.{SectionLists}
use Rattle.hdt_triples.specs.TripleSequences.{Triple}
use Rattle.hdt_build.specs.declared.options.Options.{Options}
use Rattle.hdt_build.specs.declared.options.Report.{Report}
use Rattle.hdt_build.specs.Canonical.{IsCanonical}
use Rattle.hdt_file.specs.Denoted.{StringTriple}
use Rattle.hdt_file.specs.File.{GraphParts, IsLayout}
use Rattle.hdt_build.specs.Header.{header_body}
use Rattle.hdt_build.specs.Layouts.{denoted_by, union_of}
use Rattle.hdt_build.specs.Options.{AreValidOptions, IsBlockSize}
use Rattle.hdt_build.specs.Reading.{IsInputGraph}

-- the report of a file with these sections, triples and bytes
unfoldable pub report_of : SectionLists → List Triple → List ℕ → Report
report_of d ts bytes = record {
  triples = length ts;
  shared = length d.shared;
  subjects = length d.subjects;
  predicates = length d.predicates;
  objects = length d.objects;
  bytes = length bytes;
}

-- the canonical file of a header body, a set of string triples and a block size, with its report
pub record IsCanonicalWithReport (header : List ℕ) (graph : List StringTriple) (b : ℕ) (bytes : List ℕ)
    (report : Report) : Type 0 where
  pub file : IsCanonical header graph b bytes
  pub report_is : report ≡ report_of file.dictionary file.triples bytes

-- the canonical file of a set of string triples under the options, with its report
abbrev pub IsBuilt : Options → List StringTriple → List ℕ → Report → Type 0
IsBuilt options graph bytes report =
    IsCanonicalWithReport (header_body options.base.items report.triples) graph options.block_size bytes report

-- the input is a document, and the bytes and the report are built from its graph
pub record Builds (options : Options) (input : Option (List ℕ)) (bytes : List ℕ) (report : Report) : Type 0 where
  pub graph : List StringTriple
  pub read : IsInputGraph input graph
  pub built : IsBuilt options graph bytes report

-- all bytes that are built from the input were written
pub record WritesBuilt (options : Options) (input before after : Option (List ℕ)) (report : Report) : Type 0 where
  pub bytes : List ℕ
  pub builds : Builds options input bytes report
  pub written : Appends before after bytes

-- only the first n of these bytes were written
pub record WritesBuiltPrefix (options : Options) (input before after : Option (List ℕ)) (n : ℕ) : Type 0 where
  pub bytes : List ℕ
  pub report : Report
  pub builds : Builds options input bytes report
  pub part : n < length bytes
  pub written : Appends before after (take n bytes)

-- all bytes of the canonical file of these string triples were written
pub record WritesTriples (options : Options) (graph : List StringTriple) (before after : Option (List ℕ))
    (report : Report) : Type 0 where
  pub bytes : List ℕ
  pub built : IsBuilt options graph bytes report
  pub written : Appends before after bytes

-- ---- rewriting

-- the canonical file of the string triples that the graph denotes, with the graph's header body, and its report
abbrev pub IsRewritten : ℕ → GraphParts → List ℕ → Report → Type 0
IsRewritten b graph bytes report = IsCanonicalWithReport graph.header (denoted_by graph) b bytes report

-- the bytes are the file that `rewrite` makes of them, in blocks of b strings
pub record IsRewrittenAs (b : ℕ) (bytes : List ℕ) : Type 0 where
  pub size : IsBlockSize b
  pub graph : GraphParts
  pub encoded : IsLayout bytes graph
  pub report : Report
  pub rewritten : IsRewritten b graph bytes report

-- all bytes of that file were written
pub record WritesRewritten (b : ℕ) (graph : GraphParts) (before after : Option (List ℕ))
    (report : Report) : Type 0 where
  pub bytes : List ℕ
  pub rewritten : IsRewritten b graph bytes report
  pub written : Appends before after bytes

-- only its first n bytes were written
pub record WritesRewrittenPrefix (b : ℕ) (graph : GraphParts) (before after : Option (List ℕ)) (n : ℕ) : Type 0 where
  pub bytes : List ℕ
  pub report : Report
  pub rewritten : IsRewritten b graph bytes report
  pub part : n < length bytes
  pub written : Appends before after (take n bytes)

-- ---- merging

-- all bytes of the canonical file of all triples of these graphs were written
pub record WritesMerged (options : Options) (graphs : List GraphParts) (before after : Option (List ℕ))
    (report : Report) : Type 0 where
  pub bytes : List ℕ
  pub merged : IsBuilt options (union_of graphs) bytes report
  pub written : Appends before after bytes

-- only its first n bytes were written
pub record WritesMergedPrefix (options : Options) (graphs : List GraphParts) (before after : Option (List ℕ))
    (n : ℕ) : Type 0 where
  pub bytes : List ℕ
  pub report : Report
  pub merged : IsBuilt options (union_of graphs) bytes report
  pub part : n < length bytes
  pub written : Appends before after (take n bytes)

-- string triples, and the graph of a file that was built from them under valid options
pub record BuiltGraph : Type 0 where
  pub triples : List StringTriple
  pub options : Options
  pub bytes : List ℕ
  pub report : Report
  pub graph : GraphParts
  pub right : AreValidOptions options
  pub built : IsBuilt options triples bytes report
  pub are_bytes : IsBytes bytes
  pub small : length bytes < 2 ^ 64
  pub few : report.triples < 2 ^ 64
  pub layout : IsLayout bytes graph

-- the triples of all documents, one document after another
abbrev pub joined_triples : List BuiltGraph → List StringTriple
joined_triples fs = flat_map (λ f. f.triples) fs

-- the graphs of their files
abbrev pub graphs_of : List BuiltGraph → List GraphParts
graphs_of fs = map (λ f. f.graph) fs
