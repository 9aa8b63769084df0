-- The report of merging graphs into one file.
use Rattle.std.specs.Prelude.{◌≡◌, ◌⊎◌, ◌+◌, ℕ, Bool, true, false, List, [], ◌∷◌, ◌++◌, map, Option, Some, None}
use Rattle.std.specs.List.{Contains, flat_map}
use Rattle.hdt_file.specs.Denoted.{StringTriple}
use Rattle.hdt_file.specs.Graph.{graph_view}
use Rattle.hdt_file.specs.declared.graph.Graph.{Graph}
use Rattle.hdt_build.specs.Built.{IsBuilt}
use Rattle.hdt_build.specs.Layouts.{denoted_by}
use Rattle.hdt_build.specs.Relabelling.{apart_prefix, relabelled_triples}
use Rattle.hdt_build.specs.declared.options.Options.{Options}
use Rattle.hdt_build.specs.declared.options.Report.{Report}
use Rattle.hdt_c.specs.Building.{AreGivenOptions, AreInvalidOptions, built_report, report_for}
use Rattle.hdt_c.specs.Bytes.{HoldsBytes, HoldsNoBytes}
use Rattle.hdt_c.specs.Handle.{IsClosed}
use Rattle.hdt_c.specs.Inside.ResourceKind.{graph_of}
use Rattle.hdt_c.specs.ReasonNumbers.{bad_options_reason, no_triples_reason, out_of_memory_reason}
use Rattle.hdt_c.specs.declared.bytes.HdtBytes.{HdtBytes}
use Rattle.hdt_c.specs.declared.handle.HdtGraph.{HdtGraph}
use Rattle.hdt_c.specs.declared.report.HdtReport.{HdtReport}

-- the state of a handle, and its graph
abbrev pub content : HdtGraph → ℕ × Option Graph
content h = (h.state, graph_of h.resource.value)

-- each handle is open or closed as before, and has the same graph
abbrev pub SameGraphs : List HdtGraph → List HdtGraph → Type 0
SameGraphs old new = map content new ≡ map content old

-- the triples of a graph, if there is one
abbrev pub triples_of_graph : Option Graph → List StringTriple
triples_of_graph None = []
triples_of_graph (Some g) = denoted_by (graph_view g)

-- the triples of the graphs of all handles, one graph after another, with duplicates
abbrev pub triples_in : List HdtGraph → List StringTriple
triples_in hs = flat_map (λ h. triples_of_graph (graph_of h.resource.value)) hs

-- What goes before the labels of the graph with this number, from 0.
abbrev pub graph_prefix : Bool → ℕ → List ℕ
graph_prefix true n = apart_prefix n
graph_prefix false n = []

-- the triples of the graph of a handle, with the prefix of this number before its labels
abbrev pub triples_apart_of : ℕ → HdtGraph → List StringTriple
triples_apart_of n h = relabelled_triples (graph_prefix true n) (triples_of_graph (graph_of h.resource.value))

-- those of the graphs of all handles, which are numbered from n on, with duplicates
abbrev pub triples_apart : ℕ → List HdtGraph → List StringTriple
triples_apart n [] = []
triples_apart n (h ∷ hs) = triples_apart_of n h ++ triples_apart (n + 1) hs

-- The triples that are merged: with `apart` a label in two graphs is two nodes, else it is one.
abbrev pub merged_triples : Bool → List HdtGraph → List StringTriple
merged_triples true hs = triples_apart 0 hs
merged_triples false hs = triples_in hs

-- one of the handles is closed
pub record HasClosed (handles : List HdtGraph) : Type 0 where
  pub handle : HdtGraph
  pub is_in : Contains handles handle
  pub closed : IsClosed handle

-- the options are not invalid, and the bytes are the canonical file of these triples
pub record MergesTriples (triples : List StringTriple) (base : List ℕ) (b : ℕ) (bytes : List ℕ)
    (report : Report) : Type 0 where
  pub options : Options
  pub given : AreGivenOptions base b options
  pub right : AreInvalidOptions base b → ⊥
  pub built : IsBuilt options triples bytes report

-- the reason if there is no file: there are no handles; or the options are not valid; or memory ran out
abbrev pub RefusesMerging : List HdtGraph → List ℕ → ℕ → ℕ → Type 0
RefusesMerging handles base b reason = ((reason ≡ no_triples_reason) × (handles ≡ []))
    ⊎ (((reason ≡ bad_options_reason) × AreInvalidOptions base b) ⊎ (reason ≡ out_of_memory_reason))

-- the bytes are the file, and the report says so
pub record MergesBytes (triples : List StringTriple) (base : List ℕ) (b : ℕ) (out : HdtBytes)
    (reported : HdtReport) : Type 0 where
  pub bytes : List ℕ
  pub report : Report
  pub is : MergesTriples triples base b bytes report
  pub made : HoldsBytes out bytes
  pub is_reported : reported ≡ built_report report

-- there are no bytes, and the report has the reason
pub record FailsToMerge (handles : List HdtGraph) (base : List ℕ) (b : ℕ) (out : HdtBytes)
    (reported : HdtReport) : Type 0 where
  pub reason : ℕ
  pub is_fault : RefusesMerging handles base b reason
  pub made : HoldsNoBytes out
  pub is_reported : reported ≡ report_for reason

-- the result if all handles are open, and these triples are merged
abbrev pub ReportsMergeOf : List StringTriple → List HdtGraph → List ℕ → ℕ → HdtBytes → HdtReport → Type 0
ReportsMergeOf triples handles base b out report =
    MergesBytes triples base b out report ⊎ FailsToMerge handles base b out report

-- the result of `hdt_merge` if all handles are open
abbrev pub ReportsMerge : List HdtGraph → List ℕ → ℕ → HdtBytes → HdtReport → Type 0
ReportsMerge handles base b out report = ReportsMergeOf (triples_in handles) handles base b out report

-- that of `hdt_merge_with` if blank nodes are kept apart
abbrev pub ReportsMergeApart : List HdtGraph → List ℕ → ℕ → HdtBytes → HdtReport → Type 0
ReportsMergeApart handles base b out report = ReportsMergeOf (triples_apart 0 handles) handles base b out report
