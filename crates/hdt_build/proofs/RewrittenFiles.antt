-- Rewriting files.
use Rattle.std.proofs.Common.{◌≡◌, ◌∙◌, ℕ, ◌<◌, ◌^◌, List, length, Result, Ok, arith, ap, sym, subst}
use Rattle.hdt_wire.specs.declared.fault.Fault.{Fault}
use Rattle.hdt_wire.specs.Exact.{Exactly, viewed}
use Rattle.hdt_file.specs.File.{GraphParts, IsLayout, decode_graph}
use Rattle.hdt_file.specs.Tight.{IsTightLayout, decode_tight_graph}
use Rattle.hdt_file.specs.Graph.{graph_counts}
use Rattle.hdt_build.specs.declared.options.Options.{Options}
use Rattle.hdt_build.specs.declared.options.Report.{Report}
use Rattle.hdt_build.specs.Built.{report_of, IsBuilt, IsCanonicalWithReport, IsRewritten}
use Rattle.hdt_build.specs.Canonical.{IsCanonical}
use Rattle.hdt_file.specs.Denoted.{StringTriple}
use Rattle.hdt_build.specs.Header.{header_body}
use Rattle.hdt_build.specs.Layouts.{denoted_by, reported_lens, IsLayoutOf, IsVerified}
use Rattle.hdt_build.specs.Options.{AreValidOptions, IsBlockSize}
use Rattle.hdt_build.proofs.Equal.{count_is, one_file}
use Rattle.hdt_build.proofs.Layouts.{canonical_layout, file_layout, file_tight}

-- a canonical file is a valid file
made_layout : (header : List ℕ) (graph : List StringTriple) (b : ℕ) (bytes : List ℕ) (report : Report) → IsBlockSize b
    → IsCanonicalWithReport header graph b bytes report → length bytes < 2 ^ 64 → report.triples < 2 ^ 64
    → IsLayoutOf header graph bytes
made_layout header graph b bytes report right h small few =
    let many = count_is h.file.dictionary h.file.triples bytes report h.report_is in
    canonical_layout header graph b bytes h.file right.0 (omega (arith, right.1)) small (omega (arith, many, few))

pub built_layout : (options : Options) (graph : List StringTriple) (bytes : List ℕ) (report : Report)
    → AreValidOptions options → IsBuilt options graph bytes report
    → length bytes < 2 ^ 64 → report.triples < 2 ^ 64
    → IsLayoutOf (header_body options.base.items report.triples) graph bytes
built_layout options graph bytes report right h small few =
    made_layout (header_body options.base.items report.triples) graph options.block_size bytes report right.block_size h
    small few

-- the report of a canonical file has the counts that verifying it returns
abbrev lens_answered : Report → Result (List ℕ) Fault
lens_answered r = Ok (reported_lens r)

pub made_verified : (header : List ℕ) (graph : List StringTriple) (b : ℕ) (bytes : List ℕ) (report : Report)
    → IsBlockSize b → IsCanonicalWithReport header graph b bytes report → length bytes < 2 ^ 64
    → report.triples < 2 ^ 64
    → Exactly (decode_graph bytes) (IsLayout bytes) → Exactly (decode_tight_graph bytes) (IsTightLayout bytes)
    → IsVerified bytes report
unfolding report_of
made_verified header graph b bytes report right h small few exact tight =
    let many = count_is h.file.dictionary h.file.triples bytes report h.report_is in
    let laid = file_layout header graph b bytes h.file right.0 (omega (arith, right.1)) small
    (omega (arith, many, few)) in
    let counts = sym (ap lens_answered h.report_is) in
    record {
      verified = ap (viewed graph_counts) (exact.only _ laid) ∙ counts;
      tight = ap (viewed graph_counts)
          (tight.only _ (record { layout = laid; tight = file_tight header graph b bytes h.file })) ∙ counts;
      bytes_are = ap (λ (r : Report). r.bytes) h.report_is;
    }

pub rewritten_layout : (b : ℕ) (graph : GraphParts) (bytes : List ℕ) (report : Report) → IsBlockSize b
    → IsRewritten b graph bytes report → length bytes < 2 ^ 64 → report.triples < 2 ^ 64
    → IsLayoutOf graph.header (denoted_by graph) bytes
rewritten_layout b graph bytes report right h small few =
    made_layout graph.header (denoted_by graph) b bytes report right h small few

-- rewriting a canonical file gives the same file
made_again : (header : List ℕ) (graph : List StringTriple) (b : ℕ) (x y : List ℕ) (r s : Report) (h : GraphParts)
    → IsCanonicalWithReport header graph b x r → IsLayoutOf header graph x → ((g : GraphParts) → IsLayout x g → h ≡ g)
    → IsCanonicalWithReport h.header (denoted_by h) b y s → x ≡ y
made_again header graph b x y r s h made layout one again =
    let same : h ≡ layout.parts = one layout.parts layout.layout in
    let here : IsCanonicalWithReport layout.parts.header (denoted_by layout.parts) b y s =
    subst (λ (k : GraphParts). IsCanonicalWithReport k.header (denoted_by k) b y s) same again in
    let file : IsCanonical header (denoted_by layout.parts) b y =
    subst (λ (head : List ℕ). IsCanonical head (denoted_by layout.parts) b y) layout.header_is here.file in
    one_file header graph (denoted_by layout.parts) b x y
    (λ t. ((layout.exactly t).1, (layout.exactly t).0)) made.file file

pub rewritten_again : (b : ℕ) (graph h : GraphParts) (x y : List ℕ) (r s : Report) → IsBlockSize b
    → IsRewritten b graph x r → length x < 2 ^ 64 → r.triples < 2 ^ 64
    → ((g : GraphParts) → IsLayout x g → h ≡ g) → IsRewritten b h y s → x ≡ y
rewritten_again b graph h x y r s right made small few one again =
    made_again graph.header (denoted_by graph) b x y r s h made
    (rewritten_layout b graph x r right made small few) one again

pub built_again : (options : Options) (graph : List StringTriple) (h : GraphParts) (x y : List ℕ) (r s : Report)
    → AreValidOptions options → IsBuilt options graph x r → length x < 2 ^ 64 → r.triples < 2 ^ 64
    → ((g : GraphParts) → IsLayout x g → h ≡ g) → IsRewritten options.block_size h y s → x ≡ y
built_again options graph h x y r s right made small few one again =
    made_again _ graph options.block_size x y r s h made (built_layout options graph x r right made small few) one again
