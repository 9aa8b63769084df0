-- The checks of a file are exact. Bytes encode at most one file and graph, and otherwise have one first error.
use Rattle.std.proofs.Common.{◌≡◌, ◌⊎◌, ℕ, ◌<◌, ◌^◌, List, length, eqb, true, Result, Ok, Err, refl, ap, ◌∙◌, subst}
use Rattle.std.proofs.Common.{arith}
use Rattle.std.proofs.lemmas.Bool.{eqb-true}
use Rattle.std.proofs.lemmas.Bool.Decides.{Decides-eqb}
use Rattle.hdt_wire.specs.declared.fault.Reason.TheVariants.{TrailingBytes}
use Rattle.hdt_wire.specs.declared.fault.Fault.{Fault}
use Rattle.hdt_wire.specs.Checks.{IsBytes, ReadsUnlessOom}
use Rattle.hdt_wire.specs.Laws.Checks.{bind_ok, demand_ok}
use Rattle.hdt_wire.specs.Exact.{Exactly, UniqueValue, UniqueFault, viewed}
use Rattle.hdt_wire.specs.Laws.Exact.{done, ok_is, holds_of_ok, one_value, value_or_fault}
use Rattle.hdt_triples.specs.Laws.Order.{triples_ascend, triples_in_range}
use Rattle.hdt_triples.specs.Laws.TripleSequences.{length-triples}
use Rattle.hdt_triples.specs.Triples.{TripleParts, bitmap_triples, decode_triple_parts}
use Rattle.hdt_triples.specs.Laws.Triples.{triples_exact}
use Rattle.hdt_dict.specs.Dictionary.{dictionary_at, lists_of_dictionary}
use Rattle.hdt_dict.specs.Laws.Dictionary.{dictionary_exact}
use Rattle.hdt_triples.specs.Order.{AreAscending, AreInRange}
use Rattle.hdt_triples.specs.TripleSequences.{BitmapTriples, Triple, triples_of}
use Rattle.hdt_triples.specs.Views.{decode_triples, triple_parts_view}
use Rattle.hdt_file.specs.Head.{decode_head}
use Rattle.hdt_file.proofs.HeadLaws.{head_exact}
use Rattle.hdt_file.specs.Faults.{open_fault_of}
use Rattle.hdt_file.specs.File.{FileParts, IsFile, decode_file, GraphParts, graph_of_file, IsLayout, role_counts}
use Rattle.hdt_file.specs.File.{decode_graph}
use Rattle.hdt_file.specs.Graph.{IsGraph, layout_view, parts_of_layout}
use Rattle.hdt_file.specs.declared.fault.OpenFault.{OpenFault}
use Rattle.hdt_file.specs.declared.fault.OpenFault.TheVariants as opens
use Rattle.hdt_file.specs.declared.layout.Layout.{Layout}

-- what is kept of the triples: their lists, the widths of entries, and the offset after them
abbrev Kept : Type 0
Kept = BitmapTriples × (ℕ × ℕ) × ℕ

pub file_exact : (bytes : List ℕ) → IsBytes bytes → length bytes < 2 ^ 64
    → Exactly (decode_file bytes) (λ file. IsFile file bytes)
unfolding decode_file
file_exact bytes fits small = record {
  found = λ file e.
      bind_ok (decode_head bytes) _ _ e (λ head e1 e.
      bind_ok (dictionary_at bytes head.end) _ _ e (λ d e2 e.
      let counts = role_counts (lists_of_dictionary d) in
      bind_ok (decode_triples counts bytes d.objects.end) _ _ e (λ t e3 e.
      bind_ok (decode_triple_parts counts bytes d.objects.end) _ _ e3 (λ section e4 seen.
      demand_ok (eqb t.2 (length bytes)) t.2 TrailingBytes _ _ e (λ h e.
      let kept : triple_parts_view section ≡ t = ok_is (triple_parts_view section) t seen in
      holds_of_ok (λ (file : FileParts). IsFile file bytes) _ _ e (record {
        head = (head_exact bytes fits small).found head e1;
        dictionary = (dictionary_exact bytes head.end fits).found d e2;
        parts = section;
        triples = (triples_exact counts bytes d.objects.end fits).found section e4;
        lists = ap (λ (k : Kept). k.0) kept;
        widths = ap (λ (k : Kept). k.1) kept;
        end = ap (λ (k : Kept). k.2) kept ∙ eqb-true _ _ h;
      }))))));
  only = λ file h.
      let d = file.dictionary in
      let counts = role_counts (lists_of_dictionary d) in
      let r1 = (head_exact bytes fits small).only file.head h.head in
      let r2 = (dictionary_exact bytes file.head.end fits).only d h.dictionary in
      let kept : triple_parts_view h.parts ≡ (file.triples, file.widths, length bytes) =
      rw (h.lists, h.widths, h.end) refl in
      let r3 : decode_triples counts bytes d.objects.end ≡ done (file.triples, file.widths, length bytes) =
      ap (λ (r : Result TripleParts Fault). viewed triple_parts_view r)
      ((triples_exact counts bytes d.objects.end fits).only h.parts h.triples)
      ∙ ap (λ (k : Kept). done k) kept in
      let t1 : eqb (length bytes) (length bytes) ≡ true = (Decides-eqb _ _).1 refl in
      rw (r1, r2, r3, t1) refl;
}

-- the checks return the graph of a valid file
pub layout_exact : (bytes : List ℕ) → IsBytes bytes → length bytes < 2 ^ 64
    → Exactly (decode_graph bytes) (IsLayout bytes)
unfolding decode_graph
layout_exact bytes fits small =
    let file = file_exact bytes fits small in
    record {
      found = λ g e. bind_ok (decode_file bytes) _ _ e
          (λ x e1 e. record { file = x; encoded = file.found x e1; denotes = ok_is (graph_of_file x) g e });
      only = λ g h. rw (file.only h.file h.encoded) (ap (λ (y : GraphParts). Ok y) h.denotes);
    }

-- bytes encode at most one file
pub file_unique : (bytes : List ℕ) (a b : FileParts) → IsBytes bytes → length bytes < 2 ^ 64 → IsFile a bytes
    → IsFile b bytes → a ≡ b
file_unique bytes a b fits small p q =
    one_value (decode_file bytes) (λ (file : FileParts). IsFile file bytes) a b (file_exact bytes fits small) p q

-- bytes encode at most one graph
pub layout_unique : (bytes : List ℕ) (g h : GraphParts) → IsBytes bytes → length bytes < 2 ^ 64 → IsLayout bytes g
    → IsLayout bytes h → g ≡ h
layout_unique bytes g h fits small p q =
    one_value (decode_graph bytes) (IsLayout bytes) g h (layout_exact bytes fits small) p q

-- bytes either encode a graph or have one first error
pub layout_or_fault : (bytes : List ℕ) → IsBytes bytes → length bytes < 2 ^ 64
    → UniqueValue (decode_graph bytes) (IsLayout bytes) ⊎ UniqueFault (decode_graph bytes) (IsLayout bytes)
layout_or_fault bytes fits small = value_or_fault (decode_graph bytes) (IsLayout bytes) (layout_exact bytes fits small)

-- the graph of a layout that was read is the graph of its file
pub seen_gives : (r : Result Layout OpenFault) (rows : Result FileParts Fault)
    → ReadsUnlessOom open_fault_of parts_of_layout r rows
    → ReadsUnlessOom open_fault_of layout_view r (viewed graph_of_file rows)
unfolding layout_view
seen_gives (Ok l) rows h = ap (λ (x : Result FileParts Fault). viewed graph_of_file x) h
seen_gives (Err (opens.Fault f)) rows h = ap (λ (x : Result FileParts Fault). viewed graph_of_file x) h
seen_gives (Err opens.OutOfMemory) rows h = tt

-- ---- the graph of a valid file has ascending, disjoint sections, and ascending triples in range

file_graph : (bytes : List ℕ) (file : FileParts) → IsFile file bytes → IsGraph (graph_of_file file)
file_graph bytes file h =
    let d = h.dictionary in
    let t = h.triples in
    let f = bitmap_triples h.parts in
    let counts = role_counts (lists_of_dictionary file.dictionary) in
    let same : triples_of f ≡ triples_of file.triples = ap triples_of h.lists in
    record {
      shared = d.shared.strings;
      subjects = d.subjects.strings;
      predicates = d.predicates.strings;
      objects = d.objects.strings;
      shared_subjects = d.shared_subjects;
      shared_objects = d.shared_objects;
      subjects_objects = d.subjects_objects;
      some = omega (
        arith,
        length-triples f,
        t.valid.marked.triples,
        t.bitmap_z.spelled.spelled.0,
        ap (λ (ts : List Triple). length ts) same,
      );
      range = subst (AreInRange counts) same (triples_in_range counts f t.valid);
      ascend = subst AreAscending same (triples_ascend counts f t.valid);
    }

pub layout_graph : (bytes : List ℕ) (g : GraphParts) → IsLayout bytes g → IsGraph g
layout_graph bytes g h = subst IsGraph h.denotes (file_graph bytes h.file h.encoded)
