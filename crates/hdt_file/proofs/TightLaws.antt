-- The checks of a tight file are exact: those of its strings pass if and only if triples use all of them.
use Rattle.std.proofs.Common.{◌≡◌, ◌∙◌, ℕ, ◌+◌, ◌-◌, ◌<◌, ◌≤◌, ◌^◌, ◌⊎◌, inl, inr, true, List, length, Result, Ok, Err}
use Rattle.std.proofs.Common.{refl, ap, sym, subst, arith}
use Rattle.std.proofs.lemmas.Bool.{and_from, and_parts, cases_lt}
use Rattle.std.proofs.lemmas.List.{length-append}
use Rattle.hdt_wire.specs.declared.fault.Fault.{Fault}
use Rattle.hdt_wire.specs.declared.fault.Reason.TheVariants.{Unused}
use Rattle.hdt_wire.specs.declared.Role.{Role}
use Rattle.hdt_wire.specs.declared.Role.TheVariants.{Subject, Predicate, Object}
use Rattle.hdt_wire.specs.Checks.{◌>>=◌, IsBytes}
use Rattle.hdt_wire.specs.Laws.Checks.{bind_ok}
use Rattle.hdt_wire.specs.Exact.{Exactly, UniqueValue, UniqueFault}
use Rattle.hdt_wire.specs.Laws.Exact.{done, ok_is, each_check, all_checks, holds_if_ok, ok_if_holds, value_or_fault}
use Rattle.hdt_front.specs.Section.{string_offset}
use Rattle.hdt_dict.specs.Dictionary.{DictionaryParts, lists_of_dictionary, role_strings, section_by_id}
use Rattle.hdt_triples.specs.TripleSequences.{Triple, triples_of}
use Rattle.hdt_triples.specs.Uses.{Uses, uses}
use Rattle.hdt_triples.specs.Laws.Uses.{uses_found, uses_only}
use Rattle.hdt_dict.specs.declared.dictionary.SectionId.{SectionId}
use Rattle.hdt_dict.specs.declared.dictionary.SectionId.TheVariants as parts
use Rattle.hdt_file.specs.File.{FileParts, GraphParts, decode_file, graph_of_file, decode_graph}
use Rattle.hdt_file.proofs.FileLaws.{file_exact}
use Rattle.hdt_file.specs.Tight.{IsTight, IsTightLayout, is_used, check_string_used, check_section_used}
use Rattle.hdt_file.specs.Tight.{check_strings_used, decode_tight_graph}
use Rattle.std.specs.Prelude.{◌↔◌, IsTrue, is_ok}
use Rattle.hdt_file.specs.Graph.{graph_view, layout_view, parts_of_graph, parts_of_layout}
use Rattle.hdt_file.specs.declared.graph.Graph.{Graph}
use Rattle.hdt_file.specs.declared.layout.Layout.{Layout}

-- ---- one section

section_found : (d : DictionaryParts) (ts : List Triple) (section : SectionId) → check_section_used d ts section ≡ Ok tt
    → (n : ℕ) → 1 ≤ n → n ≤ length (section_by_id d section).strings → is_used d ts section n ≡ true
unfolding check_string_used
section_found d ts section h n from to =
    let row = each_check (check_string_used d ts section) (length (section_by_id d section).strings) 0 h (n - 1)
    (omega arith) (omega (arith, from, to)) in
    let next : n - 1 + 1 ≡ n = omega (arith, from) in
    sym (ap (is_used d ts section) next)
    ∙ holds_if_ok (is_used d ts section (n - 1 + 1)) (string_offset (section_by_id d section) (n - 1)) Unused tt row

section_only : (d : DictionaryParts) (ts : List Triple) (section : SectionId)
    → ((n : ℕ) → 1 ≤ n → n ≤ length (section_by_id d section).strings → is_used d ts section n ≡ true)
    → check_section_used d ts section ≡ Ok tt
unfolding check_string_used
section_only d ts section all =
    all_checks (check_string_used d ts section) (length (section_by_id d section).strings) 0
    (λ i from to. ok_if_holds (is_used d ts section (i + 1)) (string_offset (section_by_id d section) i) Unused
    (all (i + 1) (omega arith) (omega (arith, to))))

-- ---- all four

-- triples use each ID of each role
abbrev AllUsed : DictionaryParts → List Triple → Type 0
AllUsed d ts = (role : Role) (n : ℕ) → 1 ≤ n → n ≤ length (role_strings (lists_of_dictionary d) role) → Uses ts role n

-- an ID above those of the shared strings is used if the check of its own section passes
used_after_shared : (ts : List Triple) (role : Role) (front n : ℕ) → front < n
    → uses ts role (front + (n - front)) ≡ true → Uses ts role n
used_after_shared ts role front n lt h =
    let same : front + (n - front) ≡ n = omega (arith, lt) in
    uses_found ts role n (sym (ap (uses ts role) same) ∙ h)

all_found : (d : DictionaryParts) (ts : List Triple) → check_section_used d ts parts.Shared ≡ Ok tt
    → check_section_used d ts parts.Subjects ≡ Ok tt → check_section_used d ts parts.Predicates ≡ Ok tt
    → check_section_used d ts parts.Objects ≡ Ok tt → AllUsed d ts
unfolding is_used
all_found d ts shared subjects predicates objects Subject n from to =
    elim (cases_lt (length d.shared.strings) n) [
      | inl lt ↦ used_after_shared ts Subject (length d.shared.strings) n lt
          (section_found d ts parts.Subjects subjects (n - length d.shared.strings) (omega (arith, lt))
          (omega (arith, lt, to, length-append d.shared.strings d.subjects.strings)))
      | inr le ↦ uses_found ts Subject n
          (and_parts (uses ts Subject n) (uses ts Object n) (section_found d ts parts.Shared shared n from le)).0
    ]
all_found d ts shared subjects predicates objects Predicate n from to =
    uses_found ts Predicate n (section_found d ts parts.Predicates predicates n from to)
all_found d ts shared subjects predicates objects Object n from to =
    elim (cases_lt (length d.shared.strings) n) [
      | inl lt ↦ used_after_shared ts Object (length d.shared.strings) n lt
          (section_found d ts parts.Objects objects (n - length d.shared.strings) (omega (arith, lt))
          (omega (arith, lt, to, length-append d.shared.strings d.objects.strings)))
      | inr le ↦ uses_found ts Object n
          (and_parts (uses ts Subject n) (uses ts Object n) (section_found d ts parts.Shared shared n from le)).1
    ]

all_only : (d : DictionaryParts) (ts : List Triple) → AllUsed d ts → check_strings_used d ts ≡ Ok tt
unfolding check_strings_used is_used
all_only d ts all =
    let subject : (n : ℕ) → 1 ≤ n → n ≤ length d.shared.strings + length d.subjects.strings → uses ts Subject n ≡ true =
    λ n from to. uses_only ts Subject n
    (all Subject n from (omega (arith, to, length-append d.shared.strings d.subjects.strings))) in
    let object : (n : ℕ) → 1 ≤ n → n ≤ length d.shared.strings + length d.objects.strings → uses ts Object n ≡ true =
    λ n from to. uses_only ts Object n
    (all Object n from (omega (arith, to, length-append d.shared.strings d.objects.strings))) in
    let e0 : check_section_used d ts parts.Shared ≡ Ok tt =
    section_only d ts parts.Shared
    (λ n from to. and_from (uses ts Subject n) (uses ts Object n) (subject n from (omega (arith, to)))
    (object n from (omega (arith, to)))) in
    let e1 : check_section_used d ts parts.Subjects ≡ Ok tt =
    section_only d ts parts.Subjects
    (λ n from to. subject (length d.shared.strings + n) (omega (arith, from)) (omega (arith, to))) in
    let e2 : check_section_used d ts parts.Predicates ≡ Ok tt =
    section_only d ts parts.Predicates (λ n from to. uses_only ts Predicate n (all Predicate n from to)) in
    let e3 : check_section_used d ts parts.Objects ≡ Ok tt =
    section_only d ts parts.Objects
    (λ n from to. object (length d.shared.strings + n) (omega (arith, from)) (omega (arith, to))) in
    rw (e0, e1, e2, e3) refl

pub strings_exact : (d : DictionaryParts) (ts : List Triple) → Exactly (check_strings_used d ts) (λ _. AllUsed d ts)
unfolding check_strings_used
strings_exact d ts = record {
  found = λ u e.
      bind_ok (check_section_used d ts parts.Shared) _ _ e (λ a e0 e.
      bind_ok (check_section_used d ts parts.Subjects) _ _ e (λ b e1 e.
      bind_ok (check_section_used d ts parts.Predicates) _ _ e (λ c e2 e3. all_found d ts e0 e1 e2 e3)));
  only = λ u all. all_only d ts all;
}

-- ---- a file

pub tight_exact : (bytes : List ℕ) → IsBytes bytes → length bytes < 2 ^ 64
    → Exactly (decode_tight_graph bytes) (IsTightLayout bytes)
unfolding decode_tight_graph
tight_exact bytes fits small =
    let exact = file_exact bytes fits small in
    record {
      found = λ g e.
          bind_ok (decode_file bytes) _ _ e (λ file e1 e.
          bind_ok (check_strings_used file.dictionary (triples_of file.triples)) _ _ e (λ u e2 e.
          let same = ok_is (graph_of_file file) g e in
          record {
            layout = record { file = file; encoded = exact.found file e1; denotes = same };
            tight = subst IsTight same
                ((strings_exact file.dictionary (triples_of file.triples)).found u e2);
          }));
      only = λ g h.
          let file = h.layout.file in
          rw (
            exact.only file h.layout.encoded,
            all_only file.dictionary (triples_of file.triples)
                (subst IsTight (sym h.layout.denotes) h.tight),
          ) (ap (λ (y : GraphParts). Ok y) h.layout.denotes);
    }

pub tight_or_fault : (bytes : List ℕ) → IsBytes bytes → length bytes < 2 ^ 64
    → UniqueValue (decode_tight_graph bytes) (IsTightLayout bytes)
    ⊎ UniqueFault (decode_tight_graph bytes) (IsTightLayout bytes)
tight_or_fault bytes fits small =
    value_or_fault (decode_tight_graph bytes) (IsTightLayout bytes) (tight_exact bytes fits small)

-- the error of a file without the checks of used strings is also its error with them

same_fault : (r : Result FileParts Fault) (f : Fault) → (r >>= λ file. Ok (graph_of_file file)) ≡ Err f
    → (r >>= λ file. check_strings_used file.dictionary (triples_of file.triples) >>= λ _. Ok
    (graph_of_file file)) ≡ Err f
same_fault (Ok file) f h = absurd (cc)
same_fault (Err e) f h = h

pub tight_fault : (bytes : List ℕ) (f : Fault) → decode_graph bytes ≡ Err f → decode_tight_graph bytes ≡ Err f
unfolding decode_graph decode_tight_graph
tight_fault bytes f h = same_fault (decode_file bytes) f h

-- ---- a layout

-- the strings of the graph of a tight file pass the checks
pub tight_only : (g : Graph) (graph : GraphParts) → done graph ≡ done (graph_view g) → IsTight graph
    → check_strings_used (parts_of_graph g).dictionary (graph_view g).triples ≡ Ok tt
unfolding graph_view
tight_only g graph same tight =
    let p = parts_of_graph g in
    all_only p.dictionary (triples_of p.triples) (subst IsTight (ok_is graph (graph_view g) same) tight)

-- a graph is tight if its strings pass the checks
pub tight_found : (g : Graph) → check_strings_used (parts_of_graph g).dictionary (graph_view g).triples ≡ Ok tt
    → IsTight (graph_view g)
unfolding graph_view
tight_found g e = let p = parts_of_graph g in (strings_exact p.dictionary (triples_of p.triples)).found tt e

decided : (d : DictionaryParts) (ts : List Triple) (r : Result (Unit {0}) Fault) → r ≡ check_strings_used d ts
    → IsTrue (is_ok r) ↔ AllUsed d ts
decided d ts (Ok u) is = (λ t. (strings_exact d ts).found u (sym is), λ h. refl)
decided d ts (Err e) is = (λ t. absurd cc, λ h. let k = is ∙ all_only d ts h in absurd cc)

pub layout_decided : (l : Layout) (g : Graph) (r : Result (Unit {0}) Fault) → parts_of_graph g ≡ parts_of_layout l
    → r ≡ check_strings_used (parts_of_graph g).dictionary (graph_view g).triples
    → IsTrue (is_ok r) ↔ IsTight (layout_view l)
unfolding graph_view layout_view
layout_decided l g r same is =
    let p = parts_of_layout l in
    decided p.dictionary (triples_of p.triples) r
    (is ∙ ap (λ (q : FileParts). check_strings_used q.dictionary (triples_of q.triples)) same)
