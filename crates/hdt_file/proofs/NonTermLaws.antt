-- Listing the strings of a section that are not terms.
use Rattle.std.proofs.Common.{◌≡◌, ℕ, suc, ◌+◌, ◌<◌, List, [], ◌∷◌, ◌++◌, length, get_or, Option, Some, refl, sym, ap}
use Rattle.std.proofs.Common.{◌∙◌, ◌⊎◌, subst, append_assoc, append-nil, inl, inr, arith, ◌^◌, Bool, false}
use Rattle.hdt_wire.specs.declared.Role.{Role}
use Rattle.hdt_front.specs.Iteration.{IterState, LocatedString, strings, step_iter_by, next_offset}
use Rattle.hdt_front.specs.Section.{SectionParts, string_offset}
use Rattle.hdt_dict.specs.Iteration.{AreLocated}
use Rattle.std.specs.Prelude.{Ok, slice_index_or}
use Rattle.std.proofs.lemmas.List.{length-map}
use Rattle.hdt_wire.specs.Checks.{IsBytes}
use Rattle.hdt_wire.specs.Laws.Exact.{ok_is}
use Rattle.hdt_front.specs.Strings.{section_of}
use Rattle.hdt_dict.specs.Dictionary.{DictionaryParts}
use Rattle.hdt_dict.specs.Views.{dictionary_of}
use Rattle.hdt_file.specs.File.{FileParts, IsFile, IsLayout, decode_file}
use Rattle.hdt_file.specs.Graph.{graph_counts, parts_of_layout, layout_view}
use Rattle.hdt_file.specs.TermFlags.{IsTermFlag}
use Rattle.hdt_file.specs.declared.layout.Layout.{Layout}
use Rattle.hdt_file.specs.declared.non_terms.TermVerdict.{TermVerdict}
use Rattle.hdt_file.proofs.FileLaws.{file_exact}
use Rattle.hdt_file.specs.NonTerms.{AreNonTerms, AreNonTermsFrom, AreNonTermsOf, IsTermVerdict}
use Rattle.hdt_file.specs.Text.{HasTerm, HasNoTerm}
use Rattle.hdt_file.specs.declared.non_terms.NonTerm.{NonTerm}

-- ---- the iteration

-- exactly those of the strings that are not terms, whose IDs follow n
abbrev pub AreNonTermsIn : Role → ℕ → List LocatedString → List NonTerm → Type 0
AreNonTermsIn role n [] found = found ≡ []
AreNonTermsIn role n (p ∷ ps) found = (HasTerm role p.string × AreNonTermsIn role (n + 1) ps found)
    ⊎ (HasNoTerm role p.string × (more : List NonTerm) × AreNonTermsIn role (n + 1) ps more
    × (found ≡ record { role = role; number = n + 1; place = p.place } ∷ more))

-- what was found, with what the remaining strings give, is what all give
abbrev pub FindsUpTo : Role → ℕ → List LocatedString → List NonTerm → ℕ → List LocatedString → List NonTerm → Type 0
FindsUpTo role before all old n left found = (more : List NonTerm) → AreNonTermsIn role n left more
    → (whole : List NonTerm) × AreNonTermsIn role before all whole × (found ++ more ≡ old ++ whole)

pub non_term_found : (role : Role) (before n m : ℕ) (all left rest : List LocatedString) (p : LocatedString)
    (old found new : List NonTerm) (x : NonTerm) → FindsUpTo role before all old n left found → left ≡ p ∷ rest
    → m ≡ n + 1
    → HasNoTerm role p.string → x ≡ record { role = role; number = n + 1; place = p.place } → new ≡ found ++ x ∷ []
    → FindsUpTo role before all old m rest new
non_term_found role before n m all left rest p old found new x h first next none is grown more k =
    let w = subst (λ (l : List LocatedString). FindsUpTo role before all old n l found) first h (x ∷ more)
    (inr (none, more, subst (λ (i : ℕ). AreNonTermsIn role i rest more) next k, ap (λ (y : NonTerm). y ∷ more) is)) in
    (w.0, w.1, ap (λ (l : List NonTerm). l ++ more) grown ∙ append_assoc found (x ∷ []) more ∙ w.2)

-- the string that an iterator gives next is the first one ahead
pub given : (w new : IterState) (place : ℕ) (xs : List LocatedString) → next_offset xs ≡ Some place
    → new ≡ step_iter_by w xs → xs ≡ record { string = new.last; place = place } ∷ new.ahead
given w new place [] e step = absurd cc
given w new place (p ∷ ps) e step =
    let at : p.place ≡ place = cc in
    ap (λ (k : ℕ). (let q : LocatedString = record { string = p.string; place = k } in q ∷ ps)) at
    ∙ ap (λ (s : IterState). (let q : LocatedString = record { string = s.last; place = place } in q ∷ s.ahead))
    (sym step)

pub ended : (xs : List LocatedString) (r : Option ℕ) → r ≡ next_offset xs → ((k : ℕ) → r ≡ Some k → ⊥) → xs ≡ []
ended [] r e nothing = refl
ended (p ∷ ps) r e nothing = absurd (nothing p.place e)

-- ---- strings with their offsets are those of the section

later : (i : ℕ) (place : ℕ → ℕ) (p : LocatedString) (ps : List LocatedString)
    → ((k : ℕ) (d : LocatedString) → k < length (p ∷ ps) → (get_or (p ∷ ps) k d).place ≡ place (i + k))
    → (k : ℕ) (d : LocatedString) → k < length ps → (get_or ps k d).place ≡ place (i + 1 + k)
later i place p ps places k d below =
    let next : i + suc k ≡ i + 1 + k = omega arith in
    places (suc k) d (omega (arith, below)) ∙ ap place next

-- the strings from index i on
from_located : (role : Role) (before i : ℕ) (place : ℕ
    → ℕ) (items : List LocatedString) (xs : List (List ℕ)) (found : List NonTerm) → strings items ≡ xs
    → ((k : ℕ) (d : LocatedString) → k < length items → (get_or items k d).place ≡ place (i + k))
    → AreNonTermsIn role (before + i) items found → AreNonTermsFrom role before place i xs found
from_located role before i place [] [] found same places h = h
from_located role before i place [] (x ∷ xs) found same places h = absurd cc
from_located role before i place (p ∷ ps) [] found same places h = absurd cc
from_located role before i place (p ∷ ps) (x ∷ xs) found same places (inl h) =
    let first : p.string ≡ x = cc in
    let rest : strings ps ≡ xs = cc in
    let next : before + i + 1 ≡ before + (i + 1) = omega arith in
    inl (
      subst (HasTerm role) first h.0,
      from_located role before (i + 1) place ps xs found rest (later i place p ps places)
          (subst (λ (n : ℕ). AreNonTermsIn role n ps found) next h.1),
    )
from_located role before i place (p ∷ ps) (x ∷ xs) found same places (inr h) =
    let first : p.string ≡ x = cc in
    let rest : strings ps ≡ xs = cc in
    let next : before + i + 1 ≡ before + (i + 1) = omega arith in
    let zero : i + 0 ≡ i = omega arith in
    let at : p.place ≡ place i = places 0 p (omega arith) ∙ ap place zero in
    inr (
      subst (HasNoTerm role) first h.0,
      h.1,
      from_located role before (i + 1) place ps xs h.1 rest (later i place p ps places)
          (subst (λ (n : ℕ). AreNonTermsIn role n ps h.1) next h.2),
      h.3 ∙ ap (λ (k : ℕ). (let y : NonTerm = record { role = role; number = before + i + 1; place = k } in y ∷ h.1))
          at,
    )

of_section : (role : Role) (before : ℕ) (section : SectionParts) (items : List LocatedString) (found : List NonTerm)
    → AreLocated section items → AreNonTermsIn role before items found → AreNonTermsOf role before section found
of_section role before section items found located h =
    let zero : before ≡ before + 0 = omega arith in
    from_located role before 0 (string_offset section) items section.strings found located.strings_are
    (λ k d below. let none : k ≡ 0 + k = omega arith in located.places_are k d below ∙ ap (string_offset section) none)
    (subst (λ (n : ℕ). AreNonTermsIn role n items found) zero h)

-- a section has as many strings as are located
pub located_count : (section : SectionParts) (items : List LocatedString) → AreLocated section items
    → length items ≡ length section.strings
located_count section items located = sym (length-map items (λ (p : LocatedString). p.string))
    ∙ ap length located.strings_are

-- at the end, what was found is what the section gives
pub all_found : (role : Role) (before n : ℕ) (section : SectionParts) (all left : List LocatedString)
    (old found : List NonTerm) → AreLocated section all → FindsUpTo role before all old n left found → left ≡ []
    → (whole : List NonTerm) × AreNonTermsOf role before section whole × (found ≡ old ++ whole)
all_found role before n section all [] old found located h none = let w = h [] refl in
    (w.0, of_section role before section all w.0 located w.1, sym (append-nil found) ∙ w.2)
all_found role before n section all (p ∷ ps) old found located h none = absurd cc

-- ---- the strings of a layout

pub shared_count : (l : Layout) (lens : List ℕ) → lens ≡ graph_counts (layout_view l)
    → slice_index_or lens 1 0 ≡ length (dictionary_of l.dictionary).shared.strings
unfolding layout_view parts_of_layout
shared_count l lens is = ap (λ (xs : List ℕ). slice_index_or xs 1 0) is

pub subjects_fit : (l : Layout) (lens : List ℕ) → lens ≡ graph_counts (layout_view l)
    → slice_index_or lens 1 0 + length (dictionary_of l.dictionary).subjects.strings < 2 ^ 64
unfolding dictionary_of section_of
subjects_fit l lens is = omega (arith, shared_count l lens is, l.dictionary.subjects_fit)

pub objects_fit : (l : Layout) (lens : List ℕ) → lens ≡ graph_counts (layout_view l)
    → slice_index_or lens 1 0 + length (dictionary_of l.dictionary).objects.strings < 2 ^ 64
unfolding dictionary_of section_of
objects_fit l lens is = omega (arith, shared_count l lens is, l.dictionary.objects_fit)

pub for_layout : (l : Layout) (found : List NonTerm) → AreNonTerms (dictionary_of l.dictionary) found
    → AreNonTerms (parts_of_layout l).dictionary found
unfolding parts_of_layout
for_layout l found h = h

pub five : (none a b c d e x1 x2 x3 x4 x5 : List NonTerm) → none ≡ [] → x1 ≡ none ++ a → x2 ≡ x1 ++ b → x3 ≡ x2 ++ c
    → x4 ≡ x3 ++ d → x5 ≡ x4 ++ e → x5 ≡ (((a ++ b) ++ c) ++ d) ++ e
five none a b c d e x1 x2 x3 x4 x5 z p q r s t = rw (t, s, r, q, p, z) refl

-- ---- the strings of a file

same_dictionary : (bytes : List ℕ) (file p : FileParts) → IsBytes bytes → length bytes < 2 ^ 64
    → IsFile file bytes → decode_file bytes ≡ Ok p → p.dictionary ≡ file.dictionary
same_dictionary bytes file p fits small is parts =
    ap (λ (f : FileParts). f.dictionary) (ok_is p file (sym parts ∙ (file_exact bytes fits small).only file is))

pub verdict_is : (bytes : List ℕ) (l : Layout) (verdict : TermVerdict) → IsBytes bytes
    → length bytes < 2 ^ 64 → IsLayout bytes (layout_view l) → decode_file bytes ≡ Ok (parts_of_layout l)
    → verdict.counts ≡ graph_counts (layout_view l)
    → AreNonTerms (parts_of_layout l).dictionary verdict.non_terms.items → IsTermVerdict bytes verdict
verdict_is bytes l verdict fits small found parts are h = record {
  file = found.file;
  encoded = found.encoded;
  counts = are ∙ ap graph_counts (sym found.denotes);
  non_terms = subst (λ (d : DictionaryParts). AreNonTerms d verdict.non_terms.items)
      (same_dictionary bytes found.file (parts_of_layout l) fits small found.encoded parts) h;
}

pub is_none : (role : Role) (x y : List ℕ) (b : Bool) → b ≡ false → y ≡ x → IsTermFlag role y b → HasNoTerm role x
is_none role x y b e same h = subst (HasNoTerm role) same (subst (IsTermFlag role y) e h)
