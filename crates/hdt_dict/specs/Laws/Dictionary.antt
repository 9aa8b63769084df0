-- The checks of a dictionary are exact: they return a dictionary exactly if it is encoded at the offset.
use Rattle.std.proofs.Common.{◌≡◌, ℕ, Bool, true, false, not, List, [], ◌++◌, length, get_or, inl, inr, refl, sym}
use Rattle.std.proofs.Common.{subst, ◌∙◌}
use Rattle.std.specs.List.{Contains}
use Rattle.std.proofs.lemmas.List.{get_or_default}
use Rattle.std.proofs.lemmas.List.Elements.{Contains-append_left, Contains-append_right, Contains-append_cases}
use Rattle.hdt_wire.specs.declared.fault.Reason.TheVariants.{SectionsOverlap}
use Rattle.hdt_wire.specs.declared.control.Kind.TheVariants as kinds
use Rattle.hdt_wire.specs.Checks.{IsBytes}
use Rattle.hdt_wire.specs.Laws.Checks.{bind_ok}
use Rattle.hdt_wire.specs.Control.{control_at}
use Rattle.hdt_wire.specs.Exact.{Exactly}
use Rattle.hdt_wire.specs.Laws.Exact.{holds_of_ok, holds_if_ok, ok_if_holds, item_checks_exact}
use Rattle.hdt_wire.specs.Laws.ExactPrimitives.{control_exact}
use Rattle.hdt_front.specs.Section.{SectionParts, string_offset, section_at}
use Rattle.hdt_front.specs.Laws.Section.{section_exact}
use Rattle.hdt_dict.specs.Strings.{has}
use Rattle.hdt_dict.specs.Laws.Strings.{has-Contains, Contains-has}
use Rattle.hdt_dict.specs.Dictionary.{DictionaryParts, AreDisjoint, IsDictionaryAt, disjoint_check, disjoint_at}
use Rattle.hdt_dict.specs.Dictionary.{dictionary_at}

-- ---- strings in two sections

not-made : (b : Bool) → (b ≡ true → ⊥) → not b ≡ true
not-made true h = absurd (h refl)
not-made false h = refl

wrong : (b : Bool) → not b ≡ true → b ≡ true → ⊥
wrong true e f = absurd (cc)
wrong false e f = absurd (cc)

disjoint_check_exact : (others : List (List ℕ)) (s : SectionParts) (i : ℕ)
    → Exactly (disjoint_check others s i) (λ _. Contains others (get_or s.strings i []) → ⊥)
unfolding disjoint_check
disjoint_check_exact others s i =
    let x : List ℕ = get_or s.strings i [] in
    record {
      found = λ u e there. wrong (has others x)
          (holds_if_ok (not (has others x)) (string_offset s i) SectionsOverlap u e) (Contains-has others x there);
      only = λ u none. ok_if_holds (not (has others x)) (string_offset s i) SectionsOverlap
          (not-made (has others x) (λ is. none (has-Contains others x is)));
    }

pub apart_exact : (others : List (List ℕ)) (s : SectionParts)
    → Exactly (disjoint_at others s) (λ _. AreDisjoint others s.strings)
apart_exact others s =
    let rows = item_checks_exact (disjoint_check others s) (length s.strings)
    (λ i. Contains others (get_or s.strings i []) → ⊥) (λ i lt. disjoint_check_exact others s i) in
    record {
      found = λ u e x there here.
          let same : get_or s.strings here.0 [] ≡ x = get_or_default s.strings here.0 [] x here.1 ∙ here.2 in
          rows.found u e here.0 here.1 (subst (Contains others) (sym same) there);
      only = λ u apart. rows.only u (λ i lt there.
          apart (get_or s.strings i []) there (i, lt, get_or_default s.strings i (get_or s.strings i []) [] lt));
    }

-- ---- the dictionary

pub dictionary_exact : (bytes : List ℕ) (at : ℕ) → IsBytes bytes
    → Exactly (dictionary_at bytes at) (λ d. IsDictionaryAt d bytes at)
unfolding dictionary_at
dictionary_exact bytes at fits = record {
  found = λ d e.
      bind_ok (control_at kinds.Dictionary bytes at) _ _ e (λ control e1 e.
      bind_ok (section_at bytes control.end) _ _ e (λ shared e2 e.
      bind_ok (section_at bytes shared.end) _ _ e (λ subjects e3 e.
      bind_ok (section_at bytes subjects.end) _ _ e (λ predicates e4 e.
      bind_ok (section_at bytes predicates.end) _ _ e (λ objects e5 e.
      bind_ok (disjoint_at shared.strings subjects) _ _ e (λ u e6 e.
      bind_ok (disjoint_at (shared.strings ++ subjects.strings) objects) _ _ e (λ v e7 e.
      let apart = (apart_exact (shared.strings ++ subjects.strings) objects).found v e7 in
      holds_of_ok (λ (d : DictionaryParts). IsDictionaryAt d bytes at) _ _ e (record {
        control = control;
        control_is = (control_exact kinds.Dictionary bytes at fits).found control e1;
        shared = (section_exact bytes control.end fits).found shared e2;
        subjects = (section_exact bytes shared.end fits).found subjects e3;
        predicates = (section_exact bytes subjects.end fits).found predicates e4;
        objects = (section_exact bytes predicates.end fits).found objects e5;
        shared_subjects = (apart_exact shared.strings subjects).found u e6;
        shared_objects = λ x a b. apart x (Contains-append_left shared.strings subjects.strings x a) b;
        subjects_objects = λ x a b. apart x (Contains-append_right shared.strings subjects.strings x a) b;
      }))))))));
  only = λ d h.
      let r1 = (control_exact kinds.Dictionary bytes at fits).only h.control h.control_is in
      let r2 = (section_exact bytes h.control.end fits).only d.shared h.shared in
      let r3 = (section_exact bytes d.shared.end fits).only d.subjects h.subjects in
      let r4 = (section_exact bytes d.subjects.end fits).only d.predicates h.predicates in
      let r5 = (section_exact bytes d.predicates.end fits).only d.objects h.objects in
      let r6 = (apart_exact d.shared.strings d.subjects).only tt h.shared_subjects in
      let r7 = (apart_exact (d.shared.strings ++ d.subjects.strings) d.objects).only tt (λ x a b.
      elim (Contains-append_cases d.shared.strings d.subjects.strings x a) as (λ _. ⊥) [
        | inl p ↦ h.shared_objects x p b
        | inr q ↦ h.subjects_objects x q b
      ]) in
      rw (r1, r2, r3, r4, r5, r6, r7) refl;
}
