use Rattle.std.proofs.Common.{◌≡◌, ℕ, List, subst, sym}
use Rattle.std.specs.declared.vec.Vec.{Vec}
use Rattle.hdt_front.specs.Section.{AreSectionStrings}
use Rattle.hdt_front.specs.Canonical.{texts}
use Rattle.hdt_dict.specs.Split.{lists_of_parts}
use Rattle.hdt_probe_parts.proofs.dict_writing.put_one_by_one.Goals as goal

strings_are : {Z : Type 0} → (xs ys : List (Vec ℕ Z)) → xs ≡ ys → AreSectionStrings (texts ys) → AreSectionStrings (texts xs)
strings_are {Z} xs ys e are = subst (λ (l : List (Vec ℕ Z)). AreSectionStrings (texts l)) (sym e) are

pub section_of-requires-clause-strings : goal.section_of-requires-clause-strings
unfolding lists_of_parts
section_of-requires-clause-strings c = strings_are _ _ c.as_slice.ensures.value c.requires.sections.shared

pub section_of-requires-2-clause-strings : goal.section_of-requires-2-clause-strings
unfolding lists_of_parts
section_of-requires-2-clause-strings c = strings_are _ _ c.as_slice-2.ensures.value c.requires.sections.subjects

pub section_of-requires-3-clause-strings : goal.section_of-requires-3-clause-strings
unfolding lists_of_parts
section_of-requires-3-clause-strings c = strings_are _ _ c.as_slice-3.ensures.value c.requires.sections.predicates

pub section_of-requires-4-clause-strings : goal.section_of-requires-4-clause-strings
unfolding lists_of_parts
section_of-requires-4-clause-strings c = strings_are _ _ c.as_slice-4.ensures.value c.requires.sections.objects

pub finish_dictionary-requires-clause-sections : goal.finish_dictionary-requires-clause-sections
unfolding lists_of_parts
finish_dictionary-requires-clause-sections c =
    rw (c.in_ok-shared.ensures, c.in_ok-subjects.ensures, c.in_ok-predicates.ensures, c.in_ok-objects.ensures, c.as_slice.ensures.value, c.as_slice-2.ensures.value, c.as_slice-3.ensures.value, c.as_slice-4.ensures.value) c.requires.sections
