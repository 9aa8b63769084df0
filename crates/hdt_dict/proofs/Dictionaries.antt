-- The sections of a dictionary are disjoint; the strings of each role are distinct, and there are no more than its
-- sections allow.
use Rattle.std.proofs.Common.{◌+◌, ◌≤◌, arith, length, length-append, ℕ, ◌++◌, Option, Some, None, option_copied, subst}
use Rattle.std.proofs.lemmas.List.Elements.{Contains-append_left, Contains-append_right}
use Rattle.hdt_front.specs.declared.section.Section.{Section}
use Rattle.hdt_front.specs.Strings.{strings_of, section_of}
use Rattle.hdt_front.specs.SectionIteration.{located_strings}
use Rattle.hdt_front.specs.Laws.Iteration.{located_are_strings, located_ascend}
use Rattle.hdt_dict.specs.declared.dictionary.Dictionary.{Dictionary}
use Rattle.hdt_wire.specs.declared.Role.{Role}
use Rattle.hdt_wire.specs.declared.Role.TheVariants.{Subject, Predicate, Object}
use Rattle.hdt_dict.specs.declared.role_sections.RoleSections.{RoleSections}
use Rattle.hdt_dict.specs.Dictionary.{AreDisjoint, role_strings, lists_of_dictionary}
use Rattle.hdt_dict.specs.Laws.Dictionary.{apart_exact}
use Rattle.hdt_dict.specs.RoleSections.{second_strings}
use Rattle.hdt_dict.specs.Views.{dictionary_of}
use Rattle.hdt_dict.proofs.Numbering.{Distinct, distinct_ascending, distinct-append}

-- ---- disjoint sections

pub shared_subjects : (d : Dictionary) → AreDisjoint (strings_of d.shared) (strings_of d.subjects)
unfolding section_of
shared_subjects d = (apart_exact (strings_of d.shared) (section_of d.subjects)).found tt d.subjects_apart

before_objects : (d : Dictionary) → AreDisjoint (strings_of d.shared ++ strings_of d.subjects) (strings_of d.objects)
unfolding section_of
before_objects d = (apart_exact (strings_of d.shared ++ strings_of d.subjects) (section_of d.objects)).found tt
    d.objects_apart

pub shared_objects : (d : Dictionary) → AreDisjoint (strings_of d.shared) (strings_of d.objects)
shared_objects d = λ x a b. before_objects d x (Contains-append_left (strings_of d.shared) (strings_of d.subjects) x a)
    b

pub subjects_objects : (d : Dictionary) → AreDisjoint (strings_of d.subjects) (strings_of d.objects)
subjects_objects d = λ x a b. before_objects d x
    (Contains-append_right (strings_of d.shared) (strings_of d.subjects) x a) b

-- ---- the strings of a role

distinct_section : (s : Section) → Distinct (strings_of s)
distinct_section s = subst Distinct (located_are_strings s) (distinct_ascending (located_strings s) (located_ascend s))

distinct_following : (second : Option Section) → Distinct (second_strings second)
distinct_following None = tt
distinct_following (Some s) = distinct_section s

pub distinct_role : (s : RoleSections) → Distinct (strings_of s.first.now ++ second_strings (option_copied s.second))
distinct_role s = distinct-append (strings_of s.first.now) (second_strings (option_copied s.second))
    (distinct_section s.first.now) (distinct_following (option_copied s.second)) s.apart

pub few_terms : (d : Dictionary) (role : Role) (n : ℕ) → length (strings_of d.shared) + length (strings_of d.subjects)
    ≤ n → length (strings_of d.predicates) ≤ n → length (strings_of d.shared) + length (strings_of d.objects) ≤ n
    → length (role_strings (lists_of_dictionary (dictionary_of d)) role) ≤ n
unfolding dictionary_of section_of
few_terms d Subject n h k l = omega (arith, h, length-append (strings_of d.shared) (strings_of d.subjects))
few_terms d Predicate n h k l = k
few_terms d Object n h k l = omega (arith, l, length-append (strings_of d.shared) (strings_of d.objects))
