-- Finding strings that are in two sections, by merging them.
use Rattle.std.specs.Prelude.{◌≡◌, ◌<◌, ◌≤◌, ℕ, List, [], ◌∷◌, ◌++◌, Bool, cond, Option, Some, None, Result, Ok, Err}
use Rattle.std.specs.Ordering.{is_eq}
use Rattle.std.specs.declared.cmp.Ordering.{Ordering}
use Rattle.hdt_wire.specs.declared.fault.Fault.{Fault}
use Rattle.hdt_wire.specs.declared.fault.Reason.TheVariants.{SectionsOverlap}
use Rattle.hdt_front.specs.StringChecks.{precedes}
use Rattle.hdt_front.specs.SectionIteration.{located_strings}
use Rattle.hdt_front.specs.Strings.{strings_of}
use Rattle.hdt_front.specs.declared.section.Section.{Section}
use Rattle.hdt_dict.specs.Strings.{has}
use Rattle.hdt_front.specs.Iteration.{LocatedString, strings, first_order, first_lcp}

-- the strings of a section with their offsets, if there is one
abbrev pub located_of : Option Section → List LocatedString
located_of None = []
located_of (Some s) = located_strings s

-- the strings of a section, and of another one if there is one
abbrev pub strings_before : Section → Option Section → List (List ℕ)
strings_before s None = strings_of s
strings_before s (Some t) = strings_of s ++ strings_of t

abbrev pub contains_string : List LocatedString → List ℕ → Bool
contains_string items x = has (strings items) x

-- the byte offset of the first string that passes a test
abbrev pub first_offset : (List ℕ → Bool) → List LocatedString → Option ℕ
first_offset test [] = None
first_offset test (p ∷ ps) = cond (test p.string) (Some p.place) (first_offset test ps)

-- the check that no string was found in another section, given the offset of the first one that was
abbrev pub check_not_found : Option ℕ → Result (Unit {0}) Fault
check_not_found None = Ok tt
check_not_found (Some place) = Err (record { place = place; reason = SectionsOverlap })

-- the strings from the first one that is not less than x
abbrev pub drop_less : List ℕ → List LocatedString → List LocatedString
drop_less x [] = []
drop_less x (p ∷ ps) = cond (precedes p.string x) (drop_less x ps) (p ∷ ps)

-- x is the first string
abbrev pub is_first : List ℕ → List LocatedString → Bool
is_first x items = is_eq (first_order items x)

-- how the first string compares with x, and the length of their longest common prefix
abbrev pub IsComparison : Ordering × ℕ → List LocatedString → List ℕ → Type 0
IsComparison comparison items x = (comparison.0 ≡ first_order items x) × (comparison.1 ≡ first_lcp items x)

-- A comparison of two strings, after one of them advanced to a string that shares `kept` bytes with it. If that is more
-- than their common prefix, the comparison still holds; else the two have at least `kept` bytes in common.
abbrev pub IsStaleComparison : ℕ → Ordering × ℕ → List LocatedString → List ℕ → Type 0
IsStaleComparison kept comparison items x = (comparison.1 < kept → IsComparison comparison items x)
    × (kept ≤ comparison.1 → kept ≤ first_lcp items x)
