-- Iterating over the strings of a role, and over those of a section with their byte offsets.
use Rattle.std.specs.Prelude.{◌≡◌, ℕ, ◌+◌, ◌<◌, List, [], ◌∷◌, length, slice_index_or, Option, Some, None}
use Rattle.hdt_front.specs.Iteration.{LocatedString, strings}
use Rattle.hdt_front.specs.Section.{SectionParts, string_offset}

-- The state of an iteration: the number of strings returned so far, which is the ID of the last one; the last string;
-- and the remaining strings.
pub record RoleIterState : Type 0 where
  pub given : ℕ
  pub last : List ℕ
  pub ahead : List (List ℕ)

-- the state after one more string; unchanged at the end
abbrev pub step_role_iter_by : RoleIterState → List (List ℕ) → RoleIterState
step_role_iter_by w [] = w
step_role_iter_by w (x ∷ xs) = record { given = w.given + 1; last = x; ahead = xs }

abbrev pub step_role_iter : RoleIterState → RoleIterState
step_role_iter w = step_role_iter_by w w.ahead

-- the ID of the next string
abbrev pub next_id : RoleIterState → List (List ℕ) → Option ℕ
next_id w [] = None
next_id w (x ∷ xs) = Some (w.given + 1)

-- The strings are those of the section, in order, each with the byte offset of its entry.
pub record AreLocated (s : SectionParts) (items : List LocatedString) : Type 0 where
  pub strings_are : strings items ≡ s.strings
  pub places_are : (i : ℕ) (d : LocatedString) → i < length items → (slice_index_or items i d).place ≡ string_offset s i
