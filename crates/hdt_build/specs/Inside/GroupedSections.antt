-- The state of a builder of sections: the groups so far, the last of which is not written yet.
use Rattle.std.specs.Prelude.{◌≡◌, ℕ, Bool, false, cond, List, [], ◌∷◌, ◌++◌}
use Rattle.hdt_wire.specs.declared.Role.{Role}
use Rattle.hdt_dict.specs.Strings.{IsDictionaryString}
use Rattle.hdt_build.specs.declared.grouped_sections.Pushed.{Pushed}
use Rattle.hdt_build.specs.declared.grouped_sections.Pushed.TheVariants.{Refused, Added, Began}
use Rattle.hdt_build.specs.declared.grouped_sections.Roles.{Roles}
use Rattle.hdt_build.specs.Inside.Groups.{AreGroups, AreWritten, Group, group_of, IsBelowLast, new_group}
use Rattle.hdt_build.specs.Inside.Groups.{numbers_of_codes}
use Rattle.hdt_build.specs.Inside.Groups.{SectionStates, with_role}

-- a builder: its sections, and the current string with its roles so far, if there is one
pub record BuilderState : Type 0 where
  pub sections : SectionStates
  pub text : List ℕ
  pub roles : Roles
  pub has_current : Bool

-- the current group, if there is one
abbrev pub current_groups : BuilderState → List Group
current_groups b = cond b.has_current (group_of b.text b.roles ∷ []) []

-- The groups so far, and the numbers that were given out: two for each group but the last one.
pub record HasGroups (n : ℕ) (b : BuilderState) (gs : List Group) (numbers : List ℕ) : Type 0 where
  pub closed : List Group
  pub all : gs ≡ closed ++ current_groups b
  pub first : b.has_current ≡ false → closed ≡ []
  pub written : AreWritten n b.sections closed numbers
  pub groups : AreGroups gs

-- The result of a push. A string that is refused is no dictionary string, or less than the last one.
abbrev pub IsPushed : ℕ → BuilderState → List Group → List ℕ → List ℕ → Role → Pushed → Type 0
IsPushed n b gs numbers text role Refused = IsDictionaryString text → IsBelowLast text gs
IsPushed n b gs numbers text role Added = (front : List Group) × (g : Group) × (gs ≡ front ++ g ∷ [])
    × (g.text ≡ text) × HasGroups n b (front ++ with_role role g ∷ []) numbers
IsPushed n b gs numbers text role (Began codes) = HasGroups n b (gs ++ new_group text role ∷ [])
    (numbers ++ numbers_of_codes codes)
