-- Patterns of strings and IDs.
use Rattle.std.specs.Prelude.{◌≡◌, ℕ, zero, suc, List, Option, Some, None}
use Rattle.hdt_wire.specs.declared.Role.TheVariants.{Subject, Predicate, Object}
use Rattle.hdt_dict.specs.Dictionary.{role_strings}
use Rattle.hdt_dict.specs.Ids.{string_at_id}
use Rattle.hdt_triples.specs.declared.pattern.Pattern.{Pattern}
use Rattle.hdt_file.specs.File.{GraphParts}
use Rattle.hdt_c.specs.declared.pattern.HdtPart.{HdtPart}
use Rattle.hdt_c.specs.declared.pattern.HdtPattern.{HdtPattern}

-- what a part of a pattern gives, by its kind: nothing, this ID, or the ID of this string; another kind gives no ID
abbrev pub GivesByKind : ℕ → ℕ → List ℕ → List (List ℕ) → Option ℕ → Type 0
GivesByKind zero id string strings given = given ≡ None
GivesByKind (suc zero) id string strings given = given ≡ Some id
GivesByKind (suc (suc zero)) id string strings None = ⊥
GivesByKind (suc (suc zero)) id string strings (Some n) = string_at_id strings n ≡ Some string
GivesByKind (suc (suc (suc k))) id string strings given = ⊥

-- the part gives this ID, or none, in a role with these strings
abbrev pub GivesId : List (List ℕ) → HdtPart → Option ℕ → Type 0
GivesId strings part given = GivesByKind part.kind part.id part.string.now strings given

-- the pattern has the ID that each part gives in its role
pub record IsGivenPattern (g : GraphParts) (given : HdtPattern) (p : Pattern) : Type 0 where
  pub subject : GivesId (role_strings g.dictionary Subject) given.s p.s
  pub predicate : GivesId (role_strings g.dictionary Predicate) given.p p.p
  pub object : GivesId (role_strings g.dictionary Object) given.o p.o
