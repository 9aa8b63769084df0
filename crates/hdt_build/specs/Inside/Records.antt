-- Records: strings with their roles, as byte strings.
use Rattle.std.specs.Prelude.{◌≡◌, ℕ, List, [], ◌∷◌, ◌++◌}
use Rattle.std.specs.List.{All}
use Rattle.hdt_wire.specs.declared.Role.{Role}
use Rattle.hdt_wire.specs.declared.Role.TheVariants.{Subject, Predicate, Object}
use Rattle.hdt_build.specs.Inside.TripleRuns.{joined_runs}

-- in the order of the records of one string
abbrev pub role_code : Role → ℕ
role_code Predicate = 1
role_code Object = 2
role_code Subject = 3

-- the string, a zero byte, which no string has, and the role: so records are in the order of their strings
abbrev pub record_with : ℕ → List ℕ → List ℕ
record_with number text = text ++ 0 ∷ number ∷ []

abbrev pub record_of : Role → List ℕ → List ℕ
record_of role text = record_with (role_code role) text

-- the record is one of a string
pub record IsRecord (bytes : List ℕ) : Type 0 where
  pub role : Role
  pub text : List ℕ
  pub is : bytes ≡ record_of role text

-- all runs consist of such records
abbrev pub AreRecordRuns : List (List (List ℕ)) → Type 0
AreRecordRuns runs = All IsRecord (joined_runs runs)
