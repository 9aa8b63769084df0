-- Triples that have no line of N-Triples, since one of their strings is not a term which its role allows.
use Rattle.std.specs.Prelude.{◌≡◌, ℕ, zero, suc, not, cond, Bool, true, false, List, [], ◌∷◌, length, Option, None}
use Rattle.std.specs.Prelude.{Some}
use Rattle.std.specs.List.{All, filter}
use Rattle.hdt_wire.specs.declared.Role.{Role}
use Rattle.hdt_triples.specs.TripleSequences.{Triple}
use Rattle.hdt_triples.specs.Uses.{role_component}
use Rattle.hdt_file.specs.Denoted.{denoted_triple}
use Rattle.hdt_file.specs.File.{GraphParts}
use Rattle.hdt_file.specs.Text.{HasTerm, HasNoTerm}
use Rattle.hdt_file.specs.TextWriting.{limited}

-- each string of the triple is a term that its role allows
abbrev pub IsWritable : GraphParts → Triple → Type 0
IsWritable g t = (role : Role) → HasTerm role (role_component role (denoted_triple g t))

-- one of its strings is not
abbrev pub IsNotWritable : GraphParts → Triple → Type 0
IsNotWritable g t = (role : Role) × HasNoTerm role (role_component role (denoted_triple g t))

-- true exactly for the triples that have a line
pub record DecidesWritable (g : GraphParts) (is_writable : Triple → Bool) : Type 0 where
  pub some : (t : Triple) → is_writable t ≡ true → IsWritable g t
  pub none : (t : Triple) → is_writable t ≡ false → IsNotWritable g t

-- each triple has a line
abbrev pub AreWritableTriples : GraphParts → List Triple → Type 0
AreWritableTriples g ts = All (IsWritable g) ts

-- how many triples have no line before the n-th that has one, or at all if fewer have one
abbrev pub skipped_before : (Triple → Bool) → ℕ → List Triple → ℕ
skipped_before is_writable n [] = 0
skipped_before is_writable zero (t ∷ ts) = 0
skipped_before is_writable (suc n) (t ∷ ts) =
    cond (is_writable t) (skipped_before is_writable n ts) (suc (skipped_before is_writable (suc n) ts))

-- the number of triples without a line: of all, or before the last of the first `most` that have one
abbrev pub skipped_among : (Triple → Bool) → Option ℕ → List Triple → ℕ
skipped_among is_writable None ts = length (filter (λ t. not (is_writable t)) ts)
skipped_among is_writable (Some most) ts = skipped_before is_writable most ts

-- `kept` are the triples that have a line, or the first `most` of these; so many without one were skipped for them
pub record SkipsNonTerms (g : GraphParts) (most : Option ℕ) (ts kept : List Triple) (skipped : ℕ) : Type 0 where
  pub is_writable : Triple → Bool
  pub tells : DecidesWritable g is_writable
  pub kept_are : kept ≡ limited most (filter is_writable ts)
  pub skipped_is : skipped ≡ skipped_among is_writable most ts
