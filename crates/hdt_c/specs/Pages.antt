-- Pages of matches.
use Rattle.std.specs.Prelude.{◌≡◌, ◌⊎◌, ℕ, List, [], map, take, drop, length, Option, Some, None}
use Rattle.hdt_triples.specs.Patterns.{matches}
use Rattle.hdt_triples.specs.declared.pattern.Pattern.{Pattern}
use Rattle.hdt_file.specs.File.{GraphParts}
use Rattle.hdt_file.specs.Paging.{IsNextMatch}
use Rattle.hdt_c.specs.LookUps.{absent, no_memory, numbers}
use Rattle.hdt_c.specs.CallerBuffer.{overwritten_prefix}

-- the matches of a pattern from triple `from` on were written to the buffer, as many as fit, and their number is the
-- result; `next` is where the next match is, or that there is none
pub record PutsMatchesFrom (g : GraphParts) (p : Pattern) (from answer next : ℕ)
    (old new : List (List ℕ)) : Type 0 where
  pub count : answer ≡ length (take (length old) (matches p (drop from g.triples)))
  pub put : new ≡ overwritten_prefix (map numbers (matches p (drop from g.triples))) old
  pub next_is : IsNextMatch g.triples p from (length old) next
      ⊎ ((next ≡ absent) × (drop (length old) (matches p (drop from g.triples)) ≡ []))

-- nothing was written
abbrev pub PutsNothing : ℕ → ℕ → ℕ → List (List ℕ) → List (List ℕ) → Type 0
PutsNothing wanted answer next old new = (answer ≡ wanted) × (next ≡ absent) × (new ≡ old)

-- the same of an optional pattern: without one there is no match
abbrev pub PutsPage : GraphParts → Option Pattern → ℕ → ℕ → ℕ → List (List ℕ) → List (List ℕ) → Type 0
PutsPage g None from answer next old new = PutsNothing 0 answer next old new
PutsPage g (Some p) from answer next old new = PutsMatchesFrom g p from answer next old new
    ⊎ PutsNothing no_memory answer next old new

-- P is true of the pattern that is given, or of none
pub record PatternSatisfies (IsGiven : Pattern → Type 0) (P : Option Pattern → Type 0) : Type 0 where
  pub found : (p : Pattern) → IsGiven p → P (Some p)
  pub none : ((p : Pattern) → IsGiven p → ⊥) → P None

-- the result of `hdt_page` for the pattern that is given, or for none
abbrev pub ReturnsPage : GraphParts → (Pattern → Type 0) → ℕ → ℕ → ℕ → List (List ℕ) → List (List ℕ) → Type 0
ReturnsPage g IsGiven from answer next old new =
    PatternSatisfies IsGiven (λ pattern. PutsPage g pattern from answer next old new)
