-- The matches of a pattern that is given.
use mathlib.Core.Path.{refl, ap}
use Rattle.std.specs.Prelude.{◌≡◌, ◌↔◌, [], Option, None, Some}
use Rattle.hdt_triples.specs.declared.pattern.Pattern.{Pattern}
use Rattle.hdt_file.specs.File.{GraphParts}
use Rattle.hdt_file.specs.TextWriting.{matches_if_given}
use Rattle.hdt_c.specs.LookUps.{AreMatches}

no_matches_if_not_given : (g : GraphParts) (pattern : Option Pattern) → ((p : Pattern) → pattern ≡ Some p → ⊥)
    → matches_if_given g pattern ≡ []
no_matches_if_not_given g None never = refl
no_matches_if_not_given g (Some p) never = absurd (never p refl)

-- the matches of an optional pattern that is what is given
pub are_matches : (g : GraphParts) (pattern : Option Pattern) (IsGiven : Pattern → Type 0)
    → ((p : Pattern) → (pattern ≡ Some p) ↔ IsGiven p) → AreMatches g IsGiven (matches_if_given g pattern)
are_matches g pattern IsGiven exact = record {
  items = λ p is. ap (matches_if_given g) ((exact p).1 is);
  none = λ never. no_matches_if_not_given g pattern (λ p e. never p ((exact p).0 e));
}
