-- The positions of two seekers over two consecutive sections.
use Rattle.std.specs.Prelude.{◌≡◌, ℕ, ◌-◌, ◌<◌, ◌≤◌, length}
use Rattle.hdt_front.specs.Strings.{strings_of}
use Rattle.hdt_front.specs.SeekerState.{SeekerState}

-- String n, counted over both sections, is current: in the first seeker, with the second one at its start; or in the
-- second seeker.
pub record AreAtString (first second : SeekerState) (n : ℕ) : Type 0 where
  pub in_first : n ≤ length (strings_of first.section) → (first.at ≡ n) × (second.at ≡ 0)
  pub in_second : length (strings_of first.section) < n → second.at ≡ n - length (strings_of first.section)
