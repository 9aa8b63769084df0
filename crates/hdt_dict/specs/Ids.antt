-- Strings by ID, from 1.
use Rattle.std.specs.Prelude.{◌≡◌, ℕ, zero, suc, List, ◌++◌, Bool, true, false, Option, Some, None, slice_get}

-- the string of a list with ID n, if there is one
abbrev pub string_at_id : List (List ℕ) → ℕ → Option (List ℕ)
string_at_id xs zero = None
string_at_id xs (suc i) = slice_get xs i

-- the string was appended; or there is none, and the buffer is unchanged
abbrev pub AppendsString : Option (List ℕ) → Bool → List ℕ → List ℕ → Type 0
AppendsString None appended old new = (appended ≡ false) × (new ≡ old)
AppendsString (Some x) appended old new = (appended ≡ true) × (new ≡ old ++ x)
