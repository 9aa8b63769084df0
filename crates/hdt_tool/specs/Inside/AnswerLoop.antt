-- The loop of `answer` over the lines of its input.
use Rattle.std.specs.Prelude.{◌≡◌, ◌+◌, ◌-◌, ℕ, true, false, ◌⊎◌, List, Option, if◌then◌else◌}
use Rattle.hdt_terms.specs.Documents.{AreLines, LinesSoFar}
use Rattle.hdt_terms.specs.LinesReader.{LinesState}
use Rattle.hdt_tool.specs.Dialogue.{max_input_bytes}

-- These lines have been read from the input: those up to what is left, or all of them.
abbrev pub HasTakenLines : LinesState → Option (List ℕ) → Option (List ℕ) → List (ℕ × List ℕ) → Type 0
HasTakenLines s input left lines = ((s.ended ≡ false) × LinesSoFar max_input_bytes s input left lines)
    ⊎ ((s.ended ≡ true) × AreLines max_input_bytes input lines)

-- An upper bound of the number of lines left, for termination.
abbrev pub lines_left : LinesState → ℕ
lines_left s = if s.ended then 0 else s.limit - s.taken + 1
