-- A line of a document as a terminal shows it, with a mark below one byte.
use Rattle.std.specs.Prelude.{ℕ, ◌+◌, ◌-◌, ◌/◌, ◌%◌, ◌&&◌, List, [], ◌∷◌, ◌++◌, length, take, drop, replicate, nat_le}
use Rattle.std.specs.Prelude.{if◌then◌else◌}
use Rattle.std.specs.List.{flat_map}

-- A byte as a terminal shows it: printable ASCII as it is, any other byte as `\` and three octal digits.
abbrev pub shown_byte : ℕ → List ℕ
shown_byte b = if (nat_le 32 b && nat_le b 126) then b ∷ [] else 92 ∷ (48 + b / 64) ∷ (48 + b / 8 % 8) ∷ (48 + b % 8)
    ∷ []

abbrev pub shown : List ℕ → List ℕ
shown bytes = flat_map shown_byte bytes

-- Where the part of a shown line begins that is printed: half the width before the marked place.
abbrev pub window_start : ℕ → ℕ → ℕ
window_start place width = place - width / 2

-- A shown line, cut to a width around a place in it, and a line with `^` below that place. Both are indented by two
-- spaces.
abbrev pub marked_text : List ℕ → ℕ → ℕ → List ℕ
marked_text text place width = 32 ∷ 32 ∷ (take width (drop (window_start place width) text)
    ++ 10 ∷ 32 ∷ 32 ∷ (replicate (place - window_start place width) 32 ++ 94 ∷ 10 ∷ []))

-- The same for a line and the number of its bytes before the marked one.
abbrev pub marked_line : List ℕ → ℕ → ℕ → List ℕ
marked_line line before width = marked_text (shown line) (length (shown (take before line))) width
