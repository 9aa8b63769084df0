-- Runs of bytes that pass a test, by index.
use Rattle.std.specs.Prelude.{◌≡◌, ℕ, ◌+◌, ◌/◌, ◌<◌, ◌≤◌, Bool, true, false, not, ◌&&◌, ◌==◌, List, [], ◌∷◌}
use Rattle.std.specs.Prelude.{slice_index, bit_and}
use Rattle.std.specs.Char.{is_ascii}
use Rattle.hdt_terms.specs.declared.byte_runs.ByteClass.{ByteClass}
use Rattle.hdt_terms.specs.declared.byte_runs.ByteClass.TheVariants.{Unescaped, NonzeroAscii, NotLineEnd}
use Rattle.hdt_terms.specs.declared.byte_runs.ByteClass.TheVariants.{AsciiNotLineEnd}
use Rattle.hdt_terms.specs.Chars.{is_line_end}
use Rattle.hdt_terms.specs.Grammar.{is_unescaped}

-- Whether a byte is of the class.
abbrev pub passes : ByteClass → ℕ → Bool
passes (Unescaped token) c = is_unescaped token c
passes NonzeroAscii c = not (c == 0) && is_ascii c
passes NotLineEnd c = not (is_line_end c)
passes AsciiNotLineEnd c = not (is_line_end c) && is_ascii c

-- The bytes from at up to end pass the test.
abbrev pub PassBetween : (ℕ → Bool) → List ℕ → ℕ → ℕ → Type 0
PassBetween test bytes at end = (k : ℕ) → at ≤ k → k < end → test (slice_index bytes k) ≡ true

-- Of the n bytes from at on, the first run bytes pass, and the next one, if there is one, does not.
pub record IsRunOfBytes (test : ℕ → Bool) (bytes : List ℕ) (at n run : ℕ) : Type 0 where
  pub within : run ≤ n
  pub pass : PassBetween test bytes at (at + run)
  pub stop : run < n → test (slice_index bytes (at + run)) ≡ false

-- Two table lookups test whether IRIs exclude a byte: excluded_by_low has, for the byte's low four bits, one bit for
-- each value of the high four; bit_by_high is the bit of the byte's high four, and 0 beyond ASCII.
abbrev pub excluded_by_low : ℕ → ℕ
excluded_by_low x = slice_index (71 ∷ 3 ∷ 7 ∷ 3 ∷ 3 ∷ 3 ∷ 3 ∷ 3 ∷ 3 ∷ 3 ∷ 3 ∷ 131 ∷ 171 ∷ 131 ∷ 43 ∷ 3
    ∷ []) (bit_and x 15)

abbrev pub bit_by_high : ℕ → ℕ
bit_by_high x = slice_index (1 ∷ 2 ∷ 4 ∷ 8 ∷ 16 ∷ 32 ∷ 64 ∷ 128 ∷ 0 ∷ 0 ∷ 0 ∷ 0 ∷ 0 ∷ 0 ∷ 0 ∷ 0 ∷ []) (x / 16)
