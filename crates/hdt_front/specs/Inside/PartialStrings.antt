-- A string of which a part has been decoded.
use Rattle.std.specs.Prelude.{◌≡◌, ℕ, zero, suc, ◌+◌, ◌*◌, ◌<◌, ◌≤◌, ◌++◌, List, [], length, take, drop}
use Rattle.hdt_wire.specs.Checks.{len_before_zero}
use Rattle.hdt_front.specs.EntryFacts.{bytes_from_entry, string_before_entry}

-- The string before entry k of block q; empty for k = 0.
abbrev pub partial_string : ℕ → ℕ → ℕ → List ℕ → List ℕ
partial_string b q zero bytes = []
partial_string b q (suc k) bytes = string_before_entry b (q * b + suc k) bytes

-- The first `at` bytes of the buffer are a prefix of string k of block q, counted from 1. The remainder of the string
-- is the zero-terminated text at the start of the unread bytes.
pub record IsPartlyDecoded (b q k : ℕ) (bytes buffer : List ℕ) (at : ℕ) (left : List ℕ) : Type 0 where
  pub within : at ≤ length buffer
  pub string : take at buffer ++ take (len_before_zero left) left ≡ partial_string b q k bytes
  pub ends : len_before_zero left < length left
  pub after : drop (len_before_zero left + 1) left ≡ bytes_from_entry b (q * b + k) bytes
