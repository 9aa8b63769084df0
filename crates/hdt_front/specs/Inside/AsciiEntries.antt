-- The usual entry: not the first of its block, a one-byte prefix length, an ASCII suffix.
use Rattle.std.specs.Prelude.{◌≡◌, ℕ, ◌<◌, ◌≤◌, ◌++◌, true, List, length, take, drop, Ok}
use Rattle.std.specs.Str.{is_utf8}
use Rattle.hdt_wire.specs.Checks.{len_before_zero}
use Rattle.hdt_wire.specs.VByte.{vbyte_at}
use Rattle.hdt_front.specs.StringChecks.{precedes}

-- The checks of an entry with a one-byte prefix length `kept` and a suffix of length `len` hold.
pub record IsAsciiEntry (before rest : List ℕ) (kept len : ℕ) : Type 0 where
  pub number : vbyte_at rest 0 ≡ Ok (kept, 1)
  pub fits : kept ≤ length before
  pub text : len_before_zero (drop 1 rest) ≡ len
  pub ends : len < length (drop 1 rest)
  pub utf8 : is_utf8 (take kept before ++ take len (drop 1 rest)) ≡ true
  pub later : precedes before (take kept before ++ take len (drop 1 rest)) ≡ true
