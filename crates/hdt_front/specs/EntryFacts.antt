-- Facts about each entry of a section whose checks hold.
use Rattle.std.specs.Prelude.{◌≡◌, ℕ, zero, suc, ◌-◌, ◌/◌, ◌<◌, ◌≤◌, ◌==◌, ◌||◌, true, false, List, [], length, get_or}
use Rattle.std.specs.Prelude.{Ok}
use Rattle.std.specs.Str.{is_utf8}
use Rattle.hdt_wire.specs.Checks.{len_before_zero}
use Rattle.hdt_wire.specs.VByte.{vbyte_at}
use Rattle.hdt_front.specs.Decoding.{is_block_start, stored_prefix_len, bytes_from_suffix, decoded_string, after_entry}
use Rattle.hdt_front.specs.Decoding.{value_or}
use Rattle.hdt_front.specs.StringChecks.{BlockLayout, precedes}

-- The bytes from entry i on.
unfoldable pub bytes_from_entry : ℕ → ℕ → List ℕ → List ℕ
bytes_from_entry b zero bytes = bytes
bytes_from_entry b (suc i) bytes = after_entry (is_block_start b i) (bytes_from_entry b i bytes)

-- The string before string i; empty for i = 0.
unfoldable pub string_before_entry : ℕ → ℕ → List ℕ → List ℕ
string_before_entry b zero bytes = []
string_before_entry b (suc i) bytes =
    decoded_string (is_block_start b i) (string_before_entry b i bytes) (bytes_from_entry b i bytes)

-- The checks of string i hold.
pub record IsCheckedEntry (p : BlockLayout) (i : ℕ) (before rest : List ℕ) : Type 0 where
  pub start : is_block_start p.block_size i ≡ true → get_or p.block_offsets (i / p.block_size) 0 ≡ p.size - length rest
  pub number : is_block_start p.block_size i ≡ false → vbyte_at rest 0 ≡ Ok (value_or (0, 0) (vbyte_at rest 0))
  pub fits : stored_prefix_len (is_block_start p.block_size i) rest ≤ length before
  pub ends : len_before_zero (bytes_from_suffix (is_block_start p.block_size i) rest)
      < length (bytes_from_suffix (is_block_start p.block_size i) rest)
  pub utf8 : is_utf8 (decoded_string (is_block_start p.block_size i) before rest) ≡ true
  pub ascends : (i == 0 || precedes before (decoded_string (is_block_start p.block_size i) before rest)) ≡ true
