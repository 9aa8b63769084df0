-- The checks of the strings of a section.
use Rattle.std.specs.Prelude.{ℕ, zero, suc, ◌+◌, ◌-◌, ◌/◌, ◌==◌, ◌||◌, Bool, nat_le, nat_lt, List, ◌++◌, length, take}
use Rattle.std.specs.Prelude.{drop, get_or, Result, Ok, Err, if◌then◌else◌}
use Rattle.std.specs.Str.{is_utf8}
use Rattle.std.specs.Ordering.{is_lt}
use Rattle.hdt_wire.specs.declared.fault.Fault.{Fault}
use Rattle.hdt_wire.specs.declared.fault.Reason.{Reason}
use Rattle.hdt_wire.specs.declared.fault.Reason.TheVariants.{Truncated, BlockPlace, PrefixTooLong, PackedLength}
use Rattle.hdt_wire.specs.declared.fault.Reason.TheVariants.{NotUtf8, StringsNotAscending}
use Rattle.hdt_wire.specs.Checks.{◌>>=◌, demand, len_before_zero}
use Rattle.hdt_wire.specs.VByte.{vbyte_at}
use Rattle.hdt_seq.specs.Sequence.{SequenceShape, entry_offset}
use Rattle.hdt_front.specs.Order.{string_cmp}
use Rattle.hdt_front.specs.Decoding.{is_block_start, block_count}

-- The layout of front-coded strings: the block size, the offset and the size of the front-coded bytes, the stored block
-- offsets and the byte offsets of these.
pub record BlockLayout : Type 0 where
  pub block_size : ℕ
  pub packed_at : ℕ
  pub size : ℕ
  pub block_offsets : List ℕ
  pub block_offsets_at : SequenceShape

-- The byte offset in the input of the unread bytes.
abbrev pub rest_offset : BlockLayout → List ℕ → ℕ
rest_offset p rest = p.packed_at + (p.size - length rest)

-- A prefix length must end within the front-coded bytes.
abbrev pub packed_reason : Reason → Reason
packed_reason Truncated = PackedLength
packed_reason r = r

-- The prefix length that was read, and the bytes after it; errors are reported at the offset of the entry.
abbrev pub prefix_result : ℕ → List ℕ → Result (ℕ × ℕ) Fault → Result (ℕ × List ℕ) Fault
prefix_result place rest (Ok x) = Ok (x.0, drop x.1 rest)
prefix_result place rest (Err f) = Err (record { place = place; reason = packed_reason f.reason })

-- The prefix length of entry i, and the bytes from its suffix on. At the first entry of a block, its offset must be the
-- stored block offset, and the prefix is empty.
unfoldable pub prefix_check : BlockLayout → ℕ → List ℕ → Result (ℕ × List ℕ) Fault
prefix_check p i rest =
    if is_block_start p.block_size i
    then demand (get_or p.block_offsets (i / p.block_size) 0 == p.size - length rest)
    (entry_offset p.block_offsets_at (i / p.block_size)) BlockPlace >>= (λ _. Ok (0, rest))
    else prefix_result (rest_offset p rest) rest (vbyte_at rest 0)

-- Whether the first string is less than the second.
abbrev pub precedes : List ℕ → List ℕ → Bool
precedes x y = is_lt (string_cmp x y)

-- The checks of string i, in order: the string, which is a prefix of the previous one and the suffix, and the bytes
-- after its entry.
unfoldable pub string_check : BlockLayout → ℕ → List ℕ → List ℕ → Result (List ℕ × List ℕ) Fault
string_check p i before rest = do
  front ← prefix_check p i rest
  let len = len_before_zero front.1 in
      let string = take front.0 before ++ take len front.1 in
      do
        _ ← demand (nat_le front.0 (length before)) (rest_offset p rest) PrefixTooLong
        _ ← demand (nat_lt len (length front.1)) (rest_offset p front.1) PackedLength
        _ ← demand (is_utf8 string) (rest_offset p rest) NotUtf8
        _ ← demand (i == 0 || precedes before string) (rest_offset p rest) StringsNotAscending
        Ok (string, drop (len + 1) front.1)

-- The checks of n strings, the first of which has index i and follows the string `before`; then those of the end: no
-- bytes are left, and the last block offset is the end.
unfoldable pub strings_check : BlockLayout → ℕ → ℕ → List ℕ → List ℕ → Result (Unit {0}) Fault
strings_check p zero i before rest = do
  _ ← demand (length rest == 0) (rest_offset p rest) PackedLength
  demand (i == 0 || get_or p.block_offsets (block_count i p.block_size) 0 == p.size)
      (entry_offset p.block_offsets_at (block_count i p.block_size)) BlockPlace
strings_check p (suc n) i before rest = do
  one ← string_check p i before rest
  strings_check p n (i + 1) one.0 one.1
