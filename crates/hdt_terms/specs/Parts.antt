-- Which part of a split document a triple goes to: the CRC-32 of its subject modulo the number of parts.
use Rattle.std.specs.Prelude.{ℕ, ◌≤◌, ◌%◌, List, fold, bit_xor}
use Rattle.std.specs.Fn.{iterate}
use Rattle.hdt_wire.specs.Crc.{shift_right}

-- CRC-32/ISO-HDLC of the catalogue, as gzip, zlib and PNG use it: polynomial 04C11DB7, reflected; the initial value is
-- all ones, and all bits are inverted at the end.
unfoldable pub crc32_zlib_step : ℕ → ℕ → ℕ
crc32_zlib_step register byte = iterate (shift_right 0xEDB8_8320) 8 (bit_xor register byte)

abbrev pub crc32_zlib : List ℕ → ℕ
crc32_zlib bytes = bit_xor (fold crc32_zlib_step 0xFFFF_FFFF bytes) 0xFFFF_FFFF

-- A number of parts is 1 to 65,536.
abbrev pub IsPartCount : ℕ → Type 0
IsPartCount n = (1 ≤ n) × (n ≤ 65536)

-- The part of the triples whose subject has this dictionary string.
abbrev pub part_of_string : ℕ → List ℕ → ℕ
part_of_string parts string = crc32_zlib string % parts
