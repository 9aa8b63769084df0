-- CRCs (rdfhdt.org, "HDT binary format"; CRC-8/SMBUS, CRC-16/ARC and CRC-32C of the catalogue): each byte is xored into
-- a register, which is then shifted eight times by one bit.
use Rattle.std.specs.Prelude.{ℕ, ◌*◌, ◌/◌, ◌%◌, ◌==◌, List, fold, bit_xor, nat_le, if◌then◌else◌}
use Rattle.std.specs.Fn.{iterate}

-- a register of eight bits shifted left, with 07 xored in if the bit shifted out was 1
unfoldable pub shift_left : ℕ → ℕ
shift_left register = if nat_le 128 register then bit_xor (register * 2 % 256) 0x07 else register * 2

-- a register shifted right, with the reflected polynomial xored in if the bit shifted out was 1
unfoldable pub shift_right : ℕ → ℕ → ℕ
shift_right polynomial register = if register % 2 == 1 then bit_xor (register / 2) polynomial else register / 2

-- the register after one more byte
unfoldable pub crc8_step : ℕ → ℕ → ℕ
crc8_step register byte = iterate shift_left 8 (bit_xor register byte)

unfoldable pub crc16_step : ℕ → ℕ → ℕ
crc16_step register byte = iterate (shift_right 0xA001) 8 (bit_xor register byte)

unfoldable pub crc32_step : ℕ → ℕ → ℕ
crc32_step register byte = iterate (shift_right 0x82F63B78) 8 (bit_xor register byte)

-- CRC-8/SMBUS: the initial value is 0
abbrev pub crc8 : List ℕ → ℕ
crc8 bytes = fold crc8_step 0 bytes

-- CRC-16/ARC: the initial value is 0
abbrev pub crc16 : List ℕ → ℕ
crc16 bytes = fold crc16_step 0 bytes

-- CRC-32C: the initial value is all ones, and all bits are inverted at the end
abbrev pub crc32_register : List ℕ → ℕ
crc32_register bytes = fold crc32_step 0xFFFF_FFFF bytes

abbrev pub crc32 : List ℕ → ℕ
crc32 bytes = bit_xor (crc32_register bytes) 0xFFFF_FFFF
