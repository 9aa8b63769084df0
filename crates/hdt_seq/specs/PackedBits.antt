-- Packed bytes (rdfhdt.org, "HDT binary format", Log sequence, Bitmap): the bytes are one little-endian number, whose
-- binary digits, least significant first, are cut into entries of a fixed width, or taken one by one.
use Rattle.std.specs.Prelude.{ℕ, ◌+◌, ◌*◌, ◌/◌, ◌%◌, ◌^◌, ◌<◌, ◌==◌, List, [], ◌∷◌, length, get_or, Bool, cond, map}
use Rattle.std.specs.List.{range_with_len}
use Rattle.byteorder.specs.Endian.{little_bytes}

-- the little-endian number of the bytes
abbrev pub little : List ℕ → ℕ
little [] = 0
little (b ∷ bs) = b + 256 * little bs

-- the number of bytes that hold so many bits
abbrev pub bytes_for : ℕ → ℕ
bytes_for bits = (bits + 7) / 8

-- entry i of entries of a width
unfoldable pub entry : List ℕ → ℕ → ℕ → ℕ
entry bytes width i = little bytes / 2 ^ (width * i) % 2 ^ width

-- the first n entries of a width
unfoldable pub entries : List ℕ → ℕ → ℕ → List ℕ
entries bytes width n = map (entry bytes width) (range_with_len 0 n)

-- whether bit i is 1
unfoldable pub bit : List ℕ → ℕ → Bool
bit bytes i = (little bytes / 2 ^ i % 2) == 1

-- the first n bits
unfoldable pub bits : List ℕ → ℕ → List Bool
bits bytes n = map (bit bytes) (range_with_len 0 n)

-- ---- writing

-- the number whose digits in base 2 ^ width, least significant first, are the entries
abbrev pub packed_number : ℕ → List ℕ → ℕ
packed_number width [] = 0
packed_number width (x ∷ xs) = x + 2 ^ width * packed_number width xs

-- the bytes that hold the entries; padding bits are 0
unfoldable pub packed : ℕ → List ℕ → List ℕ
packed width xs = little_bytes (bytes_for (width * length xs)) (packed_number width xs)

-- a bit as an entry of width 1
abbrev pub bit_number : Bool → ℕ
bit_number b = cond b 1 0

-- the bytes that hold the bits; padding bits are 0
unfoldable pub packed_bits : List Bool → List ℕ
packed_bits xs = packed 1 (map bit_number xs)

-- each entry has no more binary digits than the width
abbrev pub EachFits : ℕ → List ℕ → Type 0
EachFits width xs = (i : ℕ) → get_or xs i 0 < 2 ^ width
