-- Strings as bytes: of each, the length of its longest common prefix with the previous one and that of the rest as
-- VBytes, and the rest.
use Rattle.std.specs.Prelude.{◌≡◌, ℕ, zero, suc, ◌-◌, ◌^◌, ◌<◌, List, [], ◌∷◌, ◌++◌, drop, take, length}
use Rattle.std.specs.List.{All}
use Rattle.hdt_front.specs.Order.{lcp_len}
use Rattle.hdt_wire.specs.VByte.{vbyte}
use Rattle.hdt_build.specs.declared.packed_strings.StringReader.{StringReader}
use Rattle.hdt_build.specs.Inside.PackedTriples.{split_number}

-- ---- writing

-- the bytes of strings, the first of which follows the string x
unfoldable pub packed_strings : List ℕ → List (List ℕ) → List ℕ
packed_strings x [] = []
packed_strings x (y ∷ ys) = vbyte (lcp_len x y)
    ++ (vbyte (length y - lcp_len x y) ++ (drop (lcp_len x y) y ++ packed_strings y ys))

-- the last string; x if there is none
unfoldable pub final_string : List ℕ → List (List ℕ) → List ℕ
final_string x [] = x
final_string x (y ∷ ys) = final_string y ys

-- ---- reading

-- the first n bytes, or all, and the others
unfoldable pub split_bytes : ℕ → List ℕ → List ℕ × List ℕ
split_bytes n bytes = (take n bytes, drop n bytes)

-- the n strings that the bytes begin with, of which the first one follows the string x
unfoldable pub unpacked_strings : ℕ → List ℕ → List ℕ → List (List ℕ)
unpacked_strings zero x bytes = []
unpacked_strings (suc n) x bytes =
    let a = split_number bytes in
    let b = split_number a.1 in
    let c = split_bytes b.0 b.1 in
    let y = take a.0 x ++ c.0 in
    y ∷ unpacked_strings n y c.1

-- ---- a list

-- the bytes are those of the strings, the last of which is this one
pub record ArePackedStrings (bytes last : List ℕ) (strings : List (List ℕ)) : Type 0 where
  pub bytes_are : bytes ≡ packed_strings [] strings
  pub last_is : last ≡ final_string [] strings
  pub fit : All (λ x. length x < 2 ^ 64) strings

-- the strings that remain
abbrev pub remaining_strings : StringReader → List (List ℕ)
remaining_strings r = unpacked_strings r.count r.text.items r.rest.now
