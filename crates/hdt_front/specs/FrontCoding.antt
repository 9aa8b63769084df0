-- Front coding of one string: its string entry.
use Rattle.std.specs.Prelude.{ℕ, ◌≡◌, ◌≤◌, ◌<◌, ◌^◌, List, [], ◌∷◌, ◌++◌, Bool, true, false, length, take, drop}
use Rattle.hdt_wire.specs.VByte.{VByte}

-- The string entry shares a prefix with the previous string: the prefix length as a VByte, the suffix, and a zero byte.
-- The prefix need not be the longest one.
pub record SharesPrefix (before string entry : List ℕ) : Type 0 where
  pub prefix_len : ℕ
  pub front : List ℕ
  pub spelled : VByte front prefix_len
  pub small : prefix_len < 2 ^ 64
  pub fits : prefix_len ≤ length before
  pub agree : take prefix_len before ≡ take prefix_len string
  pub is : entry ≡ front ++ (drop prefix_len string ++ 0 ∷ [])

-- The first string entry of a block is the full string with a zero byte. Any other shares a prefix with the previous
-- string.
abbrev pub IsEntry : Bool → List ℕ → List ℕ → List ℕ → Type 0
IsEntry true before string entry = entry ≡ string ++ 0 ∷ []
IsEntry false before string entry = SharesPrefix before string entry
