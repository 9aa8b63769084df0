-- Front coding and ascending strings, defined by recursion over the list. The definitions in Section are by index;
-- Laws/FrontCoding proves the two equivalent.
use Rattle.std.specs.Prelude.{ℕ, ◌+◌, ◌-◌, ◌/◌, ◌≡◌, ◌<◌, List, [], ◌∷◌, true, false, length, get_or, nat_eq, ◌||◌}
use Rattle.std.specs.List.{concat}
use Rattle.std.specs.Str.{is_utf8}
use Rattle.hdt_front.specs.StringChecks.{precedes}
use Rattle.hdt_front.specs.FrontCoding.{IsEntry}
use Rattle.hdt_front.specs.Decoding.{is_block_start}

-- The entries are those of the strings, one for each.
unfoldable pub AreEntries : ℕ → ℕ → List ℕ → List (List ℕ) → List (List ℕ) → Type 0
AreEntries b i before [] [] = Unit {0}
AreEntries b i before [] (entry ∷ entries) = ⊥
AreEntries b i before (string ∷ strings) [] = ⊥
AreEntries b i before (string ∷ strings) (entry ∷ entries) = IsEntry (is_block_start b i) before string entry
    × AreEntries b (i + 1) string strings entries

-- Each block offset is that of the first entry of its block, and the last one is the end.
unfoldable pub AreBlockStarts : ℕ → ℕ → ℕ → List (List ℕ) → List ℕ → Type 0
AreBlockStarts b i at [] starts = 0 < i → get_or starts ((i + (b - 1)) / b) 0 ≡ at
AreBlockStarts b i at (entry ∷ entries) starts = (is_block_start b i ≡ true → get_or starts (i / b) 0 ≡ at)
    × AreBlockStarts b (i + 1) (at + length entry) entries starts

-- The bytes are a front coding of the strings, and `starts` has their block offsets. The first string has index i and
-- follows the string `before`.
pub record IsFrontCodedFrom (b i at : ℕ) (before : List ℕ) (strings : List (List ℕ))
    (bytes starts : List ℕ) : Type 0 where
  pub entries : List (List ℕ)
  pub each : AreEntries b i before strings entries
  pub joined : bytes ≡ concat entries
  pub places : AreBlockStarts b i at entries starts

-- No byte is zero.
unfoldable pub NoZero : List ℕ → Type 0
NoZero [] = Unit {0}
NoZero (c ∷ cs) = (nat_eq c 0 ≡ false) × NoZero cs

-- The strings are UTF-8 without zero bytes, and ascend. The first has index i and follows the string `before`.
unfoldable pub Ascending : ℕ → List ℕ → List (List ℕ) → Type 0
Ascending i before [] = Unit {0}
Ascending i before (string ∷ strings) = (is_utf8 string ≡ true) × NoZero string
    × ((nat_eq i 0 || precedes before string) ≡ true) × Ascending (i + 1) string strings
