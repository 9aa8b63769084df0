-- Lines that request triples by dictionary strings: three strings, separated by one tab each. \\, \n, \r and \t are a
-- backslash, a line feed, a carriage return and a tab. The string ? matches any.
use Rattle.std.specs.Prelude.{◌≡◌, ◌≢◌, ◌⊎◌, ◌++◌, ◌∷◌, ℕ, List, [], Option, None, Some, IsUtf8}
use Rattle.hdt_terms.specs.Lines.{IsBlankOrComment}
use Rattle.hdt_terms.specs.RawRequestParsing.{StringPattern, raw_escape_byte}

-- A byte is encoded unescaped, unless it is a tab or a backslash, or as a backslash and its letter.
abbrev pub EncodesByte : List ℕ → ℕ → Type 0
EncodesByte text b = ((text ≡ b ∷ []) × (b ≢ 9) × (b ≢ 92))
    ⊎ ((e : ℕ) × (text ≡ 92 ∷ e ∷ []) × (raw_escape_byte e ≡ Some b))

-- The text encodes the string, byte by byte.
abbrev pub EncodesRawString : List ℕ → List ℕ → Type 0
EncodesRawString text [] = text ≡ []
EncodesRawString text (b ∷ bs) = (first : List ℕ) × (rest : List ℕ) × (text ≡ first ++ rest) × EncodesByte first b
    × EncodesRawString rest bs

-- The encodings of three strings, separated by one tab each.
pub record EncodesRawRequest (text : List ℕ) (asked : StringPattern) : Type 0 where
  pub s : List ℕ
  pub p : List ℕ
  pub o : List ℕ
  pub subject : EncodesRawString s asked.s
  pub predicate : EncodesRawString p asked.p
  pub object : EncodesRawString o asked.o
  pub whole : text ≡ s ++ 9 ∷ (p ++ 9 ∷ o)

-- The text is a line, without its end, that requests these strings or nothing.
abbrev pub RawRequestLine : List ℕ → Option StringPattern → Type 0
RawRequestLine text None = IsUtf8 text × IsBlankOrComment text
RawRequestLine text (Some asked) = IsUtf8 text × (IsBlankOrComment text → ⊥) × EncodesRawRequest text asked
