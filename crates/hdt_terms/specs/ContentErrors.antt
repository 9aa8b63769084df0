-- The table of errors (docs/NTRIPLES.md) as a relation, for the content of a token: valid pieces, then a failed check.
use Rattle.std.specs.Prelude.{◌≡◌, ◌≢◌, ℕ, false, ◌⊎◌, List, [], ◌∷◌, ◌++◌, length}
use Rattle.std.specs.List.{AllByRecursion}
use Rattle.hdt_terms.specs.declared.fault.LineReason.{LineReason}
use Rattle.hdt_terms.specs.declared.fault.LineReason.TheVariants.{Syntax, BadEscape, IriCharacter, ZeroCharacter}
use Rattle.hdt_terms.specs.declared.fault.FailedCheck.{FailedCheck}
use Rattle.hdt_terms.specs.declared.escaped_tokens.Token.{Token}
use Rattle.hdt_terms.specs.declared.escaped_tokens.Token.TheVariants.{Iri, Quoted}
use Rattle.hdt_terms.specs.Chars.{is_iri_char, is_string_char}
use Rattle.hdt_terms.specs.Grammar.{Piece, raw, letter, short, long, piece_text, pieces_text, WritesHex, IsEscapeLetter}
use Rattle.hdt_terms.specs.Grammar.{IsTokenPiece, closing_byte}

-- The piece is an escape of the character d, which the token may exclude.
abbrev pub IsEscape : Token → Piece → ℕ → Type 0
IsEscape token (raw c) d = ⊥
IsEscape token (letter e c) d = IsEscapeLetter token e d × (c ≡ d)
IsEscape token (short ds c) d = WritesHex 4 ds d × (c ≡ d)
IsEscape token (long ds c) d = WritesHex 8 ds d × (c ≡ d)

-- An escape of the character starts here.
pub record EscapeAt (token : Token) (bytes : List ℕ) (c : ℕ) : Type 0 where
  pub piece : Piece
  pub more : List ℕ
  pub escape : IsEscape token piece c
  pub whole : bytes ≡ piece_text piece ++ more

-- ZeroCharacter: an escape of U+0000, or an unescaped U+0000 in a string.
abbrev pub IsZeroCharacter : Token → List ℕ → Type 0
IsZeroCharacter Iri bytes = EscapeAt Iri bytes 0
IsZeroCharacter Quoted [] = ⊥
IsZeroCharacter Quoted (c ∷ rest) = (c ≡ 0) ⊎ EscapeAt Quoted (c ∷ rest) 0

-- The byte may not occur unescaped in the token.
abbrev pub Excludes : Token → ℕ → Type 0
Excludes Iri c = is_iri_char c ≡ false
Excludes Quoted c = is_string_char c ≡ false

-- In a token, the check with this reason fails at the start of these bytes.
abbrev pub CheckFails : Token → LineReason → List ℕ → Type 0
CheckFails token Syntax [] = Unit {0}
CheckFails token Syntax (c ∷ rest) = (c ≢ closing_byte token) × (c ≢ 92) × Excludes token c
CheckFails token BadEscape [] = ⊥
CheckFails token BadEscape (c ∷ rest) = (c ≡ 92) × ((d : ℕ) → EscapeAt token (c ∷ rest) d → ⊥)
CheckFails token ZeroCharacter bytes = IsZeroCharacter token bytes
CheckFails Iri IriCharacter bytes = (d : ℕ) × EscapeAt Iri bytes d × (d ≢ 0) × (is_iri_char d ≡ false)
CheckFails token reason bytes = ⊥

-- Valid pieces, then a failed check.
pub record ContentCheckFails (token : Token) (bytes : List ℕ) (stop : FailedCheck) : Type 0 where
  pub pieces : List Piece
  pub rest : List ℕ
  pub each : AllByRecursion (IsTokenPiece token) pieces
  pub whole : bytes ≡ pieces_text pieces ++ rest
  pub left : stop.left ≡ length rest
  pub row : CheckFails token stop.reason rest
