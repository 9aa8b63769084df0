-- The grammar (W3C RDF 1.1 N-Triples, section 7): which text encodes which term.
use Rattle.std.specs.Prelude.{◌≡◌, ◌≢◌, ℕ, Bool, true, not, ◌&&◌, ◌==◌, ◌⊎◌, List, [], ◌∷◌, ◌++◌, length, Some}
use Rattle.std.specs.Prelude.{encode_utf8, IsUtf8}
use Rattle.std.specs.List.{flat_map, list_all, AllByRecursion}
use Rattle.std.specs.Char.{IsScalar}
use Rattle.std.specs.Str.{chars}
use Rattle.hdt_terms.specs.declared.escaped_tokens.Token.{Token}
use Rattle.hdt_terms.specs.declared.escaped_tokens.Token.TheVariants.{Iri, Quoted}
use Rattle.hdt_terms.specs.declared.triple.Term.{Term}
use Rattle.hdt_terms.specs.declared.triple.Term.TheVariants as terms
use Rattle.hdt_terms.specs.declared.triple.Suffix.{Suffix}
use Rattle.hdt_terms.specs.declared.triple.Suffix.TheVariants.{Plain, Tag, Datatype}
use Rattle.hdt_terms.specs.Chars.{is_iri_char, is_string_char, is_absolute, is_whitespace, hex_value, echar}
use Rattle.hdt_terms.specs.Labels.{is_label}
use Rattle.hdt_terms.specs.Terms.{IsTag, xsd_string}

-- A piece of an IRI or a string: an unescaped byte; ECHAR, a letter and its character; UCHAR by \u or by \U, the digits
-- and the character.
pub data Piece : Type 0 where
  raw : ℕ → Piece
  letter : ℕ → ℕ → Piece
  short : List ℕ → ℕ → Piece
  long : List ℕ → ℕ → Piece

abbrev pub piece_text : Piece → List ℕ
piece_text (raw c) = c ∷ []
piece_text (letter e c) = 92 ∷ e ∷ []
piece_text (short ds c) = 92 ∷ 117 ∷ ds
piece_text (long ds c) = 92 ∷ 85 ∷ ds

abbrev pub piece_value : Piece → List ℕ
piece_value (raw c) = c ∷ []
piece_value (letter e c) = encode_utf8 c
piece_value (short ds c) = encode_utf8 c
piece_value (long ds c) = encode_utf8 c

-- n hexadecimal digits that encode the character c.
pub record WritesHex (n : ℕ) (ds : List ℕ) (c : ℕ) : Type 0 where
  pub len : length ds ≡ n
  pub value : hex_value ds ≡ Some c
  pub scalar : IsScalar c

-- The closing delimiter.
abbrev pub closing_byte : Token → ℕ
closing_byte Iri = 62
closing_byte Quoted = 34

-- The bytes that may occur unescaped, and the characters that an escape may encode.
abbrev pub is_unescaped : Token → ℕ → Bool
is_unescaped Iri c = is_iri_char c
is_unescaped Quoted c = not (c == 0) && is_string_char c

abbrev pub is_escapable : Token → ℕ → Bool
is_escapable Iri c = is_iri_char c
is_escapable Quoted c = not (c == 0)

abbrev pub IsEscapeLetter : Token → ℕ → ℕ → Type 0
IsEscapeLetter Iri e c = ⊥
IsEscapeLetter Quoted e c = echar e ≡ Some c

abbrev pub IsTokenPiece : Token → Piece → Type 0
IsTokenPiece token (raw c) = is_unescaped token c ≡ true
IsTokenPiece token (letter e c) = IsEscapeLetter token e c
IsTokenPiece token (short ds c) = WritesHex 4 ds c × (is_escapable token c ≡ true)
IsTokenPiece token (long ds c) = WritesHex 8 ds c × (is_escapable token c ≡ true)

abbrev pub pieces_text : List Piece → List ℕ
pieces_text ps = flat_map piece_text ps

abbrev pub pieces_value : List Piece → List ℕ
pieces_value ps = flat_map piece_value ps

-- text is the content of a token, and encodes value.
pub record EncodesContent (token : Token) (text value : List ℕ) : Type 0 where
  pub pieces : List Piece
  pub each : AllByRecursion (IsTokenPiece token) pieces
  pub whole : text ≡ pieces_text pieces
  pub means : value ≡ pieces_value pieces

-- text encodes the absolute IRI.
pub record EncodesIri (text iri : List ℕ) : Type 0 where
  pub inner : List ℕ
  pub content : EncodesContent Iri inner iri
  pub whole : text ≡ 60 ∷ (inner ++ 62 ∷ [])
  pub absolute : is_absolute iri ≡ true

-- text encodes the blank node with this label.
pub record EncodesBlankNode (text label : List ℕ) : Type 0 where
  pub whole : text ≡ 95 ∷ 58 ∷ label
  pub form : is_label (chars label) ≡ true

-- Only tabs and spaces.
abbrev pub IsWhitespace : List ℕ → Type 0
IsWhitespace text = list_all is_whitespace text ≡ true

-- @ and the tag, with optional whitespace before the @.
pub record EncodesTag (text tag : List ℕ) : Type 0 where
  pub before : List ℕ
  pub whitespace : IsWhitespace before
  pub whole : text ≡ before ++ 64 ∷ tag
  pub form : IsTag tag

-- ^^ and the IRI, with optional whitespace before and after the ^^.
pub record EncodesDatatype (text iri : List ℕ) : Type 0 where
  pub before : List ℕ
  pub behind : List ℕ
  pub whitespace : IsWhitespace before × IsWhitespace behind
  pub spelled : List ℕ
  pub whole : text ≡ before ++ 94 ∷ 94 ∷ (behind ++ spelled)
  pub datatype : EncodesIri spelled iri

-- text follows the closing quote and encodes the suffix. The datatype xsd:string is dropped.
abbrev pub EncodesSuffix : List ℕ → Suffix → Type 0
EncodesSuffix text Plain = (text ≡ []) ⊎ EncodesDatatype text xsd_string
EncodesSuffix text (Tag tag) = EncodesTag text tag
EncodesSuffix text (Datatype iri) = EncodesDatatype text iri × (iri ≢ xsd_string)

-- text encodes the literal.
pub record EncodesLiteral (text value : List ℕ) (suffix : Suffix) : Type 0 where
  pub inner : List ℕ
  pub tail : List ℕ
  pub content : EncodesContent Quoted inner value
  pub whole : text ≡ 34 ∷ (inner ++ 34 ∷ tail)
  pub behind : EncodesSuffix tail suffix

abbrev pub EncodesTermForm : List ℕ → Term → Type 0
EncodesTermForm text (terms.Iri iri) = EncodesIri text iri
EncodesTermForm text (terms.Blank label) = EncodesBlankNode text label
EncodesTermForm text (terms.Literal value suffix) = EncodesLiteral text value suffix

-- The complete text encodes the term.
pub record Encodes (text : List ℕ) (term : Term) : Type 0 where
  pub utf8 : IsUtf8 text
  pub form : EncodesTermForm text term
