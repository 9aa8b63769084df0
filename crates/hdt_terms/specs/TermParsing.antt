-- Parsing a term from left to right, up to the first check that fails: the table of errors in docs/NTRIPLES.md.
use Rattle.std.specs.Prelude.{◌≡◌, ℕ, zero, suc, ◌&&◌, List, [], ◌∷◌, ◌++◌, length, take, drop, Option, Some, None}
use Rattle.std.specs.Prelude.{Result, Ok, Err, nat_le, ◌==◌, if◌then◌else◌, encode_utf8, option_and_then}
use Rattle.hdt_terms.specs.declared.fault.LineReason.{LineReason}
use Rattle.hdt_terms.specs.declared.fault.LineReason.TheVariants.{Syntax, BadEscape, RelativeIri, IriCharacter}
use Rattle.hdt_terms.specs.declared.fault.LineReason.TheVariants.{ZeroCharacter}
use Rattle.hdt_terms.specs.declared.fault.FailedCheck.{FailedCheck}
use Rattle.hdt_terms.specs.declared.fault.ParseError.{ParseError}
use Rattle.hdt_terms.specs.declared.fault.ParseError.TheVariants as errors
use Rattle.hdt_terms.specs.declared.escaped_tokens.TokenItem.{TokenItem}
use Rattle.hdt_terms.specs.declared.escaped_tokens.TokenItem.TheVariants.{End, Byte, Char}
use Rattle.hdt_terms.specs.declared.escaped_tokens.Token.{Token}
use Rattle.hdt_terms.specs.declared.escaped_tokens.Token.TheVariants.{Iri, Quoted}
use Rattle.hdt_terms.specs.Chars.{is_iri_char, is_string_char, is_absolute, is_whitespace, hex_value, echar}
use Rattle.std.specs.Option.{option_or}
use lib.Utf8.{scalar}
use Rattle.std.specs.Str.{chars, bytes_eq}
use Rattle.hdt_terms.specs.Labels.{label_bytes}
use Rattle.hdt_terms.specs.Tags.{tag_len}
use Rattle.hdt_terms.specs.Terms.{xsd_string}
use Rattle.hdt_terms.specs.declared.triple.Term.{Term}
use Rattle.hdt_terms.specs.declared.triple.Term.TheVariants as terms
use Rattle.hdt_terms.specs.declared.triple.Suffix.{Suffix}
use Rattle.hdt_terms.specs.declared.triple.Suffix.TheVariants.{Plain, Tag, Datatype}

-- A step, then the next one unless a check failed.
infixl 10 ◌>>=◌
abbrev pub ◌>>=◌ : {A B : Type 0} → Result A FailedCheck → (A → Result B FailedCheck) → Result B FailedCheck
(Ok x) >>= f = f x
(Err e) >>= f = Err e

-- Parsing fails at the check of the error. Nothing is claimed if memory ran out.
abbrev pub Fails : {Y : Type 0} → ParseError → Result Y FailedCheck → Type 0
Fails errors.OutOfMemory read = Unit {0}
Fails (errors.Check f) read = read ≡ Err f

-- A function returned what parsing gives, compared by view, unless memory ran out.
abbrev pub ReturnsUnlessOom : {X Y : Type 0} → (X → Y) → Result X ParseError → Result Y FailedCheck → Type 0
ReturnsUnlessOom view (Ok x) read = read ≡ Ok (view x)
ReturnsUnlessOom view (Err e) read = Fails e read

-- A check with this reason fails at the start of rest.
abbrev pub stops : {A : Type 0} → LineReason → List ℕ → Result A FailedCheck
stops reason rest = Err (record { left = length rest; reason = reason })

-- The scalar value of the first n hexadecimal digits, with the number of bytes after the backslash.
abbrev pub hex_escape : ℕ → List ℕ → Option (ℕ × ℕ)
hex_escape n ds = if nat_le n (length ds)
    then option_and_then (λ c. if scalar c then Some (c, suc n) else None) (hex_value (take n ds))
    else None

-- UCHAR: the character of \u or \U, by the bytes after the backslash, with their number.
unfoldable pub uchar : List ℕ → Option (ℕ × ℕ)
uchar [] = None
uchar (k ∷ ds) = if k == 117 then hex_escape 4 ds else if k == 85 then hex_escape 8 ds else None

-- Parsing gives front and then what read gives.
abbrev pub prepend_parsed : List ℕ → Result (List ℕ × List ℕ) FailedCheck → Result (List ℕ × List ℕ) FailedCheck
prepend_parsed front read = read >>= λ x. Ok (front ++ x.0, x.1)

-- The item of an escape in an IRI, which starts at the start of left.
abbrev pub iri_escape : Option (ℕ × ℕ) → List ℕ → Result TokenItem FailedCheck
iri_escape None left = stops BadEscape left
iri_escape (Some e) left =
    if e.0 == 0 then stops ZeroCharacter left
    else if is_iri_char e.0 then Ok (Char e.0 e.1)
    else stops IriCharacter left

-- The item of an IRI that starts with the byte c.
unfoldable pub iri_item : ℕ → List ℕ → Result TokenItem FailedCheck
iri_item c rest =
    if c == 62 then Ok End
    else if c == 92 then iri_escape (uchar rest) (c ∷ rest)
    else if is_iri_char c then Ok (Byte c)
    else stops Syntax (c ∷ rest)

-- The item of an escape in a string.
abbrev pub string_escape : Option (ℕ × ℕ) → List ℕ → Result TokenItem FailedCheck
string_escape None left = stops BadEscape left
string_escape (Some e) left = if e.0 == 0 then stops ZeroCharacter left else Ok (Char e.0 e.1)

abbrev pub echar_at : List ℕ → Option (ℕ × ℕ)
echar_at [] = None
echar_at (e ∷ rest) = option_and_then (λ c. Some (c, 1)) (echar e)

unfoldable pub string_item : ℕ → List ℕ → Result TokenItem FailedCheck
string_item c rest =
    if c == 34 then Ok End
    else if c == 92 then string_escape (option_or (echar_at rest) (uchar rest)) (c ∷ rest)
    else if c == 0 then stops ZeroCharacter (c ∷ rest)
    else if is_string_char c then Ok (Byte c)
    else stops Syntax (c ∷ rest)

abbrev pub item : Token → ℕ → List ℕ → Result TokenItem FailedCheck
item Iri c rest = iri_item c rest
item Quoted c rest = string_item c rest

-- The number of bytes of an item after its first.
abbrev pub skip_of : TokenItem → ℕ
skip_of (Char c n) = n
skip_of _ = 0

abbrev pub goes_on : TokenItem → List ℕ → Result (List ℕ × List ℕ) FailedCheck → Result (List ℕ × List ℕ) FailedCheck
goes_on End rest more = Ok ([], rest)
goes_on (Byte c) rest more = prepend_parsed (c ∷ []) more
goes_on (Char c n) rest more = prepend_parsed (encode_utf8 c) more

-- The content of an IRI or a string, and the bytes after its end. The first skip bytes belong to the item before.
unfoldable pub token_content : Token → ℕ → List ℕ → Result (List ℕ × List ℕ) FailedCheck
token_content token skip [] = stops Syntax []
token_content token zero (c ∷ rest) = item token c rest >>= λ x. goes_on x rest (token_content token (skip_of x) rest)
token_content token (suc n) (c ∷ rest) = token_content token n rest

abbrev pub require_absolute : List ℕ → List ℕ × List ℕ → Result (List ℕ × List ℕ) FailedCheck
require_absolute left x = if is_absolute x.0 then Ok x else stops RelativeIri left

-- The IRI that starts here, and the bytes after it.
unfoldable pub iri_at : List ℕ → Result (List ℕ × List ℕ) FailedCheck
iri_at [] = stops Syntax []
iri_at (c ∷ rest) =
    if c == 60 then token_content Iri 0 rest >>= require_absolute (c ∷ rest)
    else stops Syntax (c ∷ rest)

-- The label of n bytes after _:, and the bytes after it; left are the bytes from _: on.
abbrev pub cut_label : Option ℕ → List ℕ → List ℕ → Result (List ℕ × List ℕ) FailedCheck
cut_label None left rest = stops Syntax left
cut_label (Some n) left rest = Ok (take n rest, drop n rest)

-- The label of the blank node that starts here, and the bytes after it.
unfoldable pub blank_at : List ℕ → Result (List ℕ × List ℕ) FailedCheck
blank_at (u ∷ v ∷ rest) =
    if u == 95 && v == 58 then cut_label (label_bytes (chars rest)) (u ∷ v ∷ rest) rest else stops Syntax (u ∷ v ∷ rest)
blank_at left = stops Syntax left

-- The bytes after leading tabs and spaces.
abbrev pub skip_whitespace : List ℕ → List ℕ
skip_whitespace [] = []
skip_whitespace (c ∷ cs) = if is_whitespace c then skip_whitespace cs else c ∷ cs

-- The tag of n bytes after @, and the bytes after it; left are the bytes from @ on.
abbrev pub cut_tag : Option ℕ → List ℕ → List ℕ → Result (Suffix × List ℕ) FailedCheck
cut_tag None left rest = stops Syntax left
cut_tag (Some n) left rest = Ok (Tag (take n rest), drop n rest)

-- The tag that starts here with its @, and the bytes after it.
unfoldable pub tag_at : List ℕ → Result (Suffix × List ℕ) FailedCheck
tag_at [] = stops Syntax []
tag_at (c ∷ rest) = if c == 64 then cut_tag (tag_len rest) (c ∷ rest) rest else stops Syntax (c ∷ rest)

-- The datatype xsd:string is dropped.
abbrev pub datatype_of : List ℕ → Suffix
datatype_of iri = if bytes_eq iri xsd_string then Plain else Datatype iri

abbrev pub as_datatype : List ℕ × List ℕ → Result (Suffix × List ℕ) FailedCheck
as_datatype x = Ok (datatype_of x.0, x.1)

-- The datatype that starts here with ^^, and the bytes after it.
unfoldable pub datatype_at : List ℕ → Result (Suffix × List ℕ) FailedCheck
datatype_at (c ∷ d ∷ rest) =
    if c == 94 && d == 94 then iri_at (skip_whitespace rest) >>= as_datatype else stops Syntax (c ∷ d ∷ rest)
datatype_at left = stops Syntax left

-- Whitespace belongs to the literal only if @ or ^ follows.
abbrev pub suffix_after : List ℕ → List ℕ → Result (Suffix × List ℕ) FailedCheck
suffix_after bytes [] = Ok (Plain, bytes)
suffix_after bytes (c ∷ rest) =
    if c == 64 then tag_at (c ∷ rest) else if c == 94 then datatype_at (c ∷ rest) else Ok (Plain, bytes)

-- The suffix after the closing quote, and the bytes after it.
unfoldable pub suffix_at : List ℕ → Result (Suffix × List ℕ) FailedCheck
suffix_at bytes = suffix_after bytes (skip_whitespace bytes)

abbrev pub as_iri : List ℕ × List ℕ → Result (Term × List ℕ) FailedCheck
as_iri x = Ok (terms.Iri x.0, x.1)

abbrev pub as_blank : List ℕ × List ℕ → Result (Term × List ℕ) FailedCheck
as_blank x = Ok (terms.Blank x.0, x.1)

abbrev pub with_suffix : List ℕ × List ℕ → Result (Term × List ℕ) FailedCheck
with_suffix x = suffix_at x.1 >>= λ s. Ok (terms.Literal x.0 s.0, s.1)

-- The literal that starts here, and the bytes after it.
unfoldable pub literal_at : List ℕ → Result (Term × List ℕ) FailedCheck
literal_at [] = stops Syntax []
literal_at (c ∷ rest) = if c == 34 then token_content Quoted 0 rest >>= with_suffix else stops Syntax (c ∷ rest)

-- The term that starts here, and the bytes after it.
unfoldable pub term_at : List ℕ → Result (Term × List ℕ) FailedCheck
term_at [] = stops Syntax []
term_at (c ∷ rest) =
    if c == 60 then iri_at (c ∷ rest) >>= as_iri
    else if c == 95 then blank_at (c ∷ rest) >>= as_blank
    else literal_at (c ∷ rest)
