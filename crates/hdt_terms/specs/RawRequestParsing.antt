-- Parsing a request by dictionary strings: three strings, separated by one tab each. \\, \n, \r and \t are a backslash,
-- a line feed, a carriage return and a tab. The string ? matches any.
use Rattle.std.specs.Prelude.{◌≡◌, ℕ, zero, suc, Bool, not, ◌⊎◌, List, [], ◌∷◌, Option, None, Some, Result, Ok, Err}
use Rattle.std.specs.Prelude.{◌==◌, if◌then◌else◌}
use Rattle.std.specs.Str.{bytes_eq}
use Rattle.hdt_terms.specs.declared.fault.LineReason.TheVariants.{Syntax, BadEscape}
use Rattle.hdt_terms.specs.declared.fault.ParseError.{ParseError}
use Rattle.hdt_terms.specs.declared.fault.FailedCheck.{FailedCheck}
use Rattle.hdt_terms.specs.declared.fault.TermFault.{TermFault}
use Rattle.hdt_terms.specs.Faults.{out_of_memory}
use Rattle.hdt_terms.specs.LineParsing.{unless_blank}
use Rattle.hdt_terms.specs.TermParsing.{◌>>=◌, Fails, stops, prepend_parsed}

-- The byte that a backslash and this letter encode.
abbrev pub raw_escape_byte : ℕ → Option ℕ
raw_escape_byte e = if e == 92 then Some 92 else
    (if e == 110 then Some 10 else (if e == 114 then Some 13 else (if e == 116 then Some 9 else None)))

-- The next item: an unescaped byte, the byte of an escape, or the tab after the string.
pub data RawItem : Type 0 where
  tab : RawItem
  byte : ℕ → RawItem
  escape : ℕ → RawItem

abbrev pub raw_escape_item : Option ℕ → List ℕ → Result RawItem FailedCheck
raw_escape_item None left = stops BadEscape left
raw_escape_item (Some b) left = Ok (escape b)

abbrev pub raw_escape : List ℕ → List ℕ → Result RawItem FailedCheck
raw_escape [] left = stops BadEscape left
raw_escape (e ∷ rest) left = raw_escape_item (raw_escape_byte e) left

-- An escape letter is here: its byte, and what follows it.
abbrev pub IsRawEscapeAt : {X : Type 0} → (X → ℕ) → (X → List ℕ) → List ℕ → Option X → Type 0
IsRawEscapeAt first rest bytes None = raw_escape bytes bytes ≡ stops BadEscape bytes
IsRawEscapeAt first rest bytes (Some x) = (e : ℕ) × (bytes ≡ e ∷ rest x) × (raw_escape_byte e ≡ Some (first x))

abbrev pub raw_item : ℕ → List ℕ → Result RawItem FailedCheck
raw_item c rest = if c == 9 then Ok tab else if c == 92 then raw_escape rest (c ∷ rest) else Ok (byte c)

-- The number of bytes of an item after its first.
abbrev pub raw_skip : RawItem → ℕ
raw_skip tab = 0
raw_skip (byte c) = 0
raw_skip (escape c) = 1

abbrev pub continue_raw_string : RawItem → List ℕ → Result (List ℕ × List ℕ) FailedCheck
    → Result (List ℕ × List ℕ) FailedCheck
continue_raw_string tab here more = Ok ([], here)
continue_raw_string (byte c) here more = prepend_parsed (c ∷ []) more
continue_raw_string (escape c) here more = prepend_parsed (c ∷ []) more

-- The string up to a tab or the end. The first skip bytes belong to the item before.
unfoldable pub raw_string_from : ℕ → List ℕ → Result (List ℕ × List ℕ) FailedCheck
raw_string_from skip [] = Ok ([], [])
raw_string_from zero (c ∷ rest) =
    raw_item c rest >>= λ x. continue_raw_string x (c ∷ rest) (raw_string_from (raw_skip x) rest)
raw_string_from (suc n) (c ∷ rest) = raw_string_from n rest

abbrev pub raw_string_at : List ℕ → Result (List ℕ × List ℕ) FailedCheck
raw_string_at bytes = raw_string_from 0 bytes

-- The tab between two strings.
abbrev pub tab_at : List ℕ → Result (List ℕ) FailedCheck
tab_at [] = stops Syntax []
tab_at (c ∷ rest) = if c == 9 then Ok rest else stops Syntax (c ∷ rest)

-- The end of the line.
abbrev pub end_at : List ℕ → Result (Unit {0}) FailedCheck
end_at [] = Ok tt
end_at (c ∷ rest) = stops Syntax (c ∷ rest)

-- The strings of a request, each ? for any.
pub record StringPattern : Type 0 where
  pub s : List ℕ
  pub p : List ℕ
  pub o : List ℕ

unfoldable pub raw_request_at : List ℕ → Result StringPattern FailedCheck
raw_request_at bytes =
    raw_string_at bytes >>= λ s.
    tab_at s.1 >>= λ behind_s.
    raw_string_at behind_s >>= λ p.
    tab_at p.1 >>= λ behind_p.
    raw_string_at behind_p >>= λ o.
    end_at o.1 >>= λ _. Ok (record { s = s.0; p = p.0; o = o.0 })

-- The request of the line, if it has one, or its first error.
abbrev pub raw_request_in : List ℕ → Result (Option StringPattern) TermFault
raw_request_in text = unless_blank text (raw_request_at text)

-- Any string but ? is given.
abbrev pub is_raw_given : List ℕ → Bool
is_raw_given x = not (bytes_eq x (63 ∷ []))

-- The buffers have the strings of the request, and given says which of them are given.
pub record AreRawStrings (asked : StringPattern) (given : List Bool) (s p o : List ℕ) : Type 0 where
  pub given_is : given ≡ is_raw_given asked.s ∷ is_raw_given asked.p ∷ is_raw_given asked.o ∷ []
  pub s_is : s ≡ asked.s
  pub p_is : p ≡ asked.p
  pub o_is : o ≡ asked.o

-- The buffers have the parsed strings, unless memory ran out.
abbrev pub PutsRawStrings : {X : Type 0} → List ℕ → List ℕ → List ℕ → Result X ParseError
    → Result StringPattern FailedCheck → Type 0
PutsRawStrings s p o (Ok done) read = read ≡ Ok (record { s = s; p = p; o = o })
PutsRawStrings s p o (Err e) read = Fails e read

-- The result of parsing a line: its request, with the strings in the buffers; or None; or its error, unless memory ran
-- out.
abbrev pub ReturnsRawRequest : List ℕ → List ℕ → List ℕ → Result (Option (List Bool)) TermFault
    → Result (Option StringPattern) TermFault → Type 0
ReturnsRawRequest s p o (Ok None) read = read ≡ Ok None
ReturnsRawRequest s p o (Ok (Some given)) read = (asked : StringPattern) × (read ≡ Ok (Some asked))
    × AreRawStrings asked given s p o
ReturnsRawRequest s p o (Err fault) read = (fault ≡ out_of_memory) ⊎ (read ≡ Err fault)
