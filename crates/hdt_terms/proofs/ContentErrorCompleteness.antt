-- Completeness of content errors: if a check fails after valid pieces, parsing fails there.
use Rattle.std.proofs.Common.{◌≡◌, ◌≢◌, ℕ, true, false, ◌⊎◌, List, [], ◌∷◌, ◌++◌, Option, Some, None, Result, Ok, Err}
use Rattle.std.proofs.Common.{refl, sym, ap, ◌∙◌, append_assoc, ne_eqb, inl, inr}
use Rattle.std.specs.List.{AllByRecursion}
use Rattle.hdt_terms.specs.declared.fault.FailedCheck.{FailedCheck}
use Rattle.hdt_terms.specs.declared.fault.LineReason.{LineReason}
use Rattle.hdt_terms.specs.declared.fault.LineReason.TheVariants.{Syntax, NotUtf8, BadEscape, RelativeIri, IriCharacter}
use Rattle.hdt_terms.specs.declared.fault.LineReason.TheVariants.{ZeroCharacter, Read, OutOfMemory, TooLong}
use Rattle.hdt_terms.specs.declared.escaped_tokens.TokenItem.{TokenItem}
use Rattle.hdt_terms.specs.declared.escaped_tokens.Token.{Token}
use Rattle.hdt_terms.specs.declared.escaped_tokens.Token.TheVariants.{Iri, Quoted}
use Rattle.hdt_terms.specs.Chars.{is_string_char}
use Rattle.hdt_terms.specs.Grammar.{Piece, raw, letter, short, long, piece_text, pieces_text, piece_value, pieces_value}
use Rattle.hdt_terms.specs.Grammar.{IsTokenPiece}
use Rattle.hdt_terms.specs.ContentErrors.{IsEscape, EscapeAt, CheckFails, ContentCheckFails}
use Rattle.hdt_terms.specs.TermParsing.{◌>>=◌, stops, prepend_parsed, iri_item, string_item, item, goes_on, skip_of}
use Rattle.hdt_terms.specs.TermParsing.{token_content}
use Rattle.hdt_terms.proofs.ContentReading.{Reading, regroup}
use Rattle.hdt_terms.proofs.ContentCompleteness.{piece_again}
use Rattle.hdt_terms.proofs.ContentEscapes.{escape_of, escape_at, at_reads}
use Rattle.hdt_terms.proofs.TagSoundness.{not_empty}

none_reads : (o : Option (ℕ × ℕ)) (token : Token) (c : ℕ) (tail : List ℕ) → c ≡ 92 → escape_of token tail ≡ o
    → ((d : ℕ) → EscapeAt token (c ∷ tail) d → ⊥) → o ≡ None
none_reads None token c tail is e h = refl
none_reads (Some p) token c tail is e h = absurd (h p.0 (escape_at token c tail p.0 p.1 is e))

no_piece : (token : Token) (p : Piece) (more : List ℕ) (d : ℕ) → IsEscape token p d → piece_text p ++ more ≡ [] → ⊥
no_piece token (raw b) more d h e = h
no_piece token (letter l b) more d h e = not_empty _ _ e
no_piece token (short ds b) more d h e = not_empty _ _ e
no_piece token (long ds b) more d h e = not_empty _ _ e

-- ---- the check of the next byte

iri_row : (reason : LineReason) (c : ℕ) (tail : List ℕ) → CheckFails Iri reason (c ∷ tail)
    → iri_item c tail ≡ stops reason (c ∷ tail)
unfolding iri_item
iri_row Syntax c tail h = rw (h.2, ne_eqb _ _ h.0, ne_eqb _ _ h.1) refl
iri_row BadEscape c tail h = let none = none_reads (escape_of Iri tail) Iri c tail h.0 refl h.1 in rw (h.0, none) refl
iri_row ZeroCharacter c tail h = let r = at_reads Iri c tail 0 h in rw (r.0, r.1.1) refl
iri_row IriCharacter c tail h = let r = at_reads Iri c tail h.0 h.1 in rw (r.0, r.1.1, h.3, ne_eqb _ _ h.2) refl
iri_row NotUtf8 c tail h = absurd h
iri_row RelativeIri c tail h = absurd h
iri_row Read c tail h = absurd h
iri_row OutOfMemory c tail h = absurd h
iri_row TooLong c tail h = absurd h

string_zero : (c : ℕ) (tail : List ℕ) → (c ≡ 0) ⊎ EscapeAt Quoted (c ∷ tail) 0
    → string_item c tail ≡ stops ZeroCharacter (c ∷ tail)
unfolding string_item
string_zero c tail (inl is) = rw is refl
string_zero c tail (inr at) = let r = at_reads Quoted c tail 0 at in rw (r.0, r.1.1) refl

not_zero : (c : ℕ) → is_string_char c ≡ false → c ≢ 0
not_zero c h is = let both : true ≡ false = sym (ap is_string_char is) ∙ h in cc

string_row : (reason : LineReason) (c : ℕ) (tail : List ℕ) → CheckFails Quoted reason (c ∷ tail)
    → string_item c tail ≡ stops reason (c ∷ tail)
unfolding string_item
string_row Syntax c tail h = rw (h.2, ne_eqb _ _ h.0, ne_eqb _ _ h.1, ne_eqb _ _ (not_zero c h.2)) refl
string_row BadEscape c tail h = let none = none_reads (escape_of Quoted tail) Quoted c tail h.0 refl h.1 in
    rw (h.0, none) refl
string_row ZeroCharacter c tail h = string_zero c tail h
string_row IriCharacter c tail h = absurd h
string_row NotUtf8 c tail h = absurd h
string_row RelativeIri c tail h = absurd h
string_row Read c tail h = absurd h
string_row OutOfMemory c tail h = absurd h
string_row TooLong c tail h = absurd h

row_item : (token : Token) (reason : LineReason) (c : ℕ) (tail : List ℕ) → CheckFails token reason (c ∷ tail)
    → item token c tail ≡ stops reason (c ∷ tail)
row_item Iri reason c tail h = iri_row reason c tail h
row_item Quoted reason c tail h = string_row reason c tail h

-- at the end of the text
iri_end : (reason : LineReason) → CheckFails Iri reason [] → reason ≡ Syntax
iri_end Syntax h = refl
iri_end BadEscape h = absurd h
iri_end ZeroCharacter h = absurd (no_piece Iri h.piece h.more 0 h.escape (sym h.whole))
iri_end IriCharacter h = absurd (no_piece Iri h.1.piece h.1.more h.0 h.1.escape (sym h.1.whole))
iri_end NotUtf8 h = absurd h
iri_end RelativeIri h = absurd h
iri_end Read h = absurd h
iri_end OutOfMemory h = absurd h
iri_end TooLong h = absurd h

string_end : (reason : LineReason) → CheckFails Quoted reason [] → reason ≡ Syntax
string_end Syntax h = refl
string_end BadEscape h = absurd h
string_end ZeroCharacter h = absurd h
string_end IriCharacter h = absurd h
string_end NotUtf8 h = absurd h
string_end RelativeIri h = absurd h
string_end Read h = absurd h
string_end OutOfMemory h = absurd h
string_end TooLong h = absurd h

row_end : (token : Token) (reason : LineReason) → CheckFails token reason [] → reason ≡ Syntax
row_end Iri reason h = iri_end reason h
row_end Quoted reason h = string_end reason h

row_inside : (token : Token) (reason : LineReason) (rest : List ℕ) → CheckFails token reason rest
    → token_content token 0 rest ≡ stops reason rest
unfolding token_content
row_inside token reason (c ∷ tail) h =
    ap (λ (r : Result TokenItem FailedCheck). r >>= λ x. goes_on x tail (token_content token (skip_of x) tail))
    (row_item token reason c tail h)
row_inside token reason [] h = ap (λ (r : LineReason). stops r []) (sym (row_end token reason h))

pub front_none : (read : Reading) → read ≡ prepend_parsed [] read
front_none (Ok x) = refl
front_none (Err t) = refl

pieces_then : (token : Token) (ps : List Piece) (rest : List ℕ) → AllByRecursion (IsTokenPiece token) ps
    → token_content token 0 (pieces_text ps ++ rest) ≡ prepend_parsed (pieces_value ps) (token_content token 0 rest)
pieces_then token [] rest each = front_none (token_content token 0 rest)
pieces_then token (p ∷ ps) rest each =
    ap (λ (bs : List ℕ). token_content token 0 bs) (append_assoc (piece_text p) (pieces_text ps) rest)
    ∙ piece_again token p (pieces_text ps ++ rest) each.0
    ∙ ap (λ (r : Reading). prepend_parsed (piece_value p) r) (pieces_then token ps rest each.1)
    ∙ regroup (piece_value p) (pieces_value ps) (token_content token 0 rest)

pub stops_again : (token : Token) (bytes : List ℕ) (s : FailedCheck) → ContentCheckFails token bytes s
    → token_content token 0 bytes ≡ Err s
stops_again token bytes s f =
    ap (λ (bs : List ℕ). token_content token 0 bs) f.whole ∙ pieces_then token f.pieces f.rest f.each
    ∙ ap (λ (r : Reading). prepend_parsed (pieces_value f.pieces) r) (row_inside token s.reason f.rest f.row)
    ∙ ap (λ (n : ℕ). Err (record { left = n; reason = s.reason })) (sym f.left)
