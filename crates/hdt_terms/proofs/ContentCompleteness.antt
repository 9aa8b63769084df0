-- Completeness for the content of a token: parsing reads the content that the text encodes.
use Rattle.std.proofs.Common.{◌≡◌, ℕ, suc, true, eqb, leb, List, [], ◌∷◌, ◌++◌, length, Some, None, Result, Ok, refl}
use Rattle.std.proofs.Common.{ap, ◌∙◌, append_assoc, arith, length-append, ne_eqb}
use Rattle.std.specs.Prelude.{encode_utf8, not}
use Rattle.std.specs.List.{AllByRecursion}
use Rattle.std.proofs.lemmas.Bool.{le-leb}
use Rattle.std.proofs.lemmas.List.{take_at, drop_at}
use Rattle.hdt_terms.specs.declared.fault.FailedCheck.{FailedCheck}
use Rattle.hdt_terms.specs.declared.escaped_tokens.TokenItem.{TokenItem}
use Rattle.hdt_terms.specs.declared.escaped_tokens.TokenItem.TheVariants.{End, Byte, Char}
use Rattle.hdt_terms.specs.declared.escaped_tokens.Token.{Token}
use Rattle.hdt_terms.specs.declared.escaped_tokens.Token.TheVariants.{Iri, Quoted}
use Rattle.hdt_terms.specs.Chars.{is_iri_char, is_string_char, echar}
use Rattle.hdt_terms.specs.Grammar.{Piece, raw, letter, short, long, piece_text, piece_value, pieces_text, pieces_value}
use Rattle.hdt_terms.specs.Grammar.{WritesHex, closing_byte, is_unescaped, is_escapable, IsTokenPiece, EncodesIri}
use Rattle.hdt_terms.specs.TermParsing.{◌>>=◌, prepend_parsed, hex_escape, uchar, iri_item, string_item, item, goes_on}
use Rattle.hdt_terms.specs.TermParsing.{skip_of, token_content, iri_at}
use Rattle.hdt_terms.proofs.Ranges.{echar_range}
use Rattle.hdt_terms.proofs.Bools.{apart, and_second}
use Rattle.hdt_terms.proofs.ContentReading.{token_content-skip, Reading}

pub escaped_again : (n : ℕ) (ds more : List ℕ) (c : ℕ) → WritesHex n ds c → hex_escape n (ds ++ more) ≡ Some (c, suc n)
escaped_again n ds more c w =
    let long : leb n (length (ds ++ more)) ≡ true = le-leb _ _ (omega (arith, w.len, length-append ds more)) in
    rw (long, take_at ds more n w.len, w.value, w.scalar) refl

escape_again : (token : Token) (u : ℕ) (rest : List ℕ) (c k : ℕ) → uchar (u ∷ rest) ≡ Some (c, k) → echar u ≡ None
    → is_escapable token c ≡ true → item token 92 (u ∷ rest) ≡ Ok (Char c k)
unfolding iri_item string_item
escape_again Iri u rest c k e other ok = rw (e, ok, apart is_iri_char c 0 ok refl) refl
escape_again Quoted u rest c k e other ok = rw (other, e, apart (λ d. not (eqb d 0)) c 0 ok refl) refl

raw_again : (token : Token) (c : ℕ) (more : List ℕ) → is_unescaped token c ≡ true → item token c more ≡ Ok (Byte c)
unfolding iri_item string_item
raw_again Iri c more ok = rw (ok, apart is_iri_char c 62 ok refl, apart is_iri_char c 92 ok refl) refl
raw_again Quoted c more ok =
    rw (
      and_second (not (eqb c 0)) (is_string_char c) ok,
      apart (is_unescaped Quoted) c 34 ok refl,
      apart (is_unescaped Quoted) c 92 ok refl,
      apart (is_unescaped Quoted) c 0 ok refl,
    ) refl

letter_again : (e c : ℕ) (more : List ℕ) → echar e ≡ Some c → item Quoted 92 (e ∷ more) ≡ Ok (Char c 1)
unfolding string_item
letter_again e c more h = rw (h, ne_eqb c 0 (λ is. omega (arith, (echar_range e c h).2))) refl

close_again : (token : Token) (rest : List ℕ) → item token (closing_byte token) rest ≡ Ok End
unfolding iri_item string_item
close_again Iri rest = refl
close_again Quoted rest = refl

step : (token : Token) (c : ℕ) (tail : List ℕ) (x : TokenItem) → item token c tail ≡ Ok x
    → token_content token 0 (c ∷ tail) ≡ goes_on x tail (token_content token (skip_of x) tail)
unfolding token_content
step token c tail x h = ap (λ (r : Result TokenItem FailedCheck). r >>= λ x. goes_on x tail
    (token_content token (skip_of x) tail)) h

-- skipping an escape of n digits
past : (token : Token) (n u : ℕ) (ds more : List ℕ) → length ds ≡ n
    → token_content token (suc n) (u ∷ (ds ++ more)) ≡ token_content token 0 more
past token n u ds more len = token_content-skip token (suc n) (u ∷ (ds ++ more)) (omega (arith, length-append ds more))
    ∙ ap (λ (bs : List ℕ). token_content token 0 bs) (drop_at ds more n len)

digits_again : (token : Token) (n u : ℕ) (ds more : List ℕ) (c : ℕ) → WritesHex n ds c
    → uchar (u ∷ (ds ++ more)) ≡ Some (c, suc n) → echar u ≡ None → is_escapable token c ≡ true
    → token_content token 0 (92 ∷ u ∷ (ds ++ more)) ≡ prepend_parsed (encode_utf8 c) (token_content token 0 more)
digits_again token n u ds more c w e other ok =
    step token 92 (u ∷ (ds ++ more)) (Char c (suc n)) (escape_again token u (ds ++ more) c (suc n) e other ok)
    ∙ ap (λ (r : Reading). prepend_parsed (encode_utf8 c) r) (past token n u ds more w.len)

pub piece_again : (token : Token) (p : Piece) (more : List ℕ) → IsTokenPiece token p
    → token_content token 0 (piece_text p ++ more) ≡ prepend_parsed (piece_value p) (token_content token 0 more)
unfolding uchar
piece_again token (raw c) more fits = step token c more (Byte c) (raw_again token c more fits)
piece_again Iri (letter e c) more fits = absurd fits
piece_again Quoted (letter e c) more fits = step Quoted 92 (e ∷ more) (Char c 1) (letter_again e c more fits)
    ∙ ap (λ (r : Reading). prepend_parsed (encode_utf8 c) r) (past Quoted 0 e [] more refl)
piece_again token (short ds c) more fits =
    digits_again token 4 117 ds more c fits.0 (escaped_again 4 ds more c fits.0) refl fits.1
piece_again token (long ds c) more fits =
    digits_again token 8 85 ds more c fits.0 (escaped_again 8 ds more c fits.0) refl fits.1

pub pieces_again : (token : Token) (ps : List Piece) (rest : List ℕ) → AllByRecursion (IsTokenPiece token) ps
    → token_content token 0 (pieces_text ps ++ (closing_byte token ∷ rest)) ≡ Ok (pieces_value ps, rest)
pieces_again token [] rest each = step token (closing_byte token) rest End (close_again token rest)
pieces_again token (p ∷ ps) rest each =
    ap (λ (bs : List ℕ). token_content token 0 bs)
    (append_assoc (piece_text p) (pieces_text ps) (closing_byte token ∷ rest))
    ∙ piece_again token p (pieces_text ps ++ (closing_byte token ∷ rest)) each.0
    ∙ ap (λ (r : Reading). prepend_parsed (piece_value p) r) (pieces_again token ps rest each.1)

pub iri_again : (text iri rest : List ℕ) → EncodesIri text iri → iri_at (text ++ rest) ≡ Ok (iri, rest)
unfolding iri_at
iri_again text iri rest s =
    let i = s.content in
    let body : token_content Iri 0 (s.inner ++ (62 ∷ rest)) ≡ Ok (iri, rest) =
    rw (i.whole, i.means) (pieces_again Iri i.pieces rest i.each) in
    rw (s.whole, append_assoc s.inner (62 ∷ []) rest, body, s.absolute) refl
