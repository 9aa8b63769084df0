-- The escapes in the content of a token: parsing reads exactly them.
use Rattle.std.proofs.Common.{◌≡◌, ℕ, suc, ◌≤◌, true, cond, eqb, leb, List, [], ◌∷◌, ◌++◌, length, take, drop, Option}
use Rattle.std.proofs.Common.{Some, None, refl, sym, ap, subst, ◌∙◌, arith, inl, inr}
use Rattle.std.specs.Prelude.{encode_utf8, option_and_then}
use Rattle.std.specs.Option.{option_or}
use lib.Utf8.{scalar}
use Rattle.std.proofs.lemmas.Bool.{eqb-true, leb-true}
use Rattle.std.proofs.lemmas.List.{take-append-drop, length-take}
use Rattle.std.proofs.lemmas.Option.{same_Some}
use Rattle.hdt_terms.specs.declared.escaped_tokens.Token.{Token}
use Rattle.hdt_terms.specs.declared.escaped_tokens.Token.TheVariants.{Iri, Quoted}
use Rattle.hdt_terms.specs.Chars.{hex_value, echar}
use Rattle.hdt_terms.specs.Grammar.{Piece, raw, letter, short, long, piece_text, piece_value, WritesHex, is_escapable}
use Rattle.hdt_terms.specs.Grammar.{IsTokenPiece}
use Rattle.hdt_terms.specs.TermParsing.{hex_escape, uchar, echar_at}
use Rattle.hdt_terms.proofs.Cases.{chosen, some_then}
use Rattle.hdt_terms.proofs.ContentCompleteness.{escaped_again}
use Rattle.hdt_terms.specs.ContentErrors.{IsEscape, EscapeAt}

scalar_of : (n : ℕ) → ℕ → Option (ℕ × ℕ)
scalar_of n c = cond (scalar c) (Some (c, suc n)) None

-- n hexadecimal digits are at the front
pub escaped_writes : (n : ℕ) (ds : List ℕ) (c k : ℕ) → hex_escape n ds ≡ Some (c, k) → WritesHex n (take n ds) c
    × (k ≡ suc n) × (n ≤ length ds)
unfolding scalar_of
escaped_writes n ds c k e =
    elim (chosen (leb n (length ds)) (option_and_then (scalar_of n) (hex_value (take n ds))) None (Some (c, k)) e) [
      | inl p ↦
          let le : n ≤ length ds = leb-true _ _ p.0 in
          let q = some_then (hex_value (take n ds)) (scalar_of n) (c, k) p.1 in
          elim (chosen (scalar q.0) (Some (q.0, suc n)) None (Some (c, k)) q.2) [
            | inl r ↦
                let both : (q.0, suc n) ≡ (c, k) = same_Some _ _ r.1 in
                let same : q.0 ≡ c = ap (λ (p : ℕ × ℕ). p.0) both in (
                  record {
                    len = omega (arith, length-take n ds);
                    value = q.1 ∙ ap Some same;
                    scalar =
                        subst (λ (d : ℕ). scalar d ≡ true) same r.0;
                  },
                  sym (ap (λ (p : ℕ × ℕ). p.1) both),
                  le,
                )
            | inr r ↦ absurd cc
          ]
      | inr p ↦ absurd cc
    ]

-- an escape is a piece
pub record Escapes (token : Token) (rest : List ℕ) (c k : ℕ) : Type 0 where
  pub piece : Piece
  pub len : k ≤ length rest
  pub whole : 92 ∷ take k rest ≡ piece_text piece
  pub means : piece_value piece ≡ encode_utf8 c
  pub escape : IsEscape token piece c
  pub fits : is_escapable token c ≡ true → IsTokenPiece token piece

pub uchar_escapes : (token : Token) (rest : List ℕ) (c k : ℕ) → uchar rest ≡ Some (c, k) → Escapes token rest c k
unfolding uchar
uchar_escapes token [] c k e = absurd cc
uchar_escapes token (u ∷ ds) c k e =
    elim (chosen (eqb u 117) (hex_escape 4 ds) (cond (eqb u 85) (hex_escape 8 ds) None) (Some (c, k)) e) [
      | inl p ↦
          let w = escaped_writes 4 ds c k p.1 in
          let is_u : u ≡ 117 = eqb-true _ _ p.0 in
          record {
            piece = short (take 4 ds) c;
            len = omega arith;
            whole = rw (w.1, is_u) refl;
            means = refl;
            escape =
                (w.0, refl);
            fits = λ ok. (w.0, ok);
          }
      | inr p ↦
          elim (chosen (eqb u 85) (hex_escape 8 ds) None (Some (c, k)) p.1) [
            | inl q ↦
                let w = escaped_writes 8 ds c k q.1 in
                let is_u : u ≡ 85 = eqb-true _ _ q.0 in
                record {
                  piece = long (take 8 ds) c;
                  len = omega arith;
                  whole = rw (w.1, is_u) refl;
                  means = refl;
                  escape = (w.0, refl);
                  fits = λ ok. (w.0, ok);
                }
            | inr q ↦ absurd cc
          ]
    ]

echar_escapes : (rest : List ℕ) (c k : ℕ) → echar_at rest ≡ Some (c, k) → Escapes Quoted rest c k
echar_escapes [] c k e = absurd cc
echar_escapes (l ∷ rest) c k e =
    let q = some_then (echar l) (λ d. Some (d, 1)) (c, k) e in
    let both : (q.0, 1) ≡ (c, k) = same_Some _ _ q.2 in
    let same : q.0 ≡ c = ap (λ (p : ℕ × ℕ). p.0) both in
    let one : k ≡ 1 = sym (ap (λ (p : ℕ × ℕ). p.1) both) in
    record {
      piece = letter l c;
      len = omega arith;
      whole = rw one refl;
      means = refl;
      escape =
          (q.1 ∙ ap Some same, refl);
      fits = λ _. q.1 ∙ ap Some same;
    }

pub string_escapes : (rest : List ℕ) (c k : ℕ) (o : Option (ℕ × ℕ)) → echar_at rest ≡ o
    → option_or o (uchar rest) ≡ Some (c, k) → Escapes Quoted rest c k
string_escapes rest c k None is e = uchar_escapes Quoted rest c k e
string_escapes rest c k (Some p) is e = echar_escapes rest c k (is ∙ e)

pub escape_is : (token : Token) (rest : List ℕ) (c k : ℕ) → Escapes token rest c k → EscapeAt token (92 ∷ rest) c
escape_is token rest c k x = record {
  piece = x.piece;
  more = drop k rest;
  escape = x.escape;
  whole = ap (λ (bs : List ℕ). 92 ∷ bs) (sym (take-append-drop k rest))
      ∙ ap (λ (bs : List ℕ). bs ++ drop k rest) x.whole;
}

unfoldable pub tail_of : List ℕ → List ℕ
tail_of [] = []
tail_of (c ∷ cs) = cs

-- the escape that a token reads after a backslash
abbrev pub escape_of : Token → List ℕ → Option (ℕ × ℕ)
escape_of Iri rest = uchar rest
escape_of Quoted rest = option_or (echar_at rest) (uchar rest)

pub escape_found : (token : Token) (rest : List ℕ) (c k : ℕ) → escape_of token rest ≡ Some (c, k)
    → Escapes token rest c k
escape_found Iri rest c k e = uchar_escapes Iri rest c k e
escape_found Quoted rest c k e = string_escapes rest c k (echar_at rest) refl e

abbrev pub Reads : Option (ℕ × ℕ) → ℕ → Type 0
Reads o d = (k : ℕ) × (o ≡ Some (d, k))

-- an escape is read
piece_reads : (token : Token) (p : Piece) (d : ℕ) (rest more : List ℕ) → IsEscape token p d
    → rest ≡ tail_of (piece_text p ++ more) → Reads (escape_of token rest) d
unfolding uchar tail_of
piece_reads token (raw c) d rest more h e = absurd h
piece_reads Iri (letter l c) d rest more h e = absurd h.0
piece_reads Quoted (letter l c) d rest more h e = (1, ap (escape_of Quoted) e ∙ rw h.0 refl)
piece_reads Iri (short ds c) d rest more h e = (5, ap uchar e ∙ escaped_again 4 ds more d h.0)
piece_reads Quoted (short ds c) d rest more h e = (5, ap (escape_of Quoted) e ∙ escaped_again 4 ds more d h.0)
piece_reads Iri (long ds c) d rest more h e = (9, ap uchar e ∙ escaped_again 8 ds more d h.0)
piece_reads Quoted (long ds c) d rest more h e = (9, ap (escape_of Quoted) e ∙ escaped_again 8 ds more d h.0)

starts : (token : Token) (p : Piece) (d c : ℕ) (tail more : List ℕ) → IsEscape token p d
    → c ∷ tail ≡ piece_text p ++ more → c ≡ 92
starts token (raw b) d c tail more h e = absurd h
starts token (letter l b) d c tail more h e = cc
starts token (short ds b) d c tail more h e = cc
starts token (long ds b) d c tail more h e = cc

pub at_reads : (token : Token) (c : ℕ) (tail : List ℕ) (d : ℕ) → EscapeAt token (c ∷ tail) d
    → (c ≡ 92) × Reads (escape_of token tail) d
unfolding tail_of
at_reads token c tail d at = (
  starts token at.piece d c tail at.more at.escape at.whole,
  piece_reads token at.piece d tail at.more at.escape (ap tail_of at.whole),
)

apart_option : (o : Option (ℕ × ℕ)) (p : ℕ × ℕ) → o ≡ None → o ≡ Some p → ⊥
apart_option o p e f = cc

-- if no escape is read, there is none
pub no_escape : (token : Token) (c : ℕ) (rest : List ℕ) (d : ℕ) → escape_of token rest ≡ None
    → EscapeAt token (c ∷ rest) d → ⊥
no_escape token c rest d none at = let r = at_reads token c rest d at in
    apart_option (escape_of token rest) (d, r.1.0) none r.1.1

pub escape_at : (token : Token) (c : ℕ) (rest : List ℕ) (d k : ℕ) → c ≡ 92 → escape_of token rest ≡ Some (d, k)
    → EscapeAt token (c ∷ rest) d
escape_at token c rest d k is e =
    subst (λ (b : ℕ). EscapeAt token (b ∷ rest) d) (sym is) (escape_is token rest d k (escape_found token rest d k e))
