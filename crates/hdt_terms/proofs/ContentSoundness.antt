-- Soundness for the content of a token: the text encodes what parsing reads, or a check fails after valid pieces.
use Rattle.std.proofs.Common.{◌≡◌, ℕ, zero, suc, ◌≤◌, true, List, [], ◌∷◌, ◌++◌, length, drop, Option, Some, None}
use Rattle.std.proofs.Common.{Result, Ok, Err, refl, sym, ap, subst, ◌∙◌, append_assoc, arith, inl, inr}
use Rattle.std.specs.Prelude.{encode_utf8, not}
use Rattle.std.specs.Option.{option_or}
use Rattle.std.specs.List.{AllByRecursion}
use Rattle.std.proofs.lemmas.List.{take-append-drop}
use Rattle.hdt_terms.specs.declared.fault.FailedCheck.{FailedCheck}
use Rattle.hdt_terms.specs.declared.escaped_tokens.TokenItem.{TokenItem}
use Rattle.hdt_terms.specs.declared.escaped_tokens.TokenItem.TheVariants.{End, Byte, Char}
use Rattle.hdt_terms.specs.declared.escaped_tokens.Token.{Token}
use Rattle.hdt_terms.specs.declared.escaped_tokens.Token.TheVariants.{Iri, Quoted}
use Rattle.hdt_terms.specs.Chars.{is_iri_char, is_string_char, is_absolute}
use Rattle.hdt_terms.specs.Grammar.{Piece, raw, piece_text, piece_value, pieces_text, pieces_value, closing_byte}
use Rattle.hdt_terms.specs.Grammar.{is_unescaped, is_escapable, IsTokenPiece, EncodesIri}
use Rattle.hdt_terms.specs.TermParsing.{◌>>=◌, prepend_parsed, uchar, echar_at, iri_escape, string_escape, iri_item}
use Rattle.hdt_terms.specs.TermParsing.{string_item, item, goes_on, skip_of, token_content, require_absolute, iri_at}
use Rattle.hdt_terms.specs.ContentErrors.{EscapeAt, CheckFails, ContentCheckFails}
use Rattle.std.proofs.lemmas.Bool.{cases_Bool}
use Rattle.std.proofs.lemmas.Bool.Decides.{eqb_tells}
use Rattle.hdt_terms.specs.Grammar.{EncodesContent}
use Rattle.hdt_terms.specs.TermErrors.{IriCheckFails, no_iri, in_iri, relative}
use Rattle.hdt_terms.proofs.ContentEscapes.{Escapes, escape_at, escape_found, no_escape}

-- ---- one item

-- what an item implies about the bytes that it was parsed from
abbrev pub ItemFits : Token → ℕ → List ℕ → TokenItem → Type 0
ItemFits token c rest End = c ≡ closing_byte token
ItemFits token c rest (Byte b) = (b ≡ c) × (is_unescaped token c ≡ true)
ItemFits token c rest (Char d k) = (c ≡ 92) × Escapes token rest d k × (is_escapable token d ≡ true)

-- the same, or the check that fails there
abbrev pub ItemSays : Token → ℕ → List ℕ → Result TokenItem FailedCheck → Type 0
ItemSays token c rest (Ok x) = ItemFits token c rest x
ItemSays token c rest (Err s) = (s.left ≡ length (c ∷ rest)) × CheckFails token s.reason (c ∷ rest)

iri_escape_says : (o : Option (ℕ × ℕ)) (c : ℕ) (rest : List ℕ) → uchar rest ≡ o → c ≡ 92
    → ItemSays Iri c rest (iri_escape o (c ∷ rest))
iri_escape_says None c rest u is = (refl, (is, λ d at. no_escape Iri c rest d u at))
iri_escape_says (Some p) c rest u is =
    let at : EscapeAt Iri (c ∷ rest) p.0 = escape_at Iri c rest p.0 p.1 is u in
    elim (eqb_tells p.0 0) [
      | inl q ↦ rw q.0 (refl, subst (λ (d : ℕ). EscapeAt Iri (c ∷ rest) d) q.1 at)
      | inr q ↦
          elim (cases_Bool (is_iri_char p.0)) [
            | inl r ↦ rw (r, q.0) (is, escape_found Iri rest p.0 p.1 u, r)
            | inr r ↦ rw (r, q.0) (refl, (p.0, at, q.1, r))
          ]
    ]

iri_item_says : (c : ℕ) (rest : List ℕ) → ItemSays Iri c rest (iri_item c rest)
unfolding iri_item
iri_item_says c rest =
    elim (eqb_tells c 62) [
      | inl p ↦ rw p.0 p.1
      | inr p ↦
          elim (eqb_tells c 92) [
            | inl q ↦ rw (p.0, q.0) (iri_escape_says (uchar rest) c rest refl q.1)
            | inr q ↦
                elim (cases_Bool (is_iri_char c)) [
                  | inl r ↦ rw (r, p.0, q.0) (refl, r)
                  | inr r ↦ rw (r, p.0, q.0) (refl, (p.1, q.1, r))
                ]
          ]
    ]

string_escape_says : (o : Option (ℕ × ℕ)) (c : ℕ) (rest : List ℕ) → option_or (echar_at rest) (uchar rest) ≡ o → c ≡ 92
    → ItemSays Quoted c rest (string_escape o (c ∷ rest))
string_escape_says None c rest u is = (refl, (is, λ d at. no_escape Quoted c rest d u at))
string_escape_says (Some p) c rest u is =
    elim (eqb_tells p.0 0) [
      | inl q ↦ rw q.0 (
        refl,
        inr
            (subst (λ (d : ℕ). EscapeAt Quoted (c ∷ rest) d) q.1 (escape_at Quoted c rest p.0 p.1 is u)),
      )
      | inr q ↦ rw q.0 (is, escape_found Quoted rest p.0 p.1 u, ap not q.0)
    ]

string_item_says : (c : ℕ) (rest : List ℕ) → ItemSays Quoted c rest (string_item c rest)
unfolding string_item
string_item_says c rest =
    elim (eqb_tells c 34) [
      | inl p ↦ rw p.0 p.1
      | inr p ↦
          elim (eqb_tells c 92) [
            | inl q ↦ rw (p.0, q.0) (string_escape_says (option_or (echar_at rest) (uchar rest)) c rest refl q.1)
            | inr q ↦
                elim (eqb_tells c 0) [
                  | inl r ↦ rw (p.0, q.0, r.0) (refl, inl r.1)
                  | inr r ↦
                      elim (cases_Bool (is_string_char c)) [
                        | inl t ↦ rw (t, p.0, q.0, r.0) (refl, rw (r.0, t) refl)
                        | inr t ↦ rw (t, p.0, q.0, r.0) (refl, (p.1, q.1, t))
                      ]
                ]
          ]
    ]

item_says : (token : Token) (c : ℕ) (rest : List ℕ) → ItemSays token c rest (item token c rest)
item_says Iri c rest = iri_item_says c rest
item_says Quoted c rest = string_item_says c rest

-- ---- the content

-- pieces and a closing delimiter
pub record Found (token : Token) (bytes value rest : List ℕ) : Type 0 where
  pub pieces : List Piece
  pub each : AllByRecursion (IsTokenPiece token) pieces
  pub whole : bytes ≡ pieces_text pieces ++ (closing_byte token ∷ rest)
  pub means : value ≡ pieces_value pieces

-- the same, or pieces and a failed check
abbrev pub ContentSays : Token → List ℕ → Result (List ℕ × List ℕ) FailedCheck → Type 0
ContentSays token bytes (Ok x) = Found token bytes x.0 x.1
ContentSays token bytes (Err s) = ContentCheckFails token bytes s

piece_then : (token : Token) (p : Piece) (bytes bytes' front : List ℕ) (r : Result (List ℕ × List ℕ) FailedCheck)
    → IsTokenPiece token p → bytes' ≡ piece_text p ++ bytes → front ≡ piece_value p → ContentSays token bytes r
    → ContentSays token bytes' (prepend_parsed front r)
piece_then token p bytes bytes' front (Ok x) fits e v f = record {
  pieces = p ∷ f.pieces;
  each = (fits, f.each);
  whole = e ∙ ap (λ (bs : List ℕ). piece_text p ++ bs) f.whole
      ∙ sym (append_assoc (piece_text p) (pieces_text f.pieces) (closing_byte token ∷ x.1));
  means = ap (λ (bs : List ℕ). bs ++ x.0) v ∙ ap (λ (bs : List ℕ). piece_value p ++ bs) f.means;
}
piece_then token p bytes bytes' front (Err s) fits e v f = record {
  pieces = p ∷ f.pieces;
  rest = f.rest;
  each = (fits, f.each);
  whole = e ∙ ap (λ (bs : List ℕ). piece_text p ++ bs) f.whole
      ∙ sym (append_assoc (piece_text p) (pieces_text f.pieces) f.rest);
  left = f.left;
  row = f.row;
}

item_then : (token : Token) (c : ℕ) (tail : List ℕ) (r : Result TokenItem FailedCheck) → ItemSays token c tail r
    → ((k : ℕ) → k ≤ length tail → ContentSays token (drop k tail) (token_content token k tail))
    → ContentSays token (c ∷ tail) (r >>= λ x. goes_on x tail (token_content token (skip_of x) tail))
item_then token c tail (Err s) h ih =
    record { pieces = []; rest = c ∷ tail; each = tt; whole = refl; left = h.0; row = h.1 }
item_then token c tail (Ok End) h ih =
    record { pieces = []; each = tt; whole = ap (λ (b : ℕ). b ∷ tail) h; means = refl }
item_then token c tail (Ok (Byte b)) h ih =
    piece_then token (raw c) tail (c ∷ tail) (b ∷ []) (token_content token 0 tail) h.1 refl (ap (λ (d : ℕ). d ∷ []) h.0)
    (ih 0 (omega arith))
item_then token c tail (Ok (Char d k)) h ih =
    let x = h.1 in
    let whole : c ∷ tail ≡ piece_text x.piece ++ drop k tail =
    rw (h.0, ← x.whole) (ap (λ (bs : List ℕ). 92 ∷ bs) (sym (take-append-drop k tail))) in
    piece_then token x.piece (drop k tail) (c ∷ tail) (encode_utf8 d) (token_content token k tail) (x.fits h.2) whole
    (sym x.means) (ih k x.len)

pub inside_says : (token : Token) (k : ℕ) (bytes : List ℕ) → k ≤ length bytes
    → ContentSays token (drop k bytes) (token_content token k bytes)
unfolding token_content
inside_says token zero [] le = record { pieces = []; rest = []; each = tt; whole = refl; left = refl; row = tt }
inside_says token (suc k) [] le = absurd (omega arith)
inside_says token (suc k) (c ∷ tail) le = inside_says token k tail (omega arith)
inside_says token zero (c ∷ tail) le =
    item_then token c tail (item token c tail) (item_says token c tail) (λ k short. inside_says token k tail short)

-- ---- IRIs

-- an IRI and what follows it, or the check that fails
abbrev pub IriSays : List ℕ → Result (List ℕ × List ℕ) FailedCheck → Type 0
IriSays bytes (Ok x) = (text : List ℕ) × EncodesIri text x.0 × (bytes ≡ text ++ x.1)
IriSays bytes (Err s) = IriCheckFails bytes s

iri_then : (c : ℕ) (tail : List ℕ) (r : Result (List ℕ × List ℕ) FailedCheck) → c ≡ 60 → ContentSays Iri tail r
    → IriSays (c ∷ tail) (r >>= require_absolute (c ∷ tail))
iri_then c tail (Err s) is h = in_iri tail (ap (λ (b : ℕ). b ∷ tail) is) h
iri_then c tail (Ok x) is h =
    let inner = pieces_text h.pieces in
    let content : EncodesContent Iri inner x.0 =
    record { pieces = h.pieces; each = h.each; whole = refl; means = h.means } in
    let whole : c ∷ tail ≡ 60 ∷ (inner ++ 62 ∷ x.1) = ap (λ (b : ℕ). b ∷ tail) is
    ∙ ap (λ (bs : List ℕ). 60 ∷ bs) h.whole in
    elim (cases_Bool (is_absolute x.0)) [
      | inl q ↦
          rw q (
            60 ∷ (inner ++ 62 ∷ []),
            record { inner = inner; content = content; whole = refl; absolute = q },
            whole ∙ ap (λ (bs : List ℕ). 60 ∷ bs) (sym (append_assoc inner (62 ∷ []) x.1)),
          )
      | inr q ↦ rw q (relative inner x.0 x.1 content whole q refl)
    ]

pub iri_says : (bytes : List ℕ) → IriSays bytes (iri_at bytes)
unfolding iri_at
iri_says [] = no_iri tt refl
iri_says (c ∷ tail) = elim (eqb_tells c 60) [
  | inl p ↦ rw p.0 (iri_then c tail (token_content Iri 0 tail) p.1 (inside_says Iri 0 tail (omega arith)))
  | inr p ↦ rw p.0 (no_iri p.0 refl)
]
