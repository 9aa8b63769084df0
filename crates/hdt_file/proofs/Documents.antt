-- The text of triples is an N-Triples document of these triples, if their terms are terms of the grammar.
use Rattle.std.proofs.Common.{◌≡◌, ◌<◌, ℕ, false, List, [], ◌∷◌, ◌++◌, Some, None, refl, sym, ap, subst, append_assoc}
use Rattle.std.proofs.Common.{append-nil, arith}
use Rattle.std.specs.Prelude.{map, IsUtf8}
use Rattle.std.specs.List.{flat_map, AllByRecursion}
use Rattle.std.proofs.lemmas.List.Elements.{All-nil, All-cons, All-append}
use Rattle.std.proofs.lemmas.Str.{IsUtf8-nil, IsUtf8-append, IsUtf8-from_ascii}
use Rattle.std.proofs.lemmas.Str.Ascii.{IsAscii-nil, IsAscii-cons}
use Rattle.hdt_terms.specs.declared.triple.Term.{Term}
use Rattle.hdt_terms.specs.declared.triple.Triple.{Triple}
use Rattle.hdt_terms.specs.Chars.{is_line_end}
use Rattle.hdt_terms.specs.Lines.{HasNoLineEnd, EncodesTriple, TerminatedLines, triples_of_lines, Document}
use Rattle.hdt_terms.specs.Grammar.{Encodes}
use Rattle.hdt_terms.specs.Terms.{IsGrammarTerm}
use Rattle.hdt_terms.specs.Writing.{written}
use Rattle.hdt_wire.specs.declared.Role.TheVariants.{Subject, Predicate}
use Rattle.hdt_file.specs.Denoted.{StringTriple}
use Rattle.hdt_file.specs.Text.{TermTriple, AreTermsOf, Pairwise, line, IsTextOf}
use Rattle.hdt_file.specs.Documents.{triple_of, AreGrammarTerms}

-- a line without its line feed
abbrev body : TermTriple → List ℕ
body t = written t.0 ++ 32 ∷ (written t.1 ++ 32 ∷ (written t.2 ++ 32 ∷ 46 ∷ []))

line_cut : (t : TermTriple) (rest : List ℕ) → line t ++ rest ≡ body t ++ 10 ∷ rest
line_cut t rest = simp append_assoc

-- ---- texts without a line end

abbrev IsInner : ℕ → Type 0
IsInner c = is_line_end c ≡ false

abbrev StandsWithin : List ℕ → Type 0
StandsWithin text = IsUtf8 text × HasNoLineEnd text

appended : (xs ys : List ℕ) → StandsWithin xs → StandsWithin ys → StandsWithin (xs ++ ys)
appended xs ys h k = (IsUtf8-append xs ys h.0 k.0, All-append IsInner xs ys h.1 k.1)

one_byte : (c : ℕ) → c < 128 → IsInner c → StandsWithin (c ∷ [])
one_byte c ascii inner = (
  IsUtf8-from_ascii (c ∷ []) (IsAscii-cons c [] ascii IsAscii-nil),
  All-cons IsInner c [] inner (All-nil IsInner),
)

spaced : (xs ys : List ℕ) → StandsWithin xs → StandsWithin ys → StandsWithin (xs ++ 32 ∷ ys)
spaced xs ys h k = appended xs (32 ∷ ys) h (appended (32 ∷ []) ys (one_byte 32 (omega arith) refl) k)

-- ---- documents

module _ (spelled : (term : Term) → IsGrammarTerm term → Encodes (written term) term) (no_end : (term : Term)
    → IsGrammarTerm term → HasNoLineEnd (written term)) where
  within : (term : Term) → IsGrammarTerm term → StandsWithin (written term)
  within term h = ((spelled term h).utf8, no_end term h)

  body_within : (t : TermTriple) → AreGrammarTerms t → StandsWithin (body t)
  body_within t h = spaced (written t.0) _ (within t.0 h.0)
      (spaced (written t.1) _ (within t.1 h.1)
      (spaced (written t.2) _ (within t.2 h.2) (one_byte 46 (omega arith) refl)))

  triple_spelled : (strings : StringTriple) (t : TermTriple) → AreTermsOf strings t → AreGrammarTerms t
      → EncodesTriple (body t) (triple_of t)
  triple_spelled strings t is h = record {
    before_s = [];
    before_p = 32 ∷ [];
    before_o = 32 ∷ [];
    before_stop = 32 ∷ [];
    whitespace = (refl, refl, refl, refl);
    s = written t.0;
    p = written t.1;
    o = written t.2;
    behind = [];
    subject = (spelled t.0 h.0, (is Subject).fits);
    predicate = (spelled t.1 h.1, (is Predicate).fits);
    object = spelled t.2 h.2;
    trailing = record { before = []; comment = []; whitespace = refl; comment_is = tt; whole = refl };
    whole = refl;
  }

  lines_are : (triples : List StringTriple) (terms : List TermTriple) → Pairwise AreTermsOf triples terms
      → AllByRecursion AreGrammarTerms terms
      → TerminatedLines (map Some (map triple_of terms)) (flat_map line terms)
  lines_are [] [] each h = refl
  lines_are [] (t ∷ ts) each h = absurd each
  lines_are (x ∷ xs) [] each h = absurd each
  lines_are (x ∷ xs) (t ∷ ts) each h =
      let w = body_within t h.0 in (
        body t,
        10,
        flat_map line ts,
        line_cut t (flat_map line ts),
        refl,
        w.1,
        (w.0, triple_spelled x t each.0 h.0),
        lines_are xs ts each.1 h.1,
      )

  triples_are : (triples : List Triple) → triples ≡ triples_of_lines (map Some triples ++ None ∷ [])
  triples_are [] = refl
  triples_are (t ∷ ts) = ap (λ (more : List Triple). t ∷ more) (triples_are ts)

  pub text_document : (triples : List StringTriple) (text : List ℕ) (h : IsTextOf triples text)
      → AllByRecursion AreGrammarTerms h.terms → Document text (map triple_of h.terms)
  text_document triples text h grammar = record {
    front = text;
    last = [];
    lines = map Some (map triple_of h.terms);
    last_line = None;
    cut = sym (append-nil text);
    ended = subst (TerminatedLines (map Some (map triple_of h.terms))) (sym h.whole)
        (lines_are triples h.terms h.each grammar);
    no_end = All-nil IsInner;
    is_line = (IsUtf8-nil, record { before = []; comment = []; whitespace = refl; comment_is = tt; whole = refl });
    triples_are = triples_are (map triple_of h.terms);
  }
