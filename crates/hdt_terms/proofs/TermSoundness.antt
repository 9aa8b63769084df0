-- Soundness for terms: the text encodes the term that parsing reads, or a check of the table of errors fails.
use Rattle.std.proofs.Common.{◌≡◌, ◌≢◌, ℕ, Bool, true, false, eqb, List, [], ◌∷◌, ◌++◌, Result, Ok, refl, sym, ap}
use Rattle.std.proofs.Common.{subst, ◌∙◌, append_assoc, inl, inr, take, drop, Option, Some, None, Err, arith}
use Rattle.std.specs.Prelude.{IsUtf8, encode_utf8}
use Rattle.std.specs.Str.{bytes_eq, chars}
use Rattle.std.proofs.lemmas.Bool.Decides.{not_from_Decides, eqb_tells}
use Rattle.std.proofs.lemmas.Slice.Eq.{bytes_eq-Decides}
use Rattle.hdt_terms.specs.declared.fault.FailedCheck.{FailedCheck}
use Rattle.hdt_terms.specs.declared.escaped_tokens.Token.TheVariants.{Quoted}
use Rattle.hdt_terms.specs.declared.triple.Term.{Term}
use Rattle.hdt_terms.specs.declared.triple.Term.TheVariants as terms
use Rattle.hdt_terms.specs.declared.triple.Suffix.{Suffix}
use Rattle.hdt_terms.specs.Chars.{is_whitespace}
use Rattle.hdt_terms.specs.Terms.{xsd_string}
use Rattle.hdt_terms.specs.Grammar.{pieces_text, IsWhitespace, EncodesDatatype, EncodesSuffix, Encodes, EncodesContent}
use Rattle.hdt_terms.specs.TermParsing.{◌>>=◌, token_content, iri_at, blank_at, skip_whitespace, tag_at, datatype_of}
use Rattle.hdt_terms.specs.TermParsing.{as_datatype, datatype_at, suffix_after, suffix_at, as_iri, as_blank}
use Rattle.hdt_terms.specs.TermParsing.{with_suffix, literal_at, term_at, cut_label, cut_tag}
use Rattle.hdt_terms.proofs.Bools.{and_both}
use Rattle.hdt_terms.proofs.FrontUtf8.{iri_front, blank_utf8, literal_front}
use Rattle.std.proofs.lemmas.List.{take-append-drop}
use Rattle.hdt_terms.proofs.LabelSoundness.{LabelSays, label_says}
use Rattle.hdt_terms.proofs.TagSoundness.{TagSays, tag_says}
use Rattle.hdt_terms.specs.Labels.{label_bytes}
use Rattle.hdt_terms.specs.Tags.{tag_len}
use Rattle.hdt_terms.specs.TermErrors.{DoesNotBeginWith, SuffixCheckFails, no_tag, no_caret, no_datatype}
use Rattle.hdt_terms.specs.TermErrors.{TermCheckFails, no_term, iri, blank, string, suffix}
use Rattle.hdt_terms.proofs.AsciiBorders.{behind_ascii}
use Rattle.hdt_terms.proofs.ContentSoundness.{IriSays, ContentSays, inside_says, iri_says}

-- the leading whitespace
pub record Passed (bytes : List ℕ) : Type 0 where
  pub whitespace : List ℕ
  pub are : IsWhitespace whitespace
  pub whole : bytes ≡ whitespace ++ skip_whitespace bytes

one_more : (b : Bool) (c : ℕ) (cs : List ℕ) → Passed cs → is_whitespace c ≡ b → Passed (c ∷ cs)
one_more true c cs p h = record {
  whitespace = c ∷ p.whitespace;
  are = and_both _ _ h p.are;
  whole =
      simp h (ap (λ (bs : List ℕ). c ∷ bs) p.whole);
}
one_more false c cs p h = record { whitespace = []; are = refl; whole = simp h refl }

pub passed : (bytes : List ℕ) → Passed bytes
passed [] = record { whitespace = []; are = refl; whole = refl }
passed (c ∷ cs) = one_more (is_whitespace c) c cs (passed cs) refl

-- ---- suffixes

begins_not : (b : Bool) (c : ℕ) (cs : List ℕ) → is_whitespace c ≡ b
    → DoesNotBeginWith is_whitespace (skip_whitespace cs) → DoesNotBeginWith is_whitespace (skip_whitespace (c ∷ cs))
begins_not true c cs h more = simp h more
begins_not false c cs h more = simp h refl

skip_whitespace-begins : (bytes : List ℕ) → DoesNotBeginWith is_whitespace (skip_whitespace bytes)
skip_whitespace-begins [] = tt
skip_whitespace-begins (c ∷ cs) = begins_not (is_whitespace c) c cs refl (skip_whitespace-begins cs)

-- what was read is a prefix, and the rest follows it
pub record SuffixFound (bytes : List ℕ) (suffix : Suffix) (rest : List ℕ) : Type 0 where
  pub text : List ℕ
  pub form : EncodesSuffix text suffix
  pub whole : bytes ≡ text ++ rest

pub record DatatypeFound (bytes iri rest : List ℕ) : Type 0 where
  pub text : List ℕ
  pub form : EncodesDatatype text iri
  pub whole : bytes ≡ text ++ rest

pick : (b : Bool) (bytes value rest : List ℕ) → bytes_eq value xsd_string ≡ b → DatatypeFound bytes value rest
    → SuffixFound bytes (datatype_of value) rest
pick true bytes value rest h f =
    let is : value ≡ xsd_string = (bytes_eq-Decides value xsd_string).0 h in
    rw h (record {
      text = f.text;
      form = inr (subst (λ (d : List ℕ). EncodesDatatype f.text d) is f.form);
      whole =
          f.whole;
    })
pick false bytes value rest h f =
    let differs : value ≢ xsd_string =
    not_from_Decides (bytes_eq value xsd_string) (bytes_eq-Decides value xsd_string) h in
    rw h (record { text = f.text; form = (f.form, differs); whole = f.whole })

-- a suffix and what follows it, or the check that fails
abbrev SuffixSays : List ℕ → Result (Suffix × List ℕ) FailedCheck → Type 0
SuffixSays bytes (Ok x) = SuffixFound bytes x.0 x.1
SuffixSays bytes (Err s) = SuffixCheckFails bytes s

tag_then : (front behind : List ℕ) (o : Option ℕ) → IsWhitespace front → TagSays behind o
    → SuffixSays (front ++ 64 ∷ behind) (cut_tag o (64 ∷ behind) behind)
tag_then front behind None whitespace h = no_tag front behind whitespace refl h refl
tag_then front behind (Some n) whitespace h = record {
  text = front ++ 64 ∷ take n behind;
  form = record { before = front; whitespace = whitespace; whole = refl; form = h };
  whole = ap (λ (bs : List ℕ). front ++ 64 ∷ bs) (sym (take-append-drop n behind))
      ∙ sym (append_assoc front (64 ∷ take n behind) (drop n behind));
}

tag_behind : (front behind : List ℕ) → IsWhitespace front → SuffixSays (front ++ 64 ∷ behind) (tag_at (64 ∷ behind))
unfolding tag_at
tag_behind front behind whitespace = tag_then front behind (tag_len behind) whitespace (tag_says behind)

-- ^^, whitespace and an IRI
datatype_then : (front behind : List ℕ) (r : Result (List ℕ × List ℕ) FailedCheck) → IsWhitespace front
    → IriSays (skip_whitespace behind) r → SuffixSays (front ++ 94 ∷ 94 ∷ behind) (r >>= as_datatype)
datatype_then front behind (Ok x) whitespace f =
    let p = passed behind in
    pick (bytes_eq x.0 xsd_string) (front ++ 94 ∷ 94 ∷ behind) x.0 x.1 refl (record {
      text = front ++ 94 ∷ 94 ∷ (p.whitespace ++ f.0);
      form = record {
        before = front;
        behind = p.whitespace;
        whitespace = (whitespace, p.are);
        spelled = f.0;
        whole =
            refl;
        datatype = f.1;
      };
      whole =
          ap (λ (bs : List ℕ). front ++ 94 ∷ 94 ∷ bs) (p.whole ∙ ap (λ (bs : List ℕ). p.whitespace ++ bs) f.2
          ∙ sym (append_assoc p.whitespace f.0 x.1))
          ∙ sym (append_assoc front (94 ∷ 94 ∷ (p.whitespace ++ f.0)) x.1);
    })
datatype_then front behind (Err s) whitespace h =
    let p = passed behind in
    no_datatype front p.whitespace (skip_whitespace behind) whitespace p.are
    (ap (λ (bs : List ℕ). front ++ 94 ∷ 94 ∷ bs) p.whole) (skip_whitespace-begins behind) h

datatype_says : (front behind : List ℕ) → IsWhitespace front
    → SuffixSays (front ++ 94 ∷ behind) (datatype_at (94 ∷ behind))
unfolding datatype_at
datatype_says front [] whitespace = no_caret front [] whitespace refl tt refl
datatype_says front (d ∷ behind) whitespace = elim (eqb_tells d 94) [
  | inl p ↦ rw p.0 (subst (λ (b : ℕ). SuffixSays (front ++ 94 ∷ b
      ∷ behind) (iri_at (skip_whitespace behind) >>= as_datatype)) (sym p.1)
      (datatype_then front behind (iri_at (skip_whitespace behind)) whitespace (iri_says (skip_whitespace behind))))
  | inr p ↦ rw p.0 (no_caret front (d ∷ behind) whitespace refl p.0 refl)
]

after_says : (front token : List ℕ) → IsWhitespace front
    → SuffixSays (front ++ token) (suffix_after (front ++ token) token)
after_says front [] whitespace = record { text = []; form = inl refl; whole = refl }
after_says front (c ∷ behind) whitespace = elim (eqb_tells c 64) [
  | inl p ↦ rw p.0 (subst (λ (b : ℕ). SuffixSays (front ++ b ∷ behind) (tag_at (b ∷ behind))) (sym p.1)
      (tag_behind front behind whitespace))
  | inr p ↦
      elim (eqb_tells c 94) [
        | inl q ↦ rw (p.0, q.0) (subst (λ (b : ℕ). SuffixSays (front ++ b ∷ behind) (datatype_at (b ∷ behind)))
            (sym q.1) (datatype_says front behind whitespace))
        | inr q ↦ rw (p.0, q.0) (record { text = []; form = inl refl; whole = refl })
      ]
]

suffix_says : (bytes : List ℕ) → SuffixSays bytes (suffix_at bytes)
unfolding suffix_at
suffix_says bytes =
    let p = passed bytes in
    subst (λ (bs : List ℕ). SuffixSays bs (suffix_after bs (skip_whitespace bytes))) (sym p.whole)
    (after_says p.whitespace (skip_whitespace bytes) p.are)

pub suffix_found : (bytes rest : List ℕ) (suffix : Suffix) → suffix_at bytes ≡ Ok (suffix, rest)
    → SuffixFound bytes suffix rest
suffix_found bytes rest value e = subst (SuffixSays bytes) e (suffix_says bytes)

-- ---- a term

pub record TermFound (bytes : List ℕ) (term : Term) (rest : List ℕ) : Type 0 where
  pub text : List ℕ
  pub spelled : Encodes text term
  pub whole : bytes ≡ text ++ rest

-- a term and what follows it, or the check that fails
abbrev TermSays : List ℕ → Result (Term × List ℕ) FailedCheck → Type 0
TermSays bytes (Ok x) = TermFound bytes x.0 x.1
TermSays bytes (Err s) = TermCheckFails bytes s

suffix_then : (bytes inner value behind : List ℕ) (r : Result (Suffix × List ℕ) FailedCheck) → IsUtf8 bytes
    → EncodesContent Quoted inner value → bytes ≡ 34 ∷ (inner ++ 34 ∷ behind) → SuffixSays behind r
    → TermSays bytes (r >>= λ s. Ok (terms.Literal value s.0, s.1))
suffix_then bytes inner value behind (Err s) utf8 content whole h = suffix inner value behind content whole h
suffix_then bytes inner value behind (Ok x) utf8 content whole s =
    let all : bytes ≡ 34 ∷ (inner ++ 34 ∷ (s.text ++ x.1)) =
    whole ∙ ap (λ (bs : List ℕ). 34 ∷ (inner ++ 34 ∷ bs)) s.whole in
    record {
      text = 34 ∷ (inner ++ 34 ∷ s.text);
      spelled = record {
        utf8 = literal_front inner s.text x.1 x.0 s.form (subst IsUtf8 all utf8);
        form = record { inner = inner; tail = s.text; content = content; whole = refl; behind = s.form };
      };
      whole = all ∙ ap (λ (bs : List ℕ). 34 ∷ bs) (sym (append_assoc inner (34 ∷ s.text) x.1));
    }

string_then : (c : ℕ) (rest : List ℕ) (r : Result (List ℕ × List ℕ) FailedCheck) → IsUtf8 (c ∷ rest) → c ≡ 34
    → ContentSays Quoted rest r → TermSays (c ∷ rest) (r >>= with_suffix)
string_then c rest (Err s) utf8 is h = string rest (ap (λ (b : ℕ). b ∷ rest) is) h
string_then c rest (Ok x) utf8 is h =
    suffix_then (c ∷ rest) (pieces_text h.pieces) x.0 x.1 (suffix_at x.1) utf8
    (record { pieces = h.pieces; each = h.each; whole = refl; means = h.means })
    (ap (λ (b : ℕ). b ∷ rest) is ∙ ap (λ (bs : List ℕ). 34 ∷ bs) h.whole) (suffix_says x.1)

literal_says : (c : ℕ) (rest : List ℕ) → IsUtf8 (c ∷ rest) → eqb c 60 ≡ false → eqb c 95 ≡ false
    → TermSays (c ∷ rest) (literal_at (c ∷ rest))
unfolding literal_at
literal_says c rest utf8 not_iri not_blank = elim (eqb_tells c 34) [
  | inl p ↦ rw p.0 (string_then c rest (token_content Quoted 0 rest) utf8 p.1 (inside_says Quoted 0 rest (omega arith)))
  | inr p ↦ rw p.0 (no_term (rw (not_iri, not_blank, p.0) refl) refl)
]

iri_then : (c : ℕ) (rest : List ℕ) (r : Result (List ℕ × List ℕ) FailedCheck) → IsUtf8 (c ∷ rest) → c ≡ 60
    → IriSays (c ∷ rest) r → TermSays (c ∷ rest) (r >>= as_iri)
iri_then c rest (Err s) utf8 is h = iri rest (ap (λ (b : ℕ). b ∷ rest) is) h
iri_then c rest (Ok x) utf8 is f =
    record {
      text = f.0;
      spelled = record { utf8 = iri_front f.0 x.0 x.1 f.1 (subst IsUtf8 f.2 utf8); form = f.1 };
      whole = f.2;
    }

label_then : (text : List ℕ) (o : Option ℕ) → LabelSays text o
    → TermSays (95 ∷ 58 ∷ text) (cut_label o (95 ∷ 58 ∷ text) text >>= as_blank)
label_then text None h = blank (58 ∷ text) refl (λ b. let same : text ≡ encode_utf8 b.0 ++ b.1 = cc (b.3) in
    h b.0 b.1 b.2 same) refl
label_then text (Some n) h = record {
  text = 95 ∷ 58 ∷ take n text;
  spelled = record { utf8 = blank_utf8 (take n text) h.utf8; form = record { whole = refl; form = h.form } };
  whole = ap (λ (bs : List ℕ). 95 ∷ 58 ∷ bs) (sym (take-append-drop n text));
}

blank_says : (rest : List ℕ) → IsUtf8 (95 ∷ rest) → TermSays (95 ∷ rest) (blank_at (95 ∷ rest) >>= as_blank)
unfolding blank_at
blank_says [] utf8 = blank [] refl (λ b. let bad : 95 ∷ [] ≡ 95 ∷ 58 ∷ (encode_utf8 b.0 ++ b.1) = b.3 in cc) refl
blank_says (v ∷ text) utf8 = elim (eqb_tells v 58) [
  | inl p ↦
      let behind = behind_ascii 58 text (omega arith)
      (subst (λ (b : ℕ). IsUtf8 (b ∷ text)) p.1 (behind_ascii 95 (v ∷ text) (omega arith) utf8)) in
      rw p.0 (subst (λ (b : ℕ). TermSays (95 ∷ b
      ∷ text) (cut_label (label_bytes (chars text)) (95 ∷ b ∷ text) text >>= as_blank)) (sym p.1)
      (label_then text (label_bytes (chars text)) (label_says text behind)))
  | inr p ↦ rw p.0 (blank (v ∷ text) refl (λ b. let same : v ≡ 58 = cc (b.3) in p.1 same) refl)
]

term_says : (bytes : List ℕ) → IsUtf8 bytes → TermSays bytes (term_at bytes)
unfolding term_at
term_says [] utf8 = no_term tt refl
term_says (c ∷ rest) utf8 = elim (eqb_tells c 60) [
  | inl p ↦ rw p.0 (iri_then c rest (iri_at (c ∷ rest)) utf8 p.1 (iri_says (c ∷ rest)))
  | inr p ↦
      elim (eqb_tells c 95) [
        | inl q ↦ rw (p.0, q.0) (subst (λ (b : ℕ). TermSays (b ∷ rest) (blank_at (b ∷ rest) >>= as_blank)) (sym q.1)
            (blank_says rest (subst (λ (b : ℕ). IsUtf8 (b ∷ rest)) q.1 utf8)))
        | inr q ↦ rw (p.0, q.0) (literal_says c rest utf8 p.0 q.0)
      ]
]

pub term_found : (bytes rest : List ℕ) (term : Term) → IsUtf8 bytes → term_at bytes ≡ Ok (term, rest)
    → TermFound bytes term rest
term_found bytes rest term utf8 e = subst (TermSays bytes) e (term_says bytes utf8)

pub term_stops : (bytes : List ℕ) (s : FailedCheck) → IsUtf8 bytes → term_at bytes ≡ Err s → TermCheckFails bytes s
term_stops bytes s utf8 e = subst (TermSays bytes) e (term_says bytes utf8)
