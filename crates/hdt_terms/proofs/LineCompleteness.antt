-- Completeness for lines: parsing reads what a line encodes.
use Rattle.std.proofs.Common.{◌≡◌, ℕ, zero, suc, ◌<◌, true, false, eqb, List, [], ◌∷◌, ◌++◌, Option, None, Some, Ok}
use Rattle.std.proofs.Common.{sym, refl, ap, subst, ◌∙◌, inl, inr, ◌⊎◌, arith}
use Rattle.std.specs.Str.{chars, IsAscii}
use Rattle.std.proofs.lemmas.Bool.Decides.{eqb_tells, nat_tests}
use Rattle.std.proofs.lemmas.Str.{IsUtf8-from_ascii, chars-append, chars-IsAscii, chars-nil}
use Rattle.hdt_wire.specs.declared.Role.{Role}
use Rattle.hdt_wire.specs.declared.Role.TheVariants.{Subject, Predicate, Object}
use Rattle.hdt_terms.specs.declared.triple.Suffix.{Suffix}
use Rattle.hdt_terms.specs.declared.triple.Suffix.TheVariants.{Plain, Tag, Datatype}
use Rattle.hdt_terms.specs.declared.triple.Term.{Term}
use Rattle.hdt_terms.specs.declared.triple.Term.TheVariants as terms
use Rattle.hdt_terms.specs.declared.triple.Triple.{Triple}
use Rattle.hdt_terms.specs.Chars.{is_whitespace, is_pn_chars}
use Rattle.hdt_terms.specs.Labels.{label_rest, dot_if_continued}
use Rattle.hdt_terms.specs.LineParsing.{begins, role_term_at, role_term_after_whitespace, is_comment_or_end}
use Rattle.hdt_terms.specs.LineParsing.{is_blank_or_comment, full_stop_at, full_stop_after_whitespace, line_triple_at}
use Rattle.hdt_terms.specs.LineParsing.{line_in}
use Rattle.hdt_terms.specs.Lines.{IsCommentOrEnd, IsBlankOrComment, IsSubject, IsPredicate, EncodesTriple, Line}
use Rattle.hdt_terms.specs.TermParsing.{skip_whitespace, suffix_after, suffix_at, term_at}
use Rattle.hdt_terms.specs.Grammar.{IsWhitespace, Encodes, EncodesTermForm}
use Rattle.hdt_terms.specs.Requests.{EncodesPatternTerm, IsOptionalStop}
use Rattle.hdt_terms.proofs.Bools.{and_first}
use Rattle.hdt_terms.proofs.LineSoundness.{IsOf}
use Rattle.hdt_terms.proofs.TermCompleteness.{skip_whitespace-blanks, Closes, ClosesTerm, term_again}
use Rattle.hdt_terms.proofs.TagSoundness.{Ends}
use Rattle.hdt_terms.proofs.LineLaws.{bare_line, read_line}
use Rattle.hdt_terms.proofs.AsciiBorders.{unblanked}

-- ---- lines without a triple

comment_again : (text : List ℕ) → IsCommentOrEnd text → is_comment_or_end (skip_whitespace text) ≡ true
comment_again [] h = refl
comment_again (c ∷ rest) h = rw h refl

pub bare_again : (text : List ℕ) → IsBlankOrComment text → is_blank_or_comment text ≡ true
unfolding is_blank_or_comment
bare_again text b = ap (λ l. is_comment_or_end (skip_whitespace l)) b.whole
    ∙ ap is_comment_or_end (skip_whitespace-blanks b.before b.comment b.whitespace)
    ∙ comment_again b.comment b.comment_is

-- ---- the term of a role

pub record First (role : Role) (text : List ℕ) : Type 0 where
  pub c : ℕ
  pub cs : List ℕ
  pub whole : text ≡ c ∷ cs
  pub no_blank : is_whitespace c ≡ false
  pub no_comment : eqb c 35 ≡ false
  pub begins : begins role c ≡ true
  pub no_any : eqb c 63 ≡ false

pub first_of : (role : Role) (text : List ℕ) (term : Term) → EncodesTermForm text term → IsOf role term
    → First role text
first_of Subject text (terms.Iri iri) s h =
    record {
      c = 60;
      cs = s.inner ++ 62 ∷ [];
      whole = s.whole;
      no_blank = refl;
      no_comment = refl;
      begins = refl;
      no_any = refl;
    }
first_of Predicate text (terms.Iri iri) s h =
    record {
      c = 60;
      cs = s.inner ++ 62 ∷ [];
      whole = s.whole;
      no_blank = refl;
      no_comment = refl;
      begins = refl;
      no_any = refl;
    }
first_of Object text (terms.Iri iri) s h =
    record {
      c = 60;
      cs = s.inner ++ 62 ∷ [];
      whole = s.whole;
      no_blank = refl;
      no_comment = refl;
      begins = refl;
      no_any = refl;
    }
first_of Subject text (terms.Blank label) s h =
    record {
      c = 95;
      cs = 58 ∷ label;
      whole = s.whole;
      no_blank = refl;
      no_comment = refl;
      begins = refl;
      no_any =
          refl;
    }
first_of Predicate text (terms.Blank label) s h = absurd h
first_of Object text (terms.Blank label) s h =
    record {
      c = 95;
      cs = 58 ∷ label;
      whole = s.whole;
      no_blank = refl;
      no_comment = refl;
      begins = refl;
      no_any =
          refl;
    }
first_of Subject text (terms.Literal value suffix) s h = absurd h
first_of Predicate text (terms.Literal value suffix) s h = absurd h
first_of Object text (terms.Literal value suffix) s h =
    record {
      c = 34;
      cs = s.inner ++ 34 ∷ s.tail;
      whole = s.whole;
      no_blank = refl;
      no_comment = refl;
      begins = refl;
      no_any = refl;
    }

pub here_again : (role : Role) (bytes : List ℕ) (c : ℕ) (cs : List ℕ) → bytes ≡ c ∷ cs → begins role c ≡ true
    → role_term_at role bytes ≡ term_at bytes
unfolding role_term_at
here_again role bytes c cs e h = rw e (rw h refl)

role_again : (role : Role) (before text more : List ℕ) (term : Term) → IsWhitespace before → Encodes text term
    → IsOf role term → ClosesTerm term more → role_term_after_whitespace role (before ++ (text ++ more))
    ≡ Ok (term, more)
unfolding role_term_after_whitespace
role_again role before text more term are s of closes =
    let f = first_of role text term s.form of in
    let e : text ++ more ≡ f.c ∷ (f.cs ++ more) = ap (λ l. l ++ more) f.whole in
    ap (role_term_at role) (skip_whitespace-blanks before (text ++ more) are
    ∙ unblanked (text ++ more) f.c (f.cs ++ more) e f.no_blank)
    ∙ here_again role (text ++ more) f.c (f.cs ++ more) e f.begins ∙ term_again text more term s.utf8 s.form closes

-- ---- what follows does not continue a term

one_ascii : (c : ℕ) → c < 128 → IsAscii (c ∷ [])
one_ascii c h zero = h
one_ascii c h (suc i) = omega arith

chars_cons : (c : ℕ) (rest : List ℕ) → c < 128 → chars (c ∷ rest) ≡ c ∷ chars rest
chars_cons c rest h = chars-append (c ∷ []) rest (IsUtf8-from_ascii (c ∷ []) (one_ascii c h))
    ∙ ap (λ l. l ++ chars rest) (chars-IsAscii (c ∷ []) (one_ascii c h))

label_ends : (c : ℕ) (rest : List ℕ) → c < 128 → is_pn_chars c ≡ false → eqb c 46 ≡ false
    → label_rest (chars (c ∷ rest)) ≡ []
label_ends c rest h pn dot = ap label_rest (chars_cons c rest h) ∙ rw (pn, dot) refl

label_dot : (rest : List ℕ) → label_rest (chars rest) ≡ [] → label_rest (chars (46 ∷ rest)) ≡ []
label_dot rest h = ap label_rest (chars_cons 46 rest (omega arith)) ∙ ap dot_if_continued h

blank_is : (c : ℕ) → is_whitespace c ≡ true → (c ≡ 9) ⊎ (c ≡ 32)
blank_is c e = elim (eqb_tells c 9) [ inl p ↦ inl p.1 | inr p ↦ inr (grind (arith, nat_tests, e, p.1)) ]

label_blank : (c : ℕ) (rest : List ℕ) → is_whitespace c ≡ true → label_rest (chars (c ∷ rest)) ≡ []
label_blank c rest e =
    elim (blank_is c e) [
      | inl h ↦ subst (λ b. label_rest (chars (b ∷ rest)) ≡ []) (sym h) (label_ends 9 rest (omega arith) refl refl)
      | inr h ↦ subst (λ b. label_rest (chars (b ∷ rest)) ≡ []) (sym h) (label_ends 32 rest (omega arith) refl refl)
    ]

pub label_behind : (before more : List ℕ) → IsWhitespace before → label_rest (chars more) ≡ []
    → label_rest (chars (before ++ more)) ≡ []
label_behind [] more are h = h
label_behind (c ∷ before) more are h = label_blank c (before ++ more) (and_first (is_whitespace c) _ are)

comment_label : (comment : List ℕ) → IsCommentOrEnd comment → label_rest (chars comment) ≡ []
comment_label [] h = ap label_rest chars-nil
comment_label (c ∷ rest) h =
    subst (λ b. label_rest (chars (b ∷ rest)) ≡ []) (sym h) (label_ends 35 rest (omega arith) refl refl)

bare_label : (text : List ℕ) → IsBlankOrComment text → label_rest (chars text) ≡ []
bare_label text b = ap (λ l. label_rest (chars l)) b.whole
    ∙ label_behind b.before b.comment b.whitespace (comment_label b.comment b.comment_is)

ends_at : (c : ℕ) (rest : List ℕ) → is_whitespace c ≡ true → Ends (c ∷ rest)
ends_at c rest e =
    elim (blank_is c e) [
      | inl h ↦ subst (λ b. Ends (b ∷ rest)) (sym h) (record { letters = refl; part = refl })
      | inr h ↦ subst (λ b. Ends (b ∷ rest)) (sym h) (record { letters = refl; part = refl })
    ]

ends_behind : (before rest : List ℕ) → IsWhitespace before → Ends (before ++ 46 ∷ rest)
ends_behind [] rest are = record { letters = refl; part = refl }
ends_behind (c ∷ before) rest are = ends_at c (before ++ 46 ∷ rest) (and_first (is_whitespace c) _ are)

plain_behind : (before rest : List ℕ) → IsWhitespace before
    → suffix_at (before ++ 46 ∷ rest) ≡ Ok (Plain, before ++ 46 ∷ rest)
unfolding suffix_at
plain_behind before rest are = ap (suffix_after (before ++ 46 ∷ rest)) (skip_whitespace-blanks before (46 ∷ rest) are)

-- what follows does not continue a given term
abbrev pub ClosesPart : Option Term → List ℕ → Type 0
ClosesPart None more = Unit {0}
ClosesPart (Some term) more = ClosesTerm term more

-- a predicate or ? does not continue a label
pub predicate_label : (p more : List ℕ) (part : Option Term) → EncodesPatternTerm IsPredicate p part
    → label_rest (chars (p ++ more)) ≡ []
predicate_label p more None s =
    subst (λ l. label_rest (chars (l ++ more)) ≡ []) (sym s) (label_ends 63 more (omega arith) refl refl)
predicate_label p more (Some (terms.Iri iri)) s =
    subst (λ l. label_rest (chars (l ++ more))
    ≡ []) (sym s.0.form.whole) (label_ends 60 ((s.0.form.inner ++ 62 ∷ []) ++ more) (omega arith) refl refl)
predicate_label p more (Some (terms.Blank label)) s = absurd s.1
predicate_label p more (Some (terms.Literal value suffix)) s = absurd s.1

pub closes_subject : (text more : List ℕ) (part : Option Term) → EncodesPatternTerm IsSubject text part
    → label_rest (chars more) ≡ [] → ClosesPart part more
closes_subject text more None s h = tt
closes_subject text more (Some (terms.Iri iri)) s h = tt
closes_subject text more (Some (terms.Blank label)) s h = h
closes_subject text more (Some (terms.Literal value suffix)) s h = absurd s.1

pub closes_predicate : (text more : List ℕ) (part : Option Term) → EncodesPatternTerm IsPredicate text part
    → ClosesPart part more
closes_predicate text more None s = tt
closes_predicate text more (Some (terms.Iri iri)) s = tt
closes_predicate text more (Some (terms.Blank label)) s = absurd s.1
closes_predicate text more (Some (terms.Literal value suffix)) s = absurd s.1

plain_comment : (bytes comment : List ℕ) → IsCommentOrEnd comment
    → suffix_after bytes (skip_whitespace comment) ≡ Ok (Plain, bytes)
plain_comment bytes [] h = refl
plain_comment bytes (c ∷ rest) h = rw h refl

plain_bare : (before behind : List ℕ) → IsWhitespace before → IsBlankOrComment behind
    → suffix_at (before ++ behind) ≡ Ok (Plain, before ++ behind)
unfolding suffix_at
plain_bare before behind are b =
    ap (suffix_after (before ++ behind)) (skip_whitespace-blanks before behind are ∙ ap skip_whitespace b.whole
    ∙ skip_whitespace-blanks b.before b.comment b.whitespace)
    ∙ plain_comment (before ++ behind) b.comment b.comment_is

ends_comment : (comment : List ℕ) → IsCommentOrEnd comment → Ends comment
ends_comment [] h = record { letters = refl; part = refl }
ends_comment (c ∷ rest) h = subst (λ b. Ends (b ∷ rest)) (sym h) (record { letters = refl; part = refl })

ends_blanks : (before more : List ℕ) → IsWhitespace before → Ends more → Ends (before ++ more)
ends_blanks [] more are h = h
ends_blanks (c ∷ before) more are h = ends_at c (before ++ more) (and_first (is_whitespace c) _ are)

ends_bare : (before behind : List ℕ) → IsWhitespace before → IsBlankOrComment behind → Ends (before ++ behind)
ends_bare before behind are b =
    ends_blanks before behind are
    (subst Ends (sym b.whole) (ends_blanks b.before b.comment b.whitespace (ends_comment b.comment b.comment_is)))

closes_suffix : (suffix : Suffix) (before stop behind : List ℕ) → IsWhitespace before → IsOptionalStop stop
    → IsBlankOrComment behind → Closes suffix (before ++ (stop ++ behind))
closes_suffix Plain before stop behind are is b =
    elim is [
      | inl e ↦ subst (λ l. Closes Plain (before ++ (l ++ behind))) (sym e) (plain_bare before behind are b)
      | inr e ↦ subst (λ l. Closes Plain (before ++ (l ++ behind))) (sym e) (plain_behind before behind are)
    ]
closes_suffix (Tag tag) before stop behind are is b =
    elim is [
      | inl e ↦ subst (λ l. Ends (before ++ (l ++ behind))) (sym e) (ends_bare before behind are b)
      | inr e ↦ subst (λ l. Ends (before ++ (l ++ behind))) (sym e) (ends_behind before behind are)
    ]
closes_suffix (Datatype iri) before stop behind are is b = tt

stop_label : (stop behind : List ℕ) → IsOptionalStop stop → IsBlankOrComment behind
    → label_rest (chars (stop ++ behind)) ≡ []
stop_label stop behind is b =
    elim is [
      | inl e ↦ subst (λ l. label_rest (chars (l ++ behind)) ≡ []) (sym e) (bare_label behind b)
      | inr e ↦ subst (λ l. label_rest (chars (l ++ behind)) ≡ []) (sym e) (label_dot behind (bare_label behind b))
    ]

pub closes_object : (part : Option Term) (before stop behind : List ℕ) → IsWhitespace before → IsOptionalStop stop
    → IsBlankOrComment behind → ClosesPart part (before ++ (stop ++ behind))
closes_object None before stop behind are is b = tt
closes_object (Some (terms.Iri iri)) before stop behind are is b = tt
closes_object (Some (terms.Blank label)) before stop behind are is b =
    label_behind before (stop ++ behind) are (stop_label stop behind is b)
closes_object (Some (terms.Literal value suffix)) before stop behind are is b =
    closes_suffix suffix before stop behind are is b

-- ---- the end of a triple

closed_again : (before behind : List ℕ) → IsWhitespace before → IsBlankOrComment behind
    → full_stop_after_whitespace (before ++ 46 ∷ behind) ≡ Ok tt
unfolding full_stop_after_whitespace is_blank_or_comment
closed_again before behind are trailing = ap full_stop_at (skip_whitespace-blanks before (46 ∷ behind) are)
    ∙ rw (bare_again behind trailing) refl

pub term_not_bare : (before text more : List ℕ) → IsWhitespace before → (f : First Subject text)
    → is_blank_or_comment (before ++ (text ++ more)) ≡ false
unfolding is_blank_or_comment
term_not_bare before text more are f =
    let e : text ++ more ≡ f.c ∷ (f.cs ++ more) = ap (λ l. l ++ more) f.whole in
    ap is_comment_or_end (skip_whitespace-blanks before (text ++ more) are
    ∙ unblanked (text ++ more) f.c (f.cs ++ more) e f.no_blank ∙ e) ∙ f.no_comment

-- ---- a triple

module _ (text : List ℕ) (triple : Triple) (h : EncodesTriple text triple) where
  pub triple_again : line_triple_at text ≡ Ok triple
  unfolding line_triple_at
  triple_again =
      let s = role_again Subject h.before_s h.s (h.before_p
      ++ (h.p ++ (h.before_o ++ (h.o ++ (h.before_stop ++ 46 ∷ h.behind))))) triple.s h.whitespace.0 h.subject.0
      h.subject.1
      (closes_subject h.s _ (Some triple.s) h.subject
      (label_behind h.before_p _ h.whitespace.1 (predicate_label h.p _ (Some triple.p) h.predicate))) in
      let p = role_again Predicate h.before_p h.p (h.before_o
      ++ (h.o ++ (h.before_stop ++ 46 ∷ h.behind))) triple.p h.whitespace.1 h.predicate.0 h.predicate.1
      (closes_predicate h.p _ (Some triple.p) h.predicate) in
      let o = role_again Object h.before_o h.o (h.before_stop ++ 46 ∷ h.behind) triple.o h.whitespace.2 h.object tt
      (closes_object (Some triple.o) h.before_stop (46 ∷ []) h.behind h.whitespace.3 (inr refl) h.trailing) in
      rw (h.whole, s, p, o, closed_again h.before_stop h.behind h.whitespace.3 h.trailing) refl

  pub triple_not_bare : is_blank_or_comment text ≡ false
  triple_not_bare = ap is_blank_or_comment h.whole
      ∙ term_not_bare h.before_s h.s _ h.whitespace.0 (first_of Subject h.s triple.s h.subject.0.form h.subject.1)

-- ---- a line

pub line_again : (text : List ℕ) (x : Option Triple) → Line text x → line_in text ≡ Ok x
line_again text None h = bare_line text _ h.0 (bare_again text h.1)
line_again text (Some triple) h =
    read_line text _ h.0 triple (triple_not_bare text triple h.1) (triple_again text triple h.1)
