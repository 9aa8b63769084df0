-- Soundness for lines: a line encodes what parsing reads.
use Rattle.std.proofs.Common.{◌≡◌, ℕ, true, false, List, [], ◌∷◌, ◌++◌, Option, Some, Result, Ok, Err, refl, ap, subst}
use Rattle.std.proofs.Common.{◌∙◌, inl, inr, sym, ◌⊎◌}
use Rattle.std.specs.Prelude.{IsUtf8}
use Rattle.std.proofs.lemmas.Bool.{cases_Bool, eqb-true}
use Rattle.std.proofs.lemmas.Bool.Decides.{eqb_tells}
use Rattle.hdt_terms.specs.declared.fault.FailedCheck.{FailedCheck}
use Rattle.hdt_terms.specs.declared.fault.TermFault.{TermFault}
use Rattle.hdt_wire.specs.declared.Role.{Role}
use Rattle.hdt_wire.specs.declared.Role.TheVariants.{Subject, Predicate, Object}
use Rattle.hdt_terms.specs.declared.triple.Term.{Term}
use Rattle.hdt_terms.specs.declared.triple.Term.TheVariants as terms
use Rattle.hdt_terms.specs.declared.triple.Triple.{Triple}
use Rattle.hdt_terms.specs.LineParsing.{begins, role_term_at, role_term_after_whitespace, is_comment_or_end}
use Rattle.hdt_terms.specs.LineParsing.{is_blank_or_comment, full_stop_at, full_stop_after_whitespace, line_triple_at}
use Rattle.hdt_terms.specs.LineParsing.{line_triple, line_in, with_column, unless_blank}
use Rattle.hdt_terms.specs.Lines.{IsCommentOrEnd, IsBlankOrComment, IsSubject, IsPredicate, EncodesTriple, Line}
use Rattle.hdt_terms.specs.TermParsing.{◌>>=◌, skip_whitespace, term_at}
use Rattle.hdt_terms.specs.Grammar.{IsWhitespace, Encodes}
use Rattle.hdt_terms.proofs.LineLaws.{line_read}
use Rattle.hdt_terms.proofs.LineUtf8.{rest_utf8}
use Rattle.hdt_terms.proofs.TermSoundness.{passed, term_found, term_stops}
use Rattle.hdt_terms.proofs.TripleLineReasons.{OfText, of_triple, table_reason}
use Rattle.hdt_terms.specs.LinesReader.{IsTripleLineError}
use Rattle.hdt_terms.specs.Faults.{out_of_memory}
use Rattle.hdt_terms.proofs.CompleteTexts.{checked_ok}
use Rattle.hdt_terms.proofs.AsciiBorders.{blanks_utf8}

-- ---- lines without a triple

pub comment_found : (text : List ℕ) → is_comment_or_end text ≡ true → IsCommentOrEnd text
comment_found [] e = tt
comment_found (c ∷ cs) e = eqb-true c 35 e

pub bare_found : (text : List ℕ) → is_blank_or_comment text ≡ true → IsBlankOrComment text
unfolding is_blank_or_comment
bare_found text e =
    let p = passed text in
    record {
      before = p.whitespace;
      comment = skip_whitespace text;
      whitespace = p.are;
      comment_is =
          comment_found (skip_whitespace text) e;
      whole = p.whole;
    }

-- ---- the term of a role

abbrev pub IsOf : Role → Term → Type 0
IsOf Subject term = IsSubject term
IsOf Predicate term = IsPredicate term
IsOf Object term = Unit {0}

is_of : (role : Role) (term : Term) (text rest cs : List ℕ) (c : ℕ) → Encodes text term → c ∷ cs ≡ text ++ rest
    → begins role c ≡ true → IsOf role term
is_of Subject (terms.Iri iri) text rest cs c s e h = tt
is_of Predicate (terms.Iri iri) text rest cs c s e h = tt
is_of Object term text rest cs c s e h = tt
is_of Subject (terms.Blank label) text rest cs c s e h = tt
is_of Predicate (terms.Blank label) text rest cs c s e h =
    let w : c ∷ cs ≡ 95 ∷ ((58 ∷ label) ++ rest) = e ∙ ap (λ l. l ++ rest) s.form.whole in
    let is : c ≡ 95 = cc in
    let both : begins Predicate 95 ≡ true = subst (λ b. begins Predicate b ≡ true) is h in cc
is_of Subject (terms.Literal value suffix) text rest cs c s e h =
    let w : c ∷ cs ≡ 34 ∷ ((s.form.inner ++ 34 ∷ s.form.tail) ++ rest) = e ∙ ap (λ l. l ++ rest) s.form.whole in
    let is : c ≡ 34 = cc in
    let both : begins Subject 34 ≡ true = subst (λ b. begins Subject b ≡ true) is h in cc
is_of Predicate (terms.Literal value suffix) text rest cs c s e h =
    let w : c ∷ cs ≡ 34 ∷ ((s.form.inner ++ 34 ∷ s.form.tail) ++ rest) = e ∙ ap (λ l. l ++ rest) s.form.whole in
    let is : c ≡ 34 = cc in
    let both : begins Predicate 34 ≡ true = subst (λ b. begins Predicate b ≡ true) is h in cc

-- a term of the role was read after whitespace, and the rest follows it
pub record RoleFound (role : Role) (bytes : List ℕ) (term : Term) (rest : List ℕ) : Type 0 where
  pub before : List ℕ
  pub text : List ℕ
  pub whitespace : IsWhitespace before
  pub spelled : Encodes text term
  pub is_of : IsOf role term
  pub whole : bytes ≡ before ++ (text ++ rest)
  pub utf8 : IsUtf8 rest

-- the same, or an error that the text has
abbrev pub RoleSays : Role → List ℕ → Result (Term × List ℕ) FailedCheck → Type 0
RoleSays role bytes (Ok x) = RoleFound role bytes x.0 x.1
RoleSays role bytes (Err s) = OfText s.reason

term_then : (role : Role) (c : ℕ) (cs before : List ℕ) (r : Result (Term × List ℕ) FailedCheck) → IsUtf8 (c ∷ cs)
    → IsWhitespace before → begins role c ≡ true → term_at (c ∷ cs) ≡ r → RoleSays role (before ++ c ∷ cs) r
term_then role c cs before (Err s) utf8 are h e = table_reason (c ∷ cs) s (term_stops (c ∷ cs) s utf8 e)
term_then role c cs before (Ok x) utf8 are h e =
    let f = term_found (c ∷ cs) x.1 x.0 utf8 e in
    record {
      before = before;
      text = f.text;
      whitespace = are;
      spelled = f.spelled;
      is_of = is_of role x.0 f.text x.1 cs c f.spelled f.whole h;
      whole = ap (λ l. before ++ l) f.whole;
      utf8 = rest_utf8 (c ∷ cs) x.1 x.0 utf8 e;
    }

pub here_says : (role : Role) (here before : List ℕ) → IsUtf8 here → IsWhitespace before
    → RoleSays role (before ++ here) (role_term_at role here)
unfolding role_term_at
here_says role [] before utf8 are = tt
here_says role (c ∷ cs) before utf8 are =
    elim (cases_Bool (begins role c))
    [ inl p ↦ rw p (term_then role c cs before (term_at (c ∷ cs)) utf8 are p refl) | inr p ↦ rw p tt ]

role_says : (role : Role) (bytes : List ℕ) → IsUtf8 bytes → RoleSays role bytes (role_term_after_whitespace role bytes)
unfolding role_term_after_whitespace
role_says role bytes utf8 =
    let p = passed bytes in
    subst (λ (bs : List ℕ). RoleSays role bs (role_term_at role (skip_whitespace bytes))) (sym p.whole)
    (here_says role (skip_whitespace bytes) p.whitespace (blanks_utf8 bytes utf8) p.are)

-- ---- the end of a triple

pub record ClosedFound (bytes : List ℕ) : Type 0 where
  pub before : List ℕ
  pub behind : List ℕ
  pub whitespace : IsWhitespace before
  pub trailing : IsBlankOrComment behind
  pub whole : bytes ≡ before ++ 46 ∷ behind

abbrev ClosedSays : List ℕ → Result (Unit {0}) FailedCheck → Type 0
ClosedSays bytes (Ok done) = ClosedFound bytes
ClosedSays bytes (Err s) = OfText s.reason

closed_here : (here before : List ℕ) → IsWhitespace before → ClosedSays (before ++ here) (full_stop_at here)
unfolding is_blank_or_comment
closed_here [] before are = tt
closed_here (c ∷ cs) before are = elim (eqb_tells c 46) [
  | inl p ↦
      elim (cases_Bool (is_comment_or_end (skip_whitespace cs))) [
        | inl q ↦ rw (p.0, q) (record {
          before = before;
          behind = cs;
          whitespace = are;
          trailing = bare_found cs q;
          whole = ap (λ (b : ℕ). before ++ b ∷ cs) p.1;
        })
        | inr q ↦ rw (p.0, q) tt
      ]
  | inr p ↦ rw p.0 tt
]

closed_says : (bytes : List ℕ) → ClosedSays bytes (full_stop_after_whitespace bytes)
unfolding full_stop_after_whitespace
closed_says bytes =
    let p = passed bytes in
    subst (λ (bs : List ℕ). ClosedSays bs (full_stop_at (skip_whitespace bytes))) (sym p.whole)
    (closed_here (skip_whitespace bytes) p.whitespace p.are)

-- ---- a triple

-- a triple, or an error that the text has
abbrev LineSays : List ℕ → Result Triple FailedCheck → Type 0
LineSays text (Ok triple) = EncodesTriple text triple
LineSays text (Err s) = OfText s.reason

module _ (text : List ℕ) where
  end_then : (s p o : Term × List ℕ) (r : Result (Unit {0}) FailedCheck) → RoleFound Subject text s.0 s.1
      → RoleFound Predicate s.1 p.0 p.1 → RoleFound Object p.1 o.0 o.1 → ClosedSays o.1 r
      → LineSays text (r >>= λ _. Ok (record { s = s.0; p = p.0; o = o.0 }))
  end_then s p o (Err e) fs fp fo h = h
  end_then s p o (Ok done) fs fp fo fd = record {
    before_s = fs.before;
    before_p = fp.before;
    before_o = fo.before;
    before_stop = fd.before;
    whitespace = (fs.whitespace, fp.whitespace, fo.whitespace, fd.whitespace);
    s = fs.text;
    p = fp.text;
    o = fo.text;
    behind = fd.behind;
    subject = (fs.spelled, fs.is_of);
    predicate = (fp.spelled, fp.is_of);
    object = fo.spelled;
    trailing = fd.trailing;
    whole =
        fs.whole ∙ ap (λ l. fs.before ++ (fs.text ++ l)) (fp.whole
        ∙ ap (λ l. fp.before ++ (fp.text ++ l)) (fo.whole ∙ ap (λ l. fo.before ++ (fo.text ++ l)) fd.whole));
  }

  object_then : (s p : Term × List ℕ) (r : Result (Term × List ℕ) FailedCheck) → RoleFound Subject text s.0 s.1
      → RoleFound Predicate s.1 p.0 p.1 → RoleSays Object p.1 r
      → LineSays text (r >>= λ o. full_stop_after_whitespace o.1 >>= λ _. Ok (record { s = s.0; p = p.0; o = o.0 }))
  object_then s p (Err e) fs fp h = h
  object_then s p (Ok o) fs fp fo = end_then s p o (full_stop_after_whitespace o.1) fs fp fo (closed_says o.1)

  predicate_then : (s : Term × List ℕ) (r : Result (Term × List ℕ) FailedCheck) → RoleFound Subject text s.0 s.1
      → RoleSays Predicate s.1 r
      → LineSays text (r >>= λ p. role_term_after_whitespace Object p.1 >>= λ o. full_stop_after_whitespace o.1 >>= λ _.
      Ok (record { s = s.0; p = p.0; o = o.0 }))
  predicate_then s (Err e) fs h = h
  predicate_then s (Ok p) fs fp =
      object_then s p (role_term_after_whitespace Object p.1) fs fp (role_says Object p.1 fp.utf8)

  subject_then : (r : Result (Term × List ℕ) FailedCheck) → RoleSays Subject text r
      → LineSays text (r >>= λ s. role_term_after_whitespace Predicate s.1 >>= λ p. role_term_after_whitespace Object
      p.1 >>= λ o. full_stop_after_whitespace o.1 >>= λ _. Ok (record { s = s.0; p = p.0; o = o.0 }))
  subject_then (Err e) h = h
  subject_then (Ok s) fs = predicate_then s (role_term_after_whitespace Predicate s.1) fs
      (role_says Predicate s.1 fs.utf8)

line_says : (text : List ℕ) → IsUtf8 text → LineSays text (line_triple_at text)
unfolding line_triple_at
line_says text utf8 = subject_then text (role_term_after_whitespace Subject text) (role_says Subject text utf8)

pub triple_found : (text : List ℕ) (triple : Triple) → IsUtf8 text → line_triple_at text ≡ Ok triple
    → EncodesTriple text triple
triple_found text triple utf8 e = subst (LineSays text) e (line_says text utf8)

located_ok : (text : List ℕ) (triple : Triple) (r : Result Triple FailedCheck) → with_column text r ≡ Ok triple
    → r ≡ Ok triple
located_ok text triple (Ok x) e = cc
located_ok text triple (Err stop) e = absurd cc

pub line_found : (text : List ℕ) (triple : Triple) → IsUtf8 text → line_triple text ≡ Ok triple
    → Line text (Some triple)
unfolding line_triple
line_found text triple utf8 e = (utf8, triple_found text triple utf8 (located_ok text triple (line_triple_at text) e))

pub line_is : (text : List ℕ) (x : Option Triple) → line_in text ≡ Ok x → Line text x
line_is = line_read Line line_triple_at (λ text utf8 b. (utf8, bare_found text b))
    (λ text triple utf8 b e. (utf8, triple_found text triple utf8 e))

-- ---- the error of a line

pub line_fault : (text : List ℕ) (fault : TermFault) → IsUtf8 text → is_blank_or_comment text ≡ false
    → line_triple text ≡ Err fault → line_in text ≡ Err fault
unfolding unless_blank line_triple
line_fault text fault utf8 some e = checked_ok text _ utf8 ∙ rw (some, e) refl

located_reason : (text : List ℕ) (r : Result Triple FailedCheck) (f : TermFault)
    → ((s : FailedCheck) → r ≡ Err s → OfText s.reason) → with_column text r ≡ Err f → OfText f.reason
located_reason text (Ok triple) f h e = absurd cc
located_reason text (Err s) f h e = let is : s.reason ≡ f.reason = cc in subst OfText is (h s refl)

pub fault_of_triple : (text : List ℕ) (f : TermFault) → IsUtf8 text → (f ≡ out_of_memory) ⊎ (line_triple text ≡ Err f)
    → IsTripleLineError f.reason f.column text
unfolding line_triple
fault_of_triple text f utf8 (inl memory) =
    subst (λ (x : TermFault). IsTripleLineError x.reason x.column text) (sym memory) refl
fault_of_triple text f utf8 (inr e) =
    of_triple text f.column f.reason
    (located_reason text (line_triple_at text) f (λ s h. subst (LineSays text) h (line_says text utf8)) e) e
