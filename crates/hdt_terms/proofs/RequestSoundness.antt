-- Soundness for requests: a line encodes the request that parsing reads.
use Rattle.std.proofs.Common.{◌≡◌, ℕ, eqb, List, [], ◌∷◌, ◌++◌, Option, Ok, refl, ap, subst, ◌∙◌, inl, inr, sym, Result}
use Rattle.std.proofs.Common.{Err}
use Rattle.std.specs.Prelude.{IsUtf8}
use Rattle.std.proofs.lemmas.Bool.{cases_Bool}
use Rattle.std.proofs.lemmas.Bool.Decides.{eqb_tells}
use Rattle.hdt_terms.specs.declared.fault.FailedCheck.{FailedCheck}
use Rattle.hdt_wire.specs.declared.Role.{Role}
use Rattle.hdt_wire.specs.declared.Role.TheVariants.{Subject, Predicate, Object}
use Rattle.hdt_terms.specs.declared.triple.Term.{Term}
use Rattle.hdt_terms.specs.LineParsing.{role_term_at, is_comment_or_end, is_blank_or_comment}
use Rattle.hdt_terms.specs.Lines.{IsBlankOrComment}
use Rattle.hdt_terms.specs.TermParsing.{◌>>=◌, skip_whitespace}
use Rattle.hdt_terms.specs.RequestParsing.{as_pattern_term, pattern_term_at, pattern_term_after_whitespace}
use Rattle.hdt_terms.specs.RequestParsing.{optional_stop_at, optional_stop_after_whitespace, request_at}
use Rattle.hdt_terms.specs.Requests.{TermPattern, EncodesPatternTerm, IsOptionalStop, EncodesRequest}
use Rattle.hdt_terms.specs.Grammar.{IsWhitespace}
use Rattle.hdt_terms.proofs.Cases.{bind_ok, ok_is}
use Rattle.hdt_terms.proofs.LineSoundness.{IsOf, RoleSays, bare_found, comment_found, here_says}
use Rattle.hdt_terms.proofs.TermSoundness.{passed}
use Rattle.hdt_terms.proofs.PatternTerms.{behind_any}
use Rattle.hdt_terms.proofs.AsciiBorders.{blanks_utf8}

-- ---- a term or ?

-- ? or a term of the role was read after whitespace, and the rest follows it
record PartFound (role : Role) (bytes : List ℕ) (part : Option Term) (rest : List ℕ) : Type 0 where
  pub before : List ℕ
  pub text : List ℕ
  pub whitespace : IsWhitespace before
  pub spelled : EncodesPatternTerm (IsOf role) text part
  pub whole : bytes ≡ before ++ (text ++ rest)
  pub utf8 : IsUtf8 rest

abbrev PartSays : Role → List ℕ → Result (Option Term × List ℕ) FailedCheck → Type 0
PartSays role bytes (Ok x) = PartFound role bytes x.0 x.1
PartSays role bytes (Err s) = Unit {0}

term_part : (role : Role) (bytes : List ℕ) (r : Result (Term × List ℕ) FailedCheck) → RoleSays role bytes r
    → PartSays role bytes (r >>= as_pattern_term)
term_part role bytes (Err s) h = tt
term_part role bytes (Ok x) f =
    record {
      before = f.before;
      text = f.text;
      whitespace = f.whitespace;
      spelled = (f.spelled, f.is_of);
      whole =
          f.whole;
      utf8 = f.utf8;
    }

part_here : (role : Role) (here before : List ℕ) → IsUtf8 here → IsWhitespace before
    → PartSays role (before ++ here) (pattern_term_at role here)
unfolding pattern_term_at
part_here role [] before utf8 are = tt
part_here role (c ∷ cs) before utf8 are = elim (eqb_tells c 63) [
  | inl p ↦ rw p.0 (record {
    before = before;
    text = 63 ∷ [];
    whitespace = are;
    spelled = refl;
    whole =
        ap (λ (b : ℕ). before ++ b ∷ cs) p.1;
    utf8 = behind_any (c ∷ cs) cs c refl p.1 utf8;
  })
  | inr p ↦ rw p.0 (term_part role (before ++ c ∷ cs) (role_term_at role (c ∷ cs))
      (here_says role (c ∷ cs) before utf8 are))
]

part_found : (role : Role) (bytes : List ℕ) (part : Option Term) (rest : List ℕ) → IsUtf8 bytes
    → pattern_term_after_whitespace role bytes ≡ Ok (part, rest) → PartFound role bytes part rest
unfolding pattern_term_after_whitespace
part_found role bytes part rest utf8 e =
    let p = passed bytes in
    subst (λ (bs : List ℕ). PartFound role bs part rest) (sym p.whole)
    (subst (PartSays role (p.whitespace ++ skip_whitespace bytes)) e
    (part_here role (skip_whitespace bytes) p.whitespace (blanks_utf8 bytes utf8) p.are))

-- ---- the end

record StopFound (bytes : List ℕ) : Type 0 where
  pub before : List ℕ
  pub stop : List ℕ
  pub behind : List ℕ
  pub whitespace : IsWhitespace before
  pub is_stop : IsOptionalStop stop
  pub trailing : IsBlankOrComment behind
  pub whole : bytes ≡ before ++ (stop ++ behind)

abbrev StopSays : List ℕ → Result (Unit {0}) FailedCheck → Type 0
StopSays bytes (Ok done) = StopFound bytes
StopSays bytes (Err s) = Unit {0}

stop_here : (here before : List ℕ) → IsWhitespace before → StopSays (before ++ here) (optional_stop_at here)
unfolding is_blank_or_comment
stop_here [] before are =
    record {
      before = before;
      stop = [];
      behind = [];
      whitespace = are;
      is_stop = inl refl;
      trailing =
          record { before = []; comment = []; whitespace = refl; comment_is = tt; whole = refl };
      whole = refl;
    }
stop_here (c ∷ cs) before are = elim (eqb_tells c 46) [
  | inl p ↦
      elim (cases_Bool (is_comment_or_end (skip_whitespace cs))) [
        | inl q ↦ rw (p.0, q) (record {
          before = before;
          stop = 46 ∷ [];
          behind = cs;
          whitespace = are;
          is_stop =
              inr refl;
          trailing = bare_found cs q;
          whole = ap (λ (b : ℕ). before ++ b ∷ cs) p.1;
        })
        | inr q ↦ rw (p.0, q) tt
      ]
  | inr p ↦
      elim (cases_Bool (eqb c 35)) [
        | inl q ↦
            rw (p.0, q) (record {
              before = before;
              stop = [];
              behind = c ∷ cs;
              whitespace = are;
              is_stop = inl refl;
              trailing = record {
                before = [];
                comment = c ∷ cs;
                whitespace = refl;
                comment_is =
                    comment_found (c ∷ cs) q;
                whole = refl;
              };
              whole = refl;
            })
        | inr q ↦ rw (p.0, q) tt
      ]
]

stop_found : (bytes : List ℕ) (done : Unit {0}) → optional_stop_after_whitespace bytes ≡ Ok done → StopFound bytes
unfolding optional_stop_after_whitespace
stop_found bytes done e =
    let p = passed bytes in
    subst StopFound (sym p.whole)
    (subst (StopSays (p.whitespace ++ skip_whitespace bytes)) e
    (stop_here (skip_whitespace bytes) p.whitespace p.are))

-- ---- a request

pub request_found : (text : List ℕ) (asked : TermPattern) → IsUtf8 text → request_at text ≡ Ok asked
    → EncodesRequest text asked
unfolding request_at
request_found text asked utf8 e =
    let s = bind_ok (pattern_term_after_whitespace Subject text)
    (λ x. pattern_term_after_whitespace Predicate x.1 >>= λ y. pattern_term_after_whitespace Object y.1 >>= λ z.
    optional_stop_after_whitespace z.1 >>= λ _. Ok (record { s = x.0; p = y.0; o = z.0 })) asked e in
    let p = bind_ok (pattern_term_after_whitespace Predicate s.0.1)
    (λ y. pattern_term_after_whitespace Object y.1 >>= λ z. optional_stop_after_whitespace z.1 >>= λ _. Ok
    (record { s = s.0.0; p = y.0; o = z.0 })) asked s.2 in
    let o = bind_ok (pattern_term_after_whitespace Object p.0.1)
    (λ z. optional_stop_after_whitespace z.1 >>= λ _. Ok (record { s = s.0.0; p = p.0.0; o = z.0 })) asked p.2 in
    let d = bind_ok (optional_stop_after_whitespace o.0.1)
    (λ _. Ok (record { s = s.0.0; p = p.0.0; o = o.0.0 })) asked o.2 in
    let fs = part_found Subject text s.0.0 s.0.1 utf8 s.1 in
    let fp = part_found Predicate s.0.1 p.0.0 p.0.1 fs.utf8 p.1 in
    let fo = part_found Object p.0.1 o.0.0 o.0.1 fp.utf8 o.1 in
    let fd = stop_found o.0.1 d.0 d.1 in
    let made : EncodesRequest text (record { s = s.0.0; p = p.0.0; o = o.0.0 }) = record {
      before_s = fs.before;
      before_p = fp.before;
      before_o = fo.before;
      before_stop = fd.before;
      whitespace = (fs.whitespace, fp.whitespace, fo.whitespace, fd.whitespace);
      s = fs.text;
      p = fp.text;
      o = fo.text;
      stop = fd.stop;
      behind = fd.behind;
      subject = fs.spelled;
      predicate = fp.spelled;
      object = fo.spelled;
      is_stop = fd.is_stop;
      trailing = fd.trailing;
      whole =
          fs.whole ∙ ap (λ l. fs.before ++ (fs.text ++ l)) (fp.whole
          ∙ ap (λ l. fp.before ++ (fp.text ++ l)) (fo.whole ∙ ap (λ l. fo.before ++ (fo.text ++ l)) fd.whole));
    } in
    subst (EncodesRequest text) (ok_is _ asked d.2) made
