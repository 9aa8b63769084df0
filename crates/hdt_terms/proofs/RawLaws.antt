-- Parsing a request by dictionary strings is sound and complete.
use Rattle.std.proofs.Common.{◌≡◌, ℕ, true, false, eqb, ne_eqb, List, [], ◌∷◌, ◌++◌, Option, Some, None, Result, Ok}
use Rattle.std.proofs.Common.{Err, refl, sym, ap, subst, ◌∙◌, append_assoc, append-nil, inl, inr}
use Rattle.std.proofs.lemmas.Bool.{eqb-true, false_from_ne_true}
use Rattle.hdt_terms.specs.declared.fault.LineReason.TheVariants.{Syntax}
use Rattle.std.proofs.lemmas.Bool.Decides.{eqb_tells}
use Rattle.hdt_terms.specs.declared.fault.FailedCheck.{FailedCheck}
use Rattle.hdt_terms.specs.LineParsing.{is_blank_or_comment}
use Rattle.hdt_terms.specs.RawRequestParsing.{StringPattern, raw_escape_byte, raw_string_at, tab_at, end_at}
use Rattle.hdt_terms.specs.RawRequestParsing.{raw_request_at, raw_request_in}
use Rattle.hdt_terms.specs.RawRequests.{EncodesByte, EncodesRawString, EncodesRawRequest, RawRequestLine}
use Rattle.hdt_terms.specs.TermParsing.{◌>>=◌, stops, prepend_parsed}
use Rattle.hdt_terms.proofs.Cases.{bind_ok, chosen, done, ok_is}
use Rattle.hdt_terms.proofs.LineCompleteness.{bare_again}
use Rattle.hdt_terms.proofs.LineSoundness.{bare_found}
use Rattle.hdt_terms.proofs.LineLaws.{bare_line, read_line, line_read}
use Rattle.hdt_terms.proofs.RawStrings.{at_tab, at_byte, at_escape, at_bad, nothing_there}

-- ---- a string

-- a string ends before a tab or at the end
abbrev Ends : List ℕ → Type 0
Ends [] = Unit {0}
Ends (c ∷ rest) = c ≡ 9

-- a string was read, and this follows it
record RawFound (bytes : List ℕ) (read : List ℕ × List ℕ) : Type 0 where
  pub text : List ℕ
  pub whole : bytes ≡ text ++ read.1
  pub spelled : EncodesRawString text read.0
  pub ends : Ends read.1

abbrev RawSays : List ℕ → Result (List ℕ × List ℕ) FailedCheck → Type 0
RawSays bytes (Ok x) = RawFound bytes x
RawSays bytes (Err s) = Unit {0}

byte_then : (first bytes more : List ℕ) (b : ℕ) (r : Result (List ℕ × List ℕ) FailedCheck) → bytes ≡ first ++ more
    → EncodesByte first b → RawSays more r → RawSays bytes (prepend_parsed (b ∷ []) r)
byte_then first bytes more b (Err s) cut is h = tt
byte_then first bytes more b (Ok x) cut is f =
    record {
      text = first ++ f.text;
      whole = cut ∙ ap (λ l. first ++ l) f.whole ∙ sym (append_assoc first f.text x.1);
      spelled = (first, f.text, refl, is, f.spelled);
      ends = f.ends;
    }

says_at : (c : ℕ) (rest : List ℕ) → RawSays rest (raw_string_at rest) → RawSays (92 ∷ rest) (raw_string_at (92 ∷ rest))
    → RawSays (c ∷ rest) (raw_string_at (c ∷ rest))
says_at c rest behind escaped = elim (eqb_tells c 9) [
  | inl t ↦
      subst (λ (b : ℕ). RawSays (b ∷ rest) (raw_string_at (b ∷ rest))) (sym t.1)
      (subst (RawSays (9 ∷ rest)) (sym (at_tab rest)) (record { text = []; whole = refl; spelled = refl; ends = refl }))
  | inr t ↦
      elim (eqb_tells c 92) [
        | inl s ↦ subst (λ (b : ℕ). RawSays (b ∷ rest) (raw_string_at (b ∷ rest))) (sym s.1) escaped
        | inr s ↦ subst (RawSays (c ∷ rest)) (sym (at_byte c rest t.0 s.0))
            (byte_then (c ∷ []) (c ∷ rest) rest c (raw_string_at rest) refl (inl (refl, t.1, s.1)) behind)
      ]
]

says_letter : (d : ℕ) (more : List ℕ) (letter : Option ℕ) → raw_escape_byte d ≡ letter
    → RawSays more (raw_string_at more) → RawSays (92 ∷ d ∷ more) (raw_string_at (92 ∷ d ∷ more))
says_letter d more None p behind = subst (RawSays (92 ∷ d ∷ more)) (sym (at_bad (d ∷ more) (rw p refl))) tt
says_letter d more (Some b) p behind =
    subst (RawSays (92 ∷ d ∷ more)) (sym (at_escape d b more p))
    (byte_then (92 ∷ d ∷ []) (92 ∷ d ∷ more) more b (raw_string_at more) refl (inr (d, refl, p)) behind)

raw_says : (bytes : List ℕ) → RawSays bytes (raw_string_at bytes)
raw_says [] = subst (RawSays []) (sym (nothing_there [] refl))
    (record { text = []; whole = refl; spelled = refl; ends = tt })
raw_says (c ∷ []) = says_at c [] (raw_says []) (subst (RawSays (92 ∷ [])) (sym (at_bad [] refl)) tt)
raw_says (c ∷ d ∷ more) =
    says_at c (d ∷ more) (raw_says (d ∷ more)) (says_letter d more (raw_escape_byte d) refl (raw_says more))

raw_found : (bytes : List ℕ) (read : List ℕ × List ℕ) → raw_string_at bytes ≡ Ok read → RawFound bytes read
raw_found bytes read e = subst (RawSays bytes) e (raw_says bytes)

ends_again : (rest : List ℕ) → Ends rest → raw_string_at rest ≡ Ok ([], rest)
ends_again [] e = nothing_there [] refl
ends_again (c ∷ rest) e = ap (λ l. raw_string_at (l ∷ rest)) e ∙ at_tab rest ∙ ap (λ l. Ok ([], l ∷ rest)) (sym e)

raw_again : (x text rest : List ℕ) → EncodesRawString text x → Ends rest → raw_string_at (text ++ rest) ≡ Ok (x, rest)
raw_again [] text rest h e = ap (λ l. raw_string_at (l ++ rest)) h ∙ ends_again rest e
raw_again (b ∷ bs) text rest h e =
    let more = ap (prepend_parsed (b ∷ [])) (raw_again bs h.1 rest h.4 e) in
    elim h.3 [
      | inl as_is ↦ ap (λ l. raw_string_at (l ++ rest)) (h.2 ∙ ap (λ l. l ++ h.1) as_is.0)
          ∙ at_byte b (h.1 ++ rest) (ne_eqb b 9 as_is.1) (ne_eqb b 92 as_is.2) ∙ more
      | inr letter ↦ ap (λ l. raw_string_at (l ++ rest)) (h.2 ∙ ap (λ l. l ++ h.1) letter.1)
          ∙ at_escape letter.0 b (h.1 ++ rest) letter.2 ∙ more
    ]

-- ---- a request

tab_found : (bytes rest : List ℕ) → tab_at bytes ≡ Ok rest → bytes ≡ 9 ∷ rest
tab_found [] rest e = absurd cc
tab_found (c ∷ cs) rest e =
    elim (chosen (eqb c 9) (Ok cs) (stops Syntax (c ∷ cs)) (Ok rest) e) [
      | inl p ↦ ap (λ l. l ∷ cs) (eqb-true c 9 p.0) ∙ ap (λ l. 9 ∷ l) (ok_is cs rest p.1)
      | inr p ↦ absurd cc
    ]

nothing_found : (bytes : List ℕ) (done : Unit {0}) → end_at bytes ≡ Ok done → bytes ≡ []
nothing_found [] done e = refl
nothing_found (c ∷ rest) done e = absurd cc

raw_request_found : (text : List ℕ) (asked : StringPattern) → raw_request_at text ≡ Ok asked
    → EncodesRawRequest text asked
unfolding raw_request_at
raw_request_found text asked e =
    let s = bind_ok (raw_string_at text)
    (λ s. tab_at s.1 >>= λ x. raw_string_at x >>= λ p. tab_at p.1 >>= λ y. raw_string_at y >>= λ o. end_at o.1
    >>= λ _. Ok (record { s = s.0; p = p.0; o = o.0 })) asked e in
    let x = bind_ok (tab_at s.0.1)
    (λ x. raw_string_at x >>= λ p. tab_at p.1 >>= λ y. raw_string_at y >>= λ o. end_at o.1 >>= λ _. Ok
    (record { s = s.0.0; p = p.0; o = o.0 })) asked s.2 in
    let p = bind_ok (raw_string_at x.0)
    (λ p. tab_at p.1 >>= λ y. raw_string_at y >>= λ o. end_at o.1 >>= λ _. Ok
    (record { s = s.0.0; p = p.0; o = o.0 })) asked x.2 in
    let y = bind_ok (tab_at p.0.1)
    (λ y. raw_string_at y >>= λ o. end_at o.1 >>= λ _. Ok (record { s = s.0.0; p = p.0.0; o = o.0 })) asked p.2 in
    let o = bind_ok (raw_string_at y.0) (λ o. end_at o.1 >>= λ _. Ok (record { s = s.0.0; p = p.0.0; o = o.0 })) asked
    y.2 in
    let d = bind_ok (end_at o.0.1) (λ _. Ok (record { s = s.0.0; p = p.0.0; o = o.0.0 })) asked o.2 in
    let fs = raw_found text s.0 s.1 in
    let fp = raw_found x.0 p.0 p.1 in
    let fo = raw_found y.0 o.0 o.1 in
    let made : EncodesRawRequest text (record { s = s.0.0; p = p.0.0; o = o.0.0 }) = record {
      s = fs.text;
      p = fp.text;
      o = fo.text;
      subject = fs.spelled;
      predicate = fp.spelled;
      object = fo.spelled;
      whole =
          fs.whole
          ∙ ap (λ l. fs.text ++ l) (tab_found s.0.1 x.0 x.1
          ∙ ap (λ l. 9 ∷ l) (fp.whole ∙ ap (λ l. fp.text ++ l) (tab_found p.0.1 y.0 y.1
          ∙ ap (λ l. 9 ∷ l) (fo.whole ∙ ap (λ l. fo.text ++ l) (nothing_found o.0.1 d.0 d.1) ∙ append-nil fo.text))));
    } in
    subst (EncodesRawRequest text) (ok_is _ asked d.2) made

raw_request_again : (text : List ℕ) (asked : StringPattern) → EncodesRawRequest text asked
    → raw_request_at text ≡ Ok asked
unfolding raw_request_at
raw_request_again text asked h =
    let s = raw_again asked.s h.s (9 ∷ (h.p ++ 9 ∷ h.o)) h.subject refl in
    let p = raw_again asked.p h.p (9 ∷ h.o) h.predicate refl in
    let o = ap raw_string_at (sym (append-nil h.o)) ∙ raw_again asked.o h.o [] h.object tt in
    rw (h.whole, s, p, o) refl

-- ---- its line

pub raw_line_found : (text : List ℕ) (x : Option StringPattern) → raw_request_in text ≡ Ok x → RawRequestLine text x
raw_line_found =
    line_read RawRequestLine raw_request_at (λ text utf8 b. (utf8, bare_found text b))
    (λ text asked utf8 b e. (
      utf8,
      λ bare. absurd (let both : true ≡ false = sym (bare_again text bare) ∙ b in cc),
      raw_request_found text asked e,
    ))

pub raw_line_again : (text : List ℕ) (x : Option StringPattern) → RawRequestLine text x → raw_request_in text ≡ Ok x
raw_line_again text None h = bare_line text _ h.0 (bare_again text h.1)
raw_line_again text (Some asked) h =
    read_line text _ h.0 asked (false_from_ne_true (is_blank_or_comment text) (λ b. h.1 (bare_found text b)))
    (raw_request_again text asked h.2)
