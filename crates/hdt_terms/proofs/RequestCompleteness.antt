-- Completeness for requests: parsing reads the request that a line encodes.
use Rattle.std.proofs.Common.{◌≡◌, ℕ, false, List, [], ◌∷◌, ◌++◌, Option, None, Some, Ok, refl, ap, ◌∙◌, inl, inr}
use Rattle.hdt_wire.specs.declared.Role.{Role}
use Rattle.hdt_wire.specs.declared.Role.TheVariants.{Subject, Predicate, Object}
use Rattle.hdt_terms.specs.declared.triple.Term.{Term}
use Rattle.hdt_terms.specs.LineParsing.{is_comment_or_end, is_blank_or_comment}
use Rattle.hdt_terms.specs.Lines.{IsCommentOrEnd, IsBlankOrComment, IsSubject}
use Rattle.hdt_terms.specs.TermParsing.{◌>>=◌, skip_whitespace}
use Rattle.hdt_terms.specs.RequestParsing.{as_pattern_term, pattern_term_at, pattern_term_after_whitespace}
use Rattle.hdt_terms.specs.RequestParsing.{optional_stop_at, optional_stop_after_whitespace, request_at, request_in}
use Rattle.hdt_terms.specs.Requests.{TermPattern, EncodesPatternTerm, IsOptionalStop, EncodesRequest, RequestLine}
use Rattle.hdt_terms.specs.Grammar.{IsWhitespace}
use Rattle.hdt_terms.proofs.LineCompleteness.{bare_again, first_of, here_again, label_behind, ClosesPart}
use Rattle.hdt_terms.proofs.LineCompleteness.{closes_subject, closes_predicate, closes_object, predicate_label}
use Rattle.hdt_terms.proofs.LineCompleteness.{term_not_bare}
use Rattle.hdt_terms.proofs.LineSoundness.{IsOf}
use Rattle.hdt_terms.proofs.TermCompleteness.{skip_whitespace-blanks, term_again}
use Rattle.hdt_terms.proofs.PatternTerms.{here_is}
use Rattle.hdt_terms.proofs.LineLaws.{bare_line, read_line}
use Rattle.hdt_terms.proofs.AsciiBorders.{unblanked}

-- ---- a term or ?

any_again : (role : Role) (more : List ℕ) → pattern_term_at role (63 ∷ more) ≡ Ok (None, more)
unfolding pattern_term_at
any_again role more = refl

part_again : (role : Role) (before text more : List ℕ) (part : Option Term) → IsWhitespace before
    → EncodesPatternTerm (IsOf role) text part → ClosesPart part more
    → pattern_term_after_whitespace role (before ++ (text ++ more)) ≡ Ok (part, more)
unfolding pattern_term_after_whitespace
part_again role before text more None are s closes =
    ap (pattern_term_at role) (skip_whitespace-blanks before (text ++ more) are
    ∙ unblanked (text ++ more) 63 more (ap (λ l. l ++ more) s) refl ∙ ap (λ l. l ++ more) s) ∙ any_again role more
part_again role before text more (Some term) are s closes =
    let f = first_of role text term s.0.form s.1 in
    let e : text ++ more ≡ f.c ∷ (f.cs ++ more) = ap (λ l. l ++ more) f.whole in
    ap (pattern_term_at role) (skip_whitespace-blanks before (text ++ more) are
    ∙ unblanked (text ++ more) f.c (f.cs ++ more) e f.no_blank)
    ∙ here_is role (text ++ more) (f.cs ++ more) f.c e f.no_any
    ∙ ap (λ r. r >>= as_pattern_term) (here_again role (text ++ more) f.c (f.cs ++ more) e f.begins
    ∙ term_again text more term s.0.utf8 s.0.form closes)

-- ---- the end

-- a comment is neither whitespace nor a full stop
comment_stop : (comment : List ℕ) → IsCommentOrEnd comment → optional_stop_at (skip_whitespace comment) ≡ Ok tt
comment_stop [] h = refl
comment_stop (c ∷ rest) h = rw h refl

stop_again : (before stop behind : List ℕ) → IsWhitespace before → IsOptionalStop stop → IsBlankOrComment behind
    → optional_stop_after_whitespace (before ++ (stop ++ behind)) ≡ Ok tt
unfolding optional_stop_after_whitespace is_blank_or_comment
stop_again before stop behind are is b =
    elim is [
      | inl e ↦
          ap (λ l. optional_stop_at (skip_whitespace (before ++ (l ++ behind)))) e
          ∙ ap optional_stop_at (skip_whitespace-blanks before behind are ∙ ap skip_whitespace b.whole
          ∙ skip_whitespace-blanks b.before b.comment b.whitespace) ∙ comment_stop b.comment b.comment_is
      | inr e ↦
          ap (λ l. optional_stop_at (skip_whitespace (before ++ (l ++ behind)))) e
          ∙ ap optional_stop_at (skip_whitespace-blanks before (46 ∷ behind) are) ∙ rw (bare_again behind b) refl
    ]

-- ---- a request

any_not_bare : (before more : List ℕ) → IsWhitespace before → is_blank_or_comment (before ++ 63 ∷ more) ≡ false
unfolding is_blank_or_comment
any_not_bare before more are = ap is_comment_or_end (skip_whitespace-blanks before (63 ∷ more) are)

part_not_bare : (before text more : List ℕ) (part : Option Term) → IsWhitespace before
    → EncodesPatternTerm IsSubject text part → is_blank_or_comment (before ++ (text ++ more)) ≡ false
part_not_bare before text more None are s = ap (λ l. is_blank_or_comment (before ++ (l ++ more))) s
    ∙ any_not_bare before more are
part_not_bare before text more (Some term) are s =
    term_not_bare before text more are (first_of Subject text term s.0.form s.1)

module _ (text : List ℕ) (asked : TermPattern) (h : EncodesRequest text asked) where
  pub request_again : request_at text ≡ Ok asked
  unfolding request_at
  request_again =
      let s = part_again Subject h.before_s h.s (h.before_p
      ++ (h.p ++ (h.before_o ++ (h.o ++ (h.before_stop ++ (h.stop ++ h.behind)))))) asked.s h.whitespace.0 h.subject
      (closes_subject h.s _ asked.s h.subject
      (label_behind h.before_p _ h.whitespace.1 (predicate_label h.p _ asked.p h.predicate))) in
      let p = part_again Predicate h.before_p h.p (h.before_o
      ++ (h.o ++ (h.before_stop ++ (h.stop ++ h.behind)))) asked.p h.whitespace.1 h.predicate
      (closes_predicate h.p _ asked.p h.predicate) in
      let o = part_again Object h.before_o h.o (h.before_stop ++ (h.stop ++ h.behind)) asked.o h.whitespace.2 h.object
      (closes_object asked.o h.before_stop h.stop h.behind h.whitespace.3 h.is_stop h.trailing) in
      rw (h.whole, s, p, o, stop_again h.before_stop h.stop h.behind h.whitespace.3 h.is_stop h.trailing) refl

  pub request_not_bare : is_blank_or_comment text ≡ false
  request_not_bare = ap is_blank_or_comment h.whole ∙ part_not_bare h.before_s h.s _ asked.s h.whitespace.0 h.subject

pub asked_again : (text : List ℕ) (x : Option TermPattern) → RequestLine text x → request_in text ≡ Ok x
asked_again text None h = bare_line text _ h.0 (bare_again text h.1)
asked_again text (Some asked) h =
    read_line text _ h.0 asked (request_not_bare text asked h.1) (request_again text asked h.1)
