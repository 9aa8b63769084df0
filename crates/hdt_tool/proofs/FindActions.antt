-- What the words of `find` give.
use Rattle.std.proofs.Common.{◌≡◌, ◌⊎◌, ◌∙◌, ℕ, Bool, false, List, Option, None, Some, codes, refl, sym, subst, inl}
use Rattle.std.proofs.Common.{inr}
use Rattle.std.specs.Prelude.{IsSome}
use Rattle.std.specs.declared.alloc.Global.{Global}
use Rattle.std.specs.declared.vec.Vec.{Vec}
use Rattle.clap.specs.Words.{Row, Text, first_of, one_of}
use Rattle.hdt_tool.specs.CommandLine.{HasInvalidTerm, IsQueryAction, IsFindAction, IsInvalidPatternTerm, ParsesAsFlag}
use Rattle.hdt_tool.specs.CommandLine.{ParsesAsFormat, ParsesAsNumberOrNone, ParsesAsPatternTerm, ParsesAsPattern}
use Rattle.hdt_tool.specs.CommandLine.{ParsesAsStringOrAny, RefutesOrInvalidTerm, SkipsIn, SkipsNothing}
use Rattle.hdt_tool.specs.ErrorLines.{argument_name}
use Rattle.hdt_tool.specs.TriplesText.{GivenStrings, find_format}
use Rattle.hdt_tool.specs.declared.fault.TermArgument.{TermArgument}
use Rattle.hdt_tool.specs.declared.fault.TermArgument.TheVariants.{Subject, Predicate, Object}
use Rattle.hdt_tool.specs.declared.fault.UsageFault.{UsageFault}
use Rattle.hdt_tool.specs.declared.request.Action.{Action}
use Rattle.hdt_tool.specs.declared.request.Action.TheVariants as action
use Rattle.hdt_tool.specs.declared.request.OutputFormat.{OutputFormat}
use Rattle.hdt_tool.specs.declared.request.OutputFormat.TheVariants.{Numbers}
use Rattle.hdt_tool.proofs.ParsedArguments.{differ, map_refutes}

-- Nothing is skipped if that is not asked, or if IDs are printed.
skips_none : (rows : List Row) (f g : OutputFormat) (skip : Bool) → g ≡ f → (skip ≡ false) ⊎ (f ≡ Numbers)
    → SkipsIn rows skip → SkipsNothing rows g
skips_none rows f g skip same (inl unasked) skips = inl (subst (λ (b : Bool). SkipsIn rows b) unasked skips)
skips_none rows f g skip same (inr numbers) skips = inr (same ∙ numbers)

-- The action of `find` without `--quiet`.
pub find_is : (rows : List Row) (given : GivenStrings) (format : OutputFormat) (most : Option ℕ) (skip : Bool)
    (a : Action) → IsFindAction given format most skip a → ParsesAsPattern rows given
    → ParsesAsFormat rows format → ParsesAsNumberOrNone (one_of (codes "most") rows) most
    → ParsesAsFlag (one_of (codes "quiet") rows) false → SkipsIn rows skip → IsQueryAction (codes "find") rows a
find_is rows given format most skip (action.Find strings numbers) h words is_format is_most loud skips = inl (record {
  named = refl;
  words = subst (λ (s : GivenStrings). ParsesAsPattern rows s) (sym h.0) words;
  format_is = subst (λ (f : OutputFormat). ParsesAsFormat rows f) (sym h.1) is_format;
  most_is = subst (λ (m : Option ℕ). ParsesAsNumberOrNone (one_of (codes "most") rows) m) h.2 is_most;
  not_quiet = loud;
  skips_nothing = skips_none rows format (find_format numbers) skip h.1 h.3 skips;
})
find_is rows given format most skip (action.Search strings other n) h words is_format is_most loud skips = record {
  named = refl;
  words = subst (λ (s : GivenStrings). ParsesAsPattern rows s) (sym h.0) words;
  format_is = subst (λ (f : OutputFormat). ParsesAsFormat rows f) (sym h.1) is_format;
  most_is = subst (λ (m : Option ℕ). ParsesAsNumberOrNone (one_of (codes "most") rows) m) (sym h.2) is_most;
  not_quiet = loud;
  skips_nothing = skips_none rows format other skip h.1 h.3 skips;
}
find_is rows given format most skip (action.SkipNonTerms strings count n) h words is_format is_most loud skips =
    inl (record {
      named = refl;
      words = subst (λ (s : GivenStrings). ParsesAsPattern rows s) (sym h.0) words;
      format_is = subst (λ (f : OutputFormat). ParsesAsFormat rows f) (sym h.1) is_format;
      most_is = subst (λ (m : Option ℕ). ParsesAsNumberOrNone (one_of (codes "most") rows) m) (sym h.2) is_most;
      not_quiet = loud;
      skips = subst (λ (b : Bool). SkipsIn rows b) h.3 skips;
    })
find_is rows given format most skip a h words is_format is_most loud skips = absurd h

-- ---- errors

-- The words of `find` have a pattern.
find_words : (rows : List Row) (a : Action) → IsQueryAction (codes "find") rows a → (given : GivenStrings)
    × ParsesAsPattern rows given
find_words rows (action.Find given numbers) (inl h) = (given, h.words)
find_words rows (action.Find given numbers) (inr h) = differ (codes "find") _ _ refl h.0 refl
find_words rows (action.Search given format most) h = (given, h.words)
find_words rows (action.SkipNonTerms given count most) (inl h) = (given, h.words)
find_words rows (action.SkipNonTerms given count most) (inr h) = differ (codes "find") _ _ refl h.0 refl
find_words rows (action.Exists given) h = (given, h.1)
find_words rows (action.Count role top raw) h = differ (codes "find") _ _ refl h.named refl
find_words rows (action.Answer options) h = differ (codes "find") _ _ refl h.named refl
find_words rows (action.Build options) h = absurd h
find_words rows (action.Rewrite b) h = absurd h
find_words rows a h = differ (codes "find") _ _ refl h.0 refl

some_part : (raw entry : Option Text) (x : Option (Vec ℕ Global)) → ParsesAsStringOrAny raw entry x → IsSome entry
some_part raw None None h = absurd cc
some_part raw None (Some x) h = absurd h.1
some_part raw (Some text) x h = refl

-- The object is not valid, and the other two are.
pub object_refused : (rows : List Row) (s p : Option (Vec ℕ Global)) (r : UsageFault)
    → ParsesAsPatternTerm rows Subject s → ParsesAsPatternTerm rows Predicate p
    → RefutesOrInvalidTerm (IsSome (first_of (argument_name Object) rows)) (λ other fault. (other ≡ Object)
    × IsInvalidPatternTerm rows Object fault) r
    → RefutesOrInvalidTerm ((a : Action) × IsQueryAction (codes "find") rows a) (HasInvalidTerm (codes "find") rows) r
object_refused rows s p r is_s is_p h =
    map_refutes _ _ _ _ r (λ w. let found = find_words rows w.0 w.1 in
    some_part (one_of (codes "raw") rows) (first_of (argument_name Object) rows) found.1.object found.1.o)
    (λ other fault f. subst (λ (argument : TermArgument). HasInvalidTerm (codes "find") rows argument fault) (sym f.0)
    (refl, (s, is_s), (p, is_p), f.1)) h
