use Rattle.std.proofs.Common.{◌∙◌, refl, sym}
use Rattle.hdt_file.proofs.TermFlagLaws.{each_is_term, first_object, first_predicate, first_subject}
use Rattle.hdt_file.proofs.term_flags.TermFlags.first_non_term.Goals as goal

pub returns-then-not-term_flag-clause-first : goal.returns-then-not-term_flag-clause-first
returns-then-not-term_flag-clause-first c = λ g h. (
  first_subject g c.args.self.now c.args.triple h
      (sym c.term_flag.ensures ∙ c.if-not-term_flag.true),
  refl,
)

pub returns-then-not-term_flag-2-clause-first : goal.returns-then-not-term_flag-2-clause-first
returns-then-not-term_flag-2-clause-first c = λ g h. (
  first_predicate g c.args.self.now c.args.triple h
      (sym c.term_flag.ensures ∙ c.if-not-term_flag.false)
      (sym c.term_flag-2.ensures ∙ c.if-not-term_flag-2.true),
  refl,
)

pub returns-then-not-term_flag-3-clause-first : goal.returns-then-not-term_flag-3-clause-first
returns-then-not-term_flag-3-clause-first c = λ g h. (
  first_object g c.args.self.now c.args.triple h
      (sym c.term_flag.ensures ∙ c.if-not-term_flag.false)
      (sym c.term_flag-2.ensures ∙ c.if-not-term_flag-2.false)
      (sym c.term_flag-3.ensures ∙ c.if-not-term_flag-3.true),
  refl,
)

pub returns-clause-none : goal.returns-clause-none
returns-clause-none c = λ g h is.
    each_is_term g c.args.self.now c.args.triple h
    (sym c.term_flag.ensures ∙ c.if-not-term_flag.false)
    (sym c.term_flag-2.ensures ∙ c.if-not-term_flag-2.false)
    (sym c.term_flag-3.ensures ∙ c.if-not-term_flag-3.false)
