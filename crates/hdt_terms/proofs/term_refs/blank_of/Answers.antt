use Rattle.hdt_terms.proofs.StringTerms.{blank_is, blank_none, never}
use Rattle.hdt_terms.proofs.term_refs.blank_of.Goals as goal

pub returns-then-not-is_label : goal.returns-then-not-is_label
returns-then-not-is_label c = blank_none c.args.label.now (never c.if-not-is_label.ensures.1)

pub returns : goal.returns
returns c = blank_is c.args.label.now (c.is_label.ensures.0 c.if-not-is_label.false)
