use Rattle.std.proofs.Common.{ne_eqb}
use Rattle.hdt_terms.specs.RequestParsing.{pattern_term_after_whitespace}
use Rattle.hdt_terms.proofs.PatternTerms.{behind_any, part_read}
use Rattle.hdt_terms.proofs.request.parse_pattern_term.Goals as goal

pub returns-then-first-eq63-clause-utf8 : goal.returns-then-first-eq63-clause-utf8
returns-then-first-eq63-clause-utf8 c =
    behind_any _ c.in-Some.rest.now c.in-Some.first.now c.in-Some.ensures.cases.0 c.if-first-eq63.true
    (c.skip_whitespace-bytes.ensures.utf8 c.requires)

pub returns-clause-reads : goal.returns-clause-reads
unfolding pattern_term_after_whitespace
returns-clause-reads c =
    rw (← c.skip_whitespace-bytes.ensures.value)
    (part_read c.args.role _ c.in-Some.rest.now c.in-Some.first.now c.in-Some.ensures.cases.0
    (ne_eqb c.in-Some.first.now 63 c.if-first-eq63.false) _ _
    (rw c.clear.ensures.items at c.in_ok-rest.ensures.reads))
