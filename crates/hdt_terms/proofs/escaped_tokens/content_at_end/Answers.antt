use Rattle.std.proofs.Common.{◌∙◌}
use Rattle.hdt_terms.proofs.Appends.{ended}
use Rattle.hdt_terms.proofs.escaped_tokens.content_at_end.Goals as goal

pub returns-in-Some-clause-reads : goal.returns-in-Some-clause-reads
returns-in-Some-clause-reads c =
    ended c.args.token c.args.out.now.items c.args.bytes.now c.in-Some.tail.now c.in-Some.first.now
    c.in-Some.ensures.cases.0 (c.if-first-closing_byte.true ∙ c.closing_byte.ensures)
