use Rattle.hdt_terms.proofs.StripPrefixes.{before_or_not}
use Rattle.hdt_terms.proofs.term_refs.before.Goals as goal

pub returns : goal.returns
returns c = before_or_not c.args.end.now c.args.bytes.now c.strip_suffix.result c.strip_suffix.ensures.cases
