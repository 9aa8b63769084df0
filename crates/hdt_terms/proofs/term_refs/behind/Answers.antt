use Rattle.hdt_terms.proofs.StripPrefixes.{behind_or_not}
use Rattle.hdt_terms.proofs.term_refs.behind.Goals as goal

pub returns : goal.returns
returns c = behind_or_not c.args.prefix.now c.args.bytes.now c.strip_prefix.result c.strip_prefix.ensures.cases
