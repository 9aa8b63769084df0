use Rattle.hdt_triples.proofs.UsesLaws.{use_flags_at_end}
use Rattle.hdt_triples.proofs.pattern.use_flags.Goals as goal

pub returns-clause-exact : goal.returns-clause-exact
returns-clause-exact c = use_flags_at_end c.args.triples.now c.args.role c.loop-triple.triple-index
    c.loop-triple.flags.items c.loop-triple.auto.triple-index-end c.loop-triple-test.false c.loop-triple.invariant.exact
