use Rattle.hdt_build.proofs.RewrittenFiles.{made_verified}
use Rattle.hdt_build.proofs.laws.reports_are_verified.Goals as goal

pub returns-clause-built : goal.returns-clause-built
returns-clause-built c = λ options graph bytes report right made fits small few.
    made_verified _ graph options.block_size bytes report right.block_size made small few
    (c.one_layout.ensures.exact bytes fits small) (c.one_tight_layout.ensures.exact bytes fits small)

pub returns-clause-rewritten : goal.returns-clause-rewritten
returns-clause-rewritten c = λ b graph bytes report right made fits small few.
    made_verified graph.header _ b bytes report right made small few (c.one_layout.ensures.exact bytes fits small)
    (c.one_tight_layout.ensures.exact bytes fits small)
