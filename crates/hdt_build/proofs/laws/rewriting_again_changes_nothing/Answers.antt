use Rattle.hdt_build.proofs.RewrittenFiles.{rewritten_again, built_again}
use Rattle.hdt_build.proofs.laws.rewriting_again_changes_nothing.Goals as goal

pub returns-clause-rewritten : goal.returns-clause-rewritten
returns-clause-rewritten c = λ b graph h x y r s right made bytes small few layout again.
    rewritten_again b graph h x y r s right made small few
    (λ g other. c.one_layout.ensures.one x h g bytes small layout other) again

pub returns-clause-built : goal.returns-clause-built
returns-clause-built c = λ options graph h x y r s right made bytes small few layout again.
    built_again options graph h x y r s right made small few
    (λ g other. c.one_layout.ensures.one x h g bytes small layout other) again
