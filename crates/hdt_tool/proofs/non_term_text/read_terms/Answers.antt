use Rattle.std.proofs.lemmas.Result.{IfOk-weaker}
use Rattle.hdt_tool.proofs.non_term_text.read_terms.Goals as goal

pub returns-then-tight-clause-tight : goal.returns-then-tight-clause-tight
returns-then-tight-clause-tight c =
    IfOk-weaker c.verify_tight_terms.result _ _ (λ found h t. h) c.verify_tight_terms.ensures.tight

pub returns-then-tight-clause-err : goal.returns-then-tight-clause-err
returns-then-tight-clause-err c = rw c.if-tight.true c.verify_tight_terms.ensures.err

pub returns-clause-tight : goal.returns-clause-tight
returns-clause-tight c =
    IfOk-weaker c.verify_terms.result _ _ (λ found h t. let f = c.if-tight.false in absurd cc)
    c.verify_terms.ensures.found

pub returns-clause-err : goal.returns-clause-err
returns-clause-err c = rw c.if-tight.false c.verify_terms.ensures.err
