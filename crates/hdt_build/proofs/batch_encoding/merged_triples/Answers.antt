use Rattle.std.proofs.lemmas.Result.{IfOk-weaker}
use Rattle.hdt_dict.specs.Laws.Members.{SameMembers-trans}
use Rattle.hdt_build.proofs.BatchEncoding.{some_weaker}
use Rattle.hdt_build.proofs.batch_encoding.merged_triples.Goals as goal

pub returns-clause-same : goal.returns-clause-same
returns-clause-same g c =
    IfOk-weaker c.merge_triple_runs.result _ _
    (λ found. some_weaker _ _ found
    (λ made same known. SameMembers-trans _ _ _ (same known)
    (rw (c.deref.ensures.value, c.deref-2.ensures.value, c.in_ok-lists.ensures known)
    at ((rw c.in-Some.is at c.in_ok-found.ensures) known))))
    (rw c.as_slice.ensures.value at c.merge_triple_runs.ensures.same)
