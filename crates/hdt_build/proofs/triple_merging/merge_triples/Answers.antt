use Rattle.std.proofs.lemmas.Result.{IfOk-weaker}
use Rattle.hdt_build.proofs.MergedSequences.{merged_again}
use Rattle.hdt_build.proofs.triple_merging.merge_triples.Goals as goal

pub returns : goal.returns
returns c =
    let same = rw c.in_ok-made.ensures at c.sort_dedup_triples.ensures.same in
    IfOk-weaker c.sequences_of_packed.result _ _ (λ made h.
    merged_again c.in_ok-run.run' _ made h
    (rw (c.in_ok-run.ensures, c.as_slice.ensures.value) c.sort_dedup_triples.ensures.ascending)
    (rw (c.in_ok-run.ensures, c.as_slice.ensures.value) same)) c.sequences_of_packed.ensures
