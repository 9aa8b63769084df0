use Rattle.std.proofs.Common.{◌∙◌, ◌++◌, ℕ, List, arith, drop, ap, slice_index, sym}
use Rattle.std.proofs.lemmas.List.{drop_all, get_or_default}
use Rattle.hdt_triples.specs.TripleSequences.{Triple}
use Rattle.hdt_build.specs.Inside.Batches.{grouped, joined_mapped}
use Rattle.hdt_build.specs.Inside.TripleRuns.{joined_runs}
use Rattle.hdt_build.proofs.BatchEncoding.{runs_done, runs_more}
use Rattle.hdt_build.proofs.TripleRuns.{joined_none, same_lists}
use Rattle.hdt_build.proofs.batch_encoding.mapped_runs.Goals as goal

pub loop-at-init : goal.loop-at-init
loop-at-init g c known =
    let all = joined_mapped c.args.triples.now (grouped c.args.counts.now c.args.lists.now) in
    rw c.new-made.ensures.items (same_lists _ _ (ap (λ (l : List Triple). l ++ all) joined_none))

pub loop-at-preserved : goal.loop-at-preserved
loop-at-preserved g c known =
    let all = joined_mapped c.args.triples.now (grouped c.args.counts.now c.args.lists.now) in
    let l = c.loop-at in
    let n : ℕ = slice_index c.args.counts.now l.at in
    let ids = (rw c.in-Some.is at c.in_ok-ids.ensures) known in
    let made = rw c.deref.ensures.value at (c.in_ok-push_mapped.ensures c.if-not-branch.false known) in
    runs_more l.made.items c.push_mapped.new.runs.items c.args.triples.now l.at c.index-triples-at.result
    c.args.counts.now n l.rest.now c.split_at.result.1.now c.in-Some.ids.items all (omega arith)
    (sym c.index-triples-at.is) (omega arith) (get_or_default c.args.counts.now l.at n 0 (omega arith))
    (ids ∙ ap joined_runs c.split_at.ensures.front) c.split_at.ensures.back made (l.invariant known)

pub returns : goal.returns
returns g c known =
    let all = joined_mapped c.args.triples.now (grouped c.args.counts.now c.args.lists.now) in
    let l = c.loop-at in
    runs_done l.made.items (drop l.at c.args.triples.now) (drop l.at c.args.counts.now) l.rest.now all
    (drop_all l.at c.args.counts.now (omega arith)) (l.invariant known)
