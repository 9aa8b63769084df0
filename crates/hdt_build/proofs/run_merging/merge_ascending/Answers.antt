use Rattle.std.proofs.Common.{◌∙◌, ℕ, List, get_or, ap, arith}
use Rattle.std.proofs.lemmas.List.{get_or-replicate}
use Rattle.hdt_build.proofs.RankedRuns.{none_ranked, one_ranked}
use Rattle.hdt_build.proofs.run_merging.merge_ascending.Goals as goal

pub run_cursors-requires : goal.run_cursors-requires
run_cursors-requires c = omega (arith, c.len-count.ensures)

pub strings-init : goal.strings-init
strings-init c =
    let all = c.in_ok-ranks.ensures.items_if_clones_equal (λ y same. cc) in
    record {
      ranked = rw c.new-strings.ensures
          (none_ranked c.args.list.now c.in_ok-ranks.ranks.items
          (omega (arith, c.in_ok-ranks.ensures.len, c.len-count.ensures, c.in_ok-ranks.ranks.ok.0))
          (λ k lt. ap (λ (l : List ℕ). get_or l k 0) all
          ∙ get_or-replicate _ k _ 0 (omega (arith, lt, c.len-count.ensures))));
      cursors = c.in_ok-cursors.ensures;
    }

pub index_mut-requires : goal.index_mut-requires
index_mut-requires c =
    let l = c.strings in
    let given = c.in-Some.ensures c.args.list.now (rw c.as_slice-in-strings.ensures.value l.invariant.cursors) in
    omega (arith, given.0, l.invariant.ranked.long, l.ranks.ok.0)

pub strings-preserved : goal.strings-preserved
strings-preserved c =
    let l = c.strings in
    let given = c.in-Some.ensures c.args.list.now (rw c.as_slice-in-strings.ensures.value l.invariant.cursors) in
    let joined = rw c.in-Some-2.is at c.in_ok-rank.ensures.joined in
    let index = rw c.in-Some-2.is at c.in_ok-rank.ensures.index in
    record {
      ranked = one_ranked c.args.list.now l.strings l.ranks.items l.invariant.ranked c.in-Some.at c.in-Some.text.now
          c.push_distinct.new.self c.in-Some-2.rank given.0 given.1 joined index;
      cursors = c.in_ok-step_run.ensures c.args.list.now l.invariant.cursors;
    }
