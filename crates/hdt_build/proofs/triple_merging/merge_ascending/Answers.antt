use Rattle.std.proofs.Common.{refl}
use Rattle.hdt_build.specs.Inside.TripleRuns.{joined_runs}
use Rattle.hdt_build.proofs.MergedSequences.{all_merged, more_merged, none_merged}
use Rattle.hdt_build.proofs.triple_merging.merge_ascending.Goals as goal

pub triples-init : goal.triples-init
triples-init c = record {
  merged = rw c.in_ok-cursors.ensures (none_merged (joined_runs c.args.runs.now) _ c.in_ok-with_capacity.ensures);
}

pub triples-preserved : goal.triples-preserved
triples-preserved c = record {
  merged = more_merged (joined_runs c.triples.cursors.items) (joined_runs c.take_from.new.cursors.items)
      (joined_runs c.args.runs.now) c.in-Some.triple c.triples.made c.push_distinct.new.self
      (c.in_ok-push_distinct.ensures c.if-not-branch.false) c.in-Some.ensures c.triples.invariant.merged;
}

pub returns-then-are_done : goal.returns-then-are_done
returns-then-are_done c =
    all_merged (joined_runs c.triples.cursors.items) (joined_runs c.args.runs.now) c.triples.made
    (rw c.as_slice-2.ensures.value at (c.if-are_done.ensures refl)) c.triples.invariant.merged
