use Rattle.std.proofs.Common.{refl}
use Rattle.hdt_build.specs.Inside.TripleRuns.{joined_runs}
use Rattle.hdt_build.proofs.AscendingTriples.{none_ascending}
use Rattle.hdt_build.proofs.TripleRuns.{merge_end, merge_step, same_self}
use Rattle.hdt_build.proofs.tape_merging.merge_triple_runs.Goals as goal

pub triples-init : goal.triples-init
triples-init g c = record {
  ascending = λ known. none_ascending c.args.out (c.requires known);
  same = λ known. rw (c.requires known, c.in_ok-cursors.ensures known) (same_self (joined_runs c.args.runs.now));
}

pub triples-preserved : goal.triples-preserved
triples-preserved g c =
    let h = c.triples.invariant in
    let taken = rw c.in-Some.is at c.in_ok-triple.ensures in
    let pushed = c.in_ok-push_distinct.ensures c.if-not-branch.false in
    let rest = joined_runs c.triples.cursors.items in
    let less = joined_runs c.take_from.new.cursors.items in
    record {
      ascending = λ known. (pushed known (h.ascending known)).0;
      same = λ known.
          merge_step c.triples.made.triples c.push_distinct.new.self.triples rest less (joined_runs c.args.runs.now)
          c.in-Some.triple (pushed known (h.ascending known)).1 (taken known) (h.same known);
    }

pub returns-clause-ascending : goal.returns-clause-ascending
returns-clause-ascending g c = λ known.
    let up = (c.triples.invariant.ascending known).ascending in
    rw (c.in_ok-finish.ensures known) up

pub returns-clause-same : goal.returns-clause-same
returns-clause-same g c = λ known.
    let none = rw c.as_slice-2.ensures.value at (c.if-not-are_done.ensures refl) in
    let same = merge_end c.triples.made.triples (joined_runs c.triples.cursors.items) (joined_runs c.args.runs.now) none
    (c.triples.invariant.same known) in
    rw (c.in_ok-finish.ensures known) same
