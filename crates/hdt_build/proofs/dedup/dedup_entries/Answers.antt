use Rattle.std.proofs.Common.{arith}
use Rattle.hdt_build.proofs.Deduplication.{descends, none_listed, listed_more, all_listed}
use Rattle.hdt_build.proofs.dedup.dedup_entries.Goals as goal

pub loop-at-init : goal.loop-at-init
loop-at-init c = record {
  listed =
      rw c.new-strings.ensures
      (none_listed c.args.list.now c.args.ordered.now c.in_ok-ranks.ranks.items
      (omega (arith, c.in_ok-ranks.ensures.len, c.len.ensures, c.in_ok-ranks.ranks.ok.0)));
}

pub returns-in_default-clause-unsorted : goal.returns-in_default-clause-unsorted
returns-in_default-clause-unsorted c = λ _.
    let l = c.loop-at in
    descends c.args.list.now c.args.ordered.now c.requires l.at c.loop-at-test.true
    l.strings l.ranks.items l.invariant.listed
    (rw c.get.ensures at (c.in_ok-rank.ensures.less c.in_default.is))

pub loop-at-preserved : goal.loop-at-preserved
loop-at-preserved c =
    let l = c.loop-at in
    let joined = rw c.in-Some.is at c.in_ok-rank.ensures.joined in
    let index = rw c.in-Some.is at c.in_ok-rank.ensures.index in
    record {
      listed = listed_more c.args.list.now c.args.ordered.now c.requires l.at c.loop-at-test.true
          l.strings l.ranks.items l.invariant.listed
          c.push_distinct.new.self c.in-Some.rank
          (rw c.get.ensures at joined)
          index;
    }

pub returns-clause-ranks : goal.returns-clause-ranks
returns-clause-ranks c = all_listed c.args.list.now c.args.ordered.now c.requires
    c.loop-at.strings c.loop-at.ranks.items c.loop-at.at c.loop-at-test.false
    c.loop-at.invariant.listed
