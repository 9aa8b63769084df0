use Rattle.std.proofs.Common.{◌∙◌, arith, refl}
use Rattle.hdt_build.proofs.Events.{all_dealt, deal_more}
use Rattle.hdt_build.proofs.distribution.distribute.Goals as goal

pub events-init : goal.events-init
events-init g c = record {
  long = refl;
  dealt = λ known b lt. rw (c.reader-events.ensures, c.reader-numbers.ensures) refl;
}

pub events-preserved : goal.events-preserved
events-preserved g c = record {
  long = c.push_to.ensures.long ∙ c.events.invariant.long;
  dealt = λ known. deal_more c.args.shared c.args.lists.now.items c.args.numbers.now c.args.events.now
      c.events.lists.items c.events.current c.events.numbers c.events.events (c.events.invariant.dealt known)
      c.push_to.new.lists.items c.in-Some-2.codes c.pair_after.new.numbers c.next_event.new.events c.in-Some.begins
      c.in-Some.target (rw c.in-Some.is at c.in_ok-begins.ensures known)
      (rw c.in-Some-2.is at c.in_ok-codes.ensures known)
      (λ b lt. rw c.in-Some-record_id.ensures at c.in_ok-push_to.ensures.pushed c.if-not-branch.false known b
      (omega (arith, lt, c.events.invariant.long)));
}

pub returns-in-None-clause-dealt : goal.returns-in-None-clause-dealt
returns-in-None-clause-dealt g c t known =
    all_dealt c.args.shared c.args.lists.now.items c.args.numbers.now c.args.events.now c.events.lists.items
    c.events.current c.events.numbers c.events.events (c.events.invariant.dealt known)
    (rw c.in-None.is at c.in_ok-next.ensures.none known)
