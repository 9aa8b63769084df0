use Rattle.std.proofs.Common.{◌≡◌, length}
use Rattle.hdt_build.proofs.Events.{IsDealt}
use Rattle.hdt_build.proofs.distribution.distribute.Given as goal

abbrev pub invariant-events : goal.invariant-events
invariant-events g l = record {
  long : length l.lists.items ≡ length l.fn.lists.items;
  dealt : g.S.Scratch.IsKnown
      → IsDealt l.shared l.fn.lists.items l.fn.numbers l.fn.events l.lists.items l.current l.numbers l.events;
}
