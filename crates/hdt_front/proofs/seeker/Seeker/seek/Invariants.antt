use Rattle.std.proofs.Common.{◌≡◌, ◌≤◌, ◌<◌, ◌+◌, ◌-◌}
use Rattle.hdt_front.specs.SeekerState.{seeker_at, strings_before_block}
use Rattle.hdt_front.proofs.seeker.Seeker.seek.Given as goal

abbrev pub invariant-loop-self : goal.invariant-loop-self
invariant-loop-self l = record {
  section : l.self.section ≡ l.fn.self.section;
  string : 0 < l.self.at → l.self ≡ seeker_at l.fn.self.section l.self.at;
  here : (strings_before_block l.fn.self.section l.n ≤ l.self.at) × (l.self.at ≤ l.n);
  cost : l.steps + strings_before_block l.fn.self.section l.n ≤ l.fn.steps + l.self.at;
  near : l.fn.self.at ≤ l.n → l.steps + l.fn.self.at ≤ l.fn.steps + l.self.at;
  more : l.fn.steps ≤ l.steps;
}

abbrev pub decreases-loop-self : goal.decreases-loop-self
decreases-loop-self l = l.n - l.self.at
