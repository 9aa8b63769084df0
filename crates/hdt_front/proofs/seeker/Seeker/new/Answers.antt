use Rattle.std.proofs.Common.{arith, refl}
use Rattle.hdt_front.specs.EntryFacts.{string_before_entry, bytes_from_entry}
use Rattle.hdt_front.proofs.seeker.Seeker.new.Goals as goal

pub invariant_of-result : goal.invariant_of-result
unfolding string_before_entry bytes_from_entry
invariant_of-result c = (omega arith, c.new.ensures.items, refl)
