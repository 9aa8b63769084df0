use Rattle.std.specs.Borrow.{Bor}
use Rattle.std.proofs.Common.{ℕ, List, []}
use Rattle.hdt_front.proofs.BorrowedStrings.{no_zero_in}
use Rattle.hdt_probe_parts.proofs.front_writing.put_one_by_one.Goals as goal

nothing : Bor (List ℕ)
nothing = record { ref_ptr = (0, 0); now = [] }

pub push-requires : goal.push-requires
unfolding nothing
push-requires c = record { no_zero = no_zero_in c.args.strings.now c.loop-string.string-index nothing (c.are_section_strings.ensures.found c.if-not-are_section_strings.false) c.loop-string-test.true }
