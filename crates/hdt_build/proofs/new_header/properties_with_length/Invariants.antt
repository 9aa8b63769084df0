use Rattle.std.proofs.Common.{◌≡◌, ◌++◌, length}
use Rattle.hdt_build.specs.NewHeader.{with_length}
use Rattle.hdt_build.proofs.new_header.properties_with_length.Given as goal

abbrev pub invariant-items : goal.invariant-items
invariant-items l = l.made.items ++ with_length l.len l.rest ≡ with_length l.len l.fn.text

abbrev pub decreases-items : goal.decreases-items
decreases-items l = length l.rest
