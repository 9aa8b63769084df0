use Rattle.std.proofs.Common.{length}
use Rattle.hdt_terms.proofs.RawStrings.{GoesOn}
use Rattle.hdt_terms.proofs.raw_request.append_raw_string.Given as goal

abbrev pub invariant-bytes : goal.invariant-bytes
invariant-bytes l = GoesOn l.out.items l.rest l.fn.out.items l.bytes

abbrev pub decreases-bytes : goal.decreases-bytes
decreases-bytes l = length l.rest
