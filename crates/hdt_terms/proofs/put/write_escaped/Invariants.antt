use Rattle.std.proofs.Common.{◌≡◌, ◌++◌, length}
use Rattle.std.specs.List.{flat_map}
use Rattle.hdt_terms.specs.Writing.{written_byte, Extends}
use Rattle.hdt_terms.proofs.put.write_escaped.Given as goal

abbrev pub invariant-bytes : goal.invariant-bytes
invariant-bytes l = (l.out.items ++ flat_map (written_byte l.token) l.rest ≡ l.fn.out.items
    ++ flat_map (written_byte l.token) l.text) × Extends l.fn.out.items l.out.items

abbrev pub decreases-bytes : goal.decreases-bytes
decreases-bytes l = length l.rest
