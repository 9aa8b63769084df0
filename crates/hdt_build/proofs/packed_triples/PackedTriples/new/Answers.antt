use Rattle.std.proofs.Common.{refl}
use Rattle.std.proofs.lemmas.List.Elements.{All-nil}
use Rattle.hdt_build.specs.Inside.PackedTriples.{FitsWords, last_subject, packed_after, unpacked}
use Rattle.hdt_build.proofs.packed_triples.PackedTriples.new.Goals as goal

pub invariant_of-result : goal.invariant_of-result
unfolding last_subject packed_after unpacked
invariant_of-result c = record { bytes_are = c.new.ensures.items; subject_is = refl; fit = All-nil FitsWords }
