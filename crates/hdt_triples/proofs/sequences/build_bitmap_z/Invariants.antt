use Rattle.std.proofs.Common.{◌≡◌, take}
use Rattle.hdt_triples.specs.Groups.{group_end_bits}
use Rattle.hdt_triples.specs.Writing.{pair_eq}
use Rattle.hdt_triples.proofs.sequences.build_bitmap_z.Given as goal

abbrev pub invariant-loop-i : goal.invariant-loop-i
invariant-loop-i l = l.made.items ≡ take l.i (group_end_bits pair_eq l.pairs)
