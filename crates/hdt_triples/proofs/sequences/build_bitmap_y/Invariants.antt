use Rattle.std.proofs.Common.{◌≡◌, take, map, nat_eq}
use Rattle.hdt_triples.specs.Groups.{group_end_bits}
use Rattle.hdt_triples.proofs.sequences.build_bitmap_y.Given as goal

abbrev pub invariant-loop-i : goal.invariant-loop-i
invariant-loop-i l = l.made.items ≡ take l.i (group_end_bits nat_eq (map (λ p. p.0) l.pairs))
