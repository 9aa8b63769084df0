use Rattle.std.proofs.Common.{◌≡◌, map, take}
use Rattle.std.specs.Prelude.{slice_index}
use Rattle.hdt_build.proofs.triples.mapped_numbers.Given as goal

abbrev pub invariant-loop-number : goal.invariant-loop-number
invariant-loop-number l = record { mapped : l.made.items ≡ map (slice_index l.list) (take l.number-index l.numbers) }
