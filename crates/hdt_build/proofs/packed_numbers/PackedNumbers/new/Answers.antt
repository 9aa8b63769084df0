use Rattle.std.proofs.lemmas.List.Elements.{All-nil}
use Rattle.std.proofs.Common.{ℕ, ◌<◌, ◌^◌, refl}
use Rattle.hdt_build.specs.Inside.PackedNumbers.{packed_numbers, unpacked_numbers}
use Rattle.hdt_build.proofs.packed_numbers.PackedNumbers.new.Goals as goal

pub invariant_of-result : goal.invariant_of-result
unfolding packed_numbers unpacked_numbers
invariant_of-result c = record {
  bytes_are = c.new.ensures.items;
  most_is = refl;
  fit = All-nil (λ (x : ℕ). x < 2 ^ 64);
}
