use Rattle.std.proofs.Common.{List, ℕ, length, ◌<◌, ◌^◌}
use Rattle.std.proofs.lemmas.List.Elements.{All-nil}
use Rattle.hdt_build.specs.Inside.PackedStrings.{final_string, packed_strings, unpacked_strings}
use Rattle.hdt_build.proofs.packed_strings.PackedStrings.new.Goals as goal

pub invariant_of-result : goal.invariant_of-result
unfolding final_string packed_strings unpacked_strings
invariant_of-result c = record {
  bytes_are = c.new.ensures.items;
  last_is = c.new-2.ensures.items;
  fit = All-nil (λ (x : List ℕ). length x < 2 ^ 64);
}
