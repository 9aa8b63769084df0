use Rattle.std.proofs.Common.{◌≡◌, ◌≤◌, [], drop, length, get_or}
use Rattle.hdt_build.specs.Inside.PackedStrings.{remaining_strings}
use Rattle.hdt_build.specs.Inside.Filtering.{IsInFilter}
use Rattle.hdt_build.proofs.RunMerging.{InWork, Ahead}
use Rattle.hdt_build.proofs.section_filter.write_filtered.Given as goal

abbrev pub invariant-loop-at : goal.invariant-loop-at
invariant-loop-at l = record {
  filled : InWork (IsInFilter l.fn.filter.used.now l.fn.filter.other.now l.fn.filter.wanted)
      (λ k. get_or l.strings k [])
      (Ahead l.at (length l.strings) (length l.strings)
      (length l.strings)) l.fn.ids_before l.out.strings l.fn.ids.items l.ids.items;
  block : l.out.block_size ≡ l.block_size;
  few : length l.out.strings ≤ l.at;
  ahead : remaining_strings l.reader ≡ drop l.at l.strings;
}
