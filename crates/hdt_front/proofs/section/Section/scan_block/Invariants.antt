use Rattle.std.proofs.Common.{◌≡◌, ◌+◌, ◌-◌, ◌*◌, get_or, []}
use Rattle.hdt_front.specs.Strings.{strings_of}
use Rattle.hdt_front.specs.EntryFacts.{bytes_from_entry}
use Rattle.hdt_front.specs.Inside.Searching.{IsBefore}
use Rattle.hdt_front.proofs.section.Section.scan_block.Given as goal

abbrev pub invariant-loop-i : goal.invariant-loop-i
invariant-loop-i l = record {
  rest : l.rest ≡ bytes_from_entry l.self.packed.block_size
      (l.block * l.self.packed.block_size + l.i) l.self.packed.bytes.now;
  before : IsBefore l.bound (get_or (strings_of l.self) (l.block * l.self.packed.block_size + l.i - 1) []) l.x l.same;
  cost : l.steps + 1 ≡ l.fn.steps + l.i;
}
