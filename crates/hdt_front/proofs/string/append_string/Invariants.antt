use Rattle.std.proofs.Common.{◌≡◌, ◌+◌, ◌*◌, ◌/◌, ◌++◌}
use Rattle.hdt_front.specs.EntryFacts.{bytes_from_entry}
use Rattle.hdt_front.specs.Inside.PartialStrings.{partial_string}
use Rattle.hdt_front.proofs.string.append_string.Given as goal

abbrev pub invariant-loop-k : goal.invariant-loop-k
invariant-loop-k l = record {
  out : l.out.items ≡ l.fn.out.items
      ++ partial_string l.section.packed.block_size (l.i / l.section.packed.block_size) l.k l.section.packed.bytes.now;
  rest : l.rest ≡ bytes_from_entry l.section.packed.block_size
      (l.i / l.section.packed.block_size * l.section.packed.block_size + l.k) l.section.packed.bytes.now;
  cost : l.steps ≡ l.fn.steps + l.k;
}
