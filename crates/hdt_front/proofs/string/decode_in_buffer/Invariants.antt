use Rattle.std.proofs.Common.{◌≡◌, ◌<◌, ◌≤◌, ◌+◌, length}
use Rattle.hdt_front.specs.Inside.PartialStrings.{IsPartlyDecoded}
use Rattle.hdt_front.proofs.string.decode_in_buffer.Given as goal

abbrev pub invariant-loop-rest : goal.invariant-loop-rest
invariant-loop-rest l = record {
  done : (0 < l.done) × (l.done ≤ l.many);
  decoded : IsPartlyDecoded l.section.packed.block_size l.block l.done l.section.packed.bytes.now l.buffer l.at l.rest;
  cost : l.steps ≡ l.fn.steps + l.done;
}

abbrev pub decreases-loop-rest : goal.decreases-loop-rest
decreases-loop-rest l = length l.rest
