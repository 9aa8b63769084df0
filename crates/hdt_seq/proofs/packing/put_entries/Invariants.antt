use Rattle.std.proofs.Common.{take}
use Rattle.hdt_seq.specs.Laws.Packing.{Packs}
use Rattle.hdt_seq.proofs.packing.put_entries.Given as goal

abbrev pub invariant-loop-x : goal.invariant-loop-x
invariant-loop-x l = Packs l.width (take l.x-index l.xs) l.rest.word l.rest.filled l.fn.out.items l.out.items
