use Rattle.std.proofs.Common.{length}
use Rattle.hdt_build.specs.Inside.ByteTapes.{HaveCopied}
use Rattle.hdt_build.proofs.byte_tape.ByteTape.put.Given as goal

abbrev pub invariant-chunks : goal.invariant-chunks
invariant-chunks g l = HaveCopied g.S.Scratch.IsKnown l.fn.out l.fn.self l.chunk.1 l.crc l.out

abbrev pub decreases-chunks : goal.decreases-chunks
decreases-chunks g l = length l.chunk.1
