use Rattle.std.proofs.Common.{◌≡◌, ◌∷◌, length}
use Rattle.hdt_build.specs.Inside.Chunks.{chunk_numbers, element_count}
use Rattle.hdt_build.proofs.number_tape.NumberTapeReader.next.Given as goal

abbrev pub invariant-chunks : goal.invariant-chunks
invariant-chunks g l =
    let r = l.self-inside.chunk in
    record {
      known : g.S.Scratch.IsKnown → chunk_numbers (r.0 ∷ r.1) ≡ l.fn.self;
      count : element_count (r.0 ∷ r.1) ≡ length l.fn.self;
    }

abbrev pub decreases-chunks : goal.decreases-chunks
decreases-chunks g l = length l.self-inside.chunk.1
