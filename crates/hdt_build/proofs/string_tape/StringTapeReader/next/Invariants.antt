use Rattle.std.proofs.Common.{◌≡◌, ◌++◌, ◌∷◌, length}
use Rattle.hdt_build.specs.Inside.Chunks.{chunk_strings, element_count}
use Rattle.hdt_build.specs.Inside.PackedStrings.{unpacked_strings}
use Rattle.hdt_build.proofs.string_tape.StringTapeReader.next.Given as goal

abbrev pub invariant-chunks : goal.invariant-chunks
invariant-chunks g l =
    let r = l.self-inside.chunk in
    record {
      known : g.S.Scratch.IsKnown
          → unpacked_strings r.0.1 l.self-inside.text.items r.0.0 ++ chunk_strings r.1 ≡ l.fn.self.1;
      count : element_count (r.0 ∷ r.1) ≡ length l.fn.self.1;
    }

abbrev pub decreases-chunks : goal.decreases-chunks
decreases-chunks g l = length l.self-inside.chunk.1
