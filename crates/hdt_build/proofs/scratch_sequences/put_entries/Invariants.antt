use Rattle.std.proofs.Common.{List, [], ℕ, length}
use Rattle.hdt_seq.specs.PackedBits.{EachFits}
use Rattle.hdt_build.specs.Inside.EntryWriting.{IsWritingEntries}
use Rattle.hdt_build.specs.Inside.Output.{OutputState}
use Rattle.hdt_build.specs.Inside.ScratchSequences.{HaveWrittenEntries}
use Rattle.hdt_build.specs.Inside.TripleEntries.{entries_of}
use Rattle.hdt_build.proofs.scratch_sequences.put_entries.Given as goal

abbrev pub invariant-entries : goal.invariant-entries
invariant-entries g l =
    let all = entries_of l.fn.sequence l.fn.triples in
    record {
      known : g.S.Scratch.IsKnown → (before : OutputState) (head : List ℕ) (width : ℕ) → EachFits width all
          → IsWritingEntries before head width [] l.fn.writer
          → HaveWrittenEntries before head width all (entries_of l.fn.sequence l.rest) l.writer;
    }

abbrev pub decreases-entries : goal.decreases-entries
decreases-entries g l = length l.rest
