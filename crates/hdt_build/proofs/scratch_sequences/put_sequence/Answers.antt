use Rattle.std.proofs.Common.{subst}
use Rattle.hdt_build.specs.Inside.Output.{Puts}
use Rattle.hdt_build.specs.Inside.ScratchSequences.{sequence_head, sequence_width}
use Rattle.hdt_build.specs.Inside.TripleEntries.{entries_of}
use Rattle.hdt_build.proofs.ScratchSequences.{encoding_is, entries_fit}
use Rattle.hdt_build.proofs.scratch_sequences.put_sequence.Goals as goal

pub returns : goal.returns
returns g c = λ known are.
    let ts = c.args.triples.now in
    let m = c.args.measures.now in
    let q = c.args.sequence in
    let head = sequence_head q m in
    let width = sequence_width q m in
    let fits = entries_fit q ts m are in
    let writing = c.in_ok-put_entries.ensures known c.args.out head width fits c.in_ok-writer.ensures in
    subst (Puts c.args.out c.in_ok-finish.field-0) (encoding_is q ts m are)
    (c.in_ok-finish.ensures c.args.out head (entries_of q ts) width writing)
