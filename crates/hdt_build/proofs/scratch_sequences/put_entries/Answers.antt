use Rattle.hdt_build.specs.Inside.TripleEntries.{entries_of}
use Rattle.hdt_build.proofs.ScratchSequences.{mapped_ok, more_written}
use Rattle.hdt_build.proofs.scratch_sequences.put_entries.Goals as goal

pub entries-preserved : goal.entries-preserved
entries-preserved g c =
    let q = c.args.sequence in
    let mapped = c.map_err-in-entries in
    let found = mapped_ok c.next_entry.result mapped.result c.in_ok-entry.field-0 _ _ mapped.ensures.cases
    mapped.ensures.variant c.in_ok-entry.was c.next_entry.ensures.some in
    let taken = rw c.in-Some.is at found in
    record {
      known = λ known before head width fits begun.
          more_written before head width (entries_of q c.args.triples.now) fits (entries_of q c.entries.rest)
          (entries_of q c.next_entry.new.triples) c.in-Some.entry c.entries.writer c.push.new.self (taken known)
          c.in_ok-push.ensures (c.entries.invariant.known known before head width fits begun);
    }
