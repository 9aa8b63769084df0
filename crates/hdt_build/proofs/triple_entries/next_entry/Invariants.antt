use Rattle.std.proofs.Common.{◌≡◌, ◌≤◌, length}
use Rattle.hdt_build.specs.Inside.TripleEntries.{entries_of}
use Rattle.hdt_build.proofs.triple_entries.next_entry.Given as goal

-- the triples that were passed have no entries
abbrev pub invariant-triples : goal.invariant-triples
invariant-triples g l = record {
  known : g.S.Scratch.IsKnown → entries_of l.fn.sequence l.fn.triples ≡ entries_of l.fn.sequence l.triples;
  fewer : length l.triples ≤ length l.fn.triples;
}

abbrev pub decreases-triples : goal.decreases-triples
decreases-triples g l = length l.triples
