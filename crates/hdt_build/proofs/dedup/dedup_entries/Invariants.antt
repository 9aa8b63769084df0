use Rattle.hdt_build.proofs.Deduplication.{AreListed}
use Rattle.hdt_build.proofs.dedup.dedup_entries.Given as goal

abbrev pub invariant-loop-at : goal.invariant-loop-at
invariant-loop-at l = record {
  listed : AreListed l.list l.ordered l.at l.strings l.ranks.items;
}
