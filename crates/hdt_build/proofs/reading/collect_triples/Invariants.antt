use Rattle.std.proofs.Common.{◌≡◌, ◌-◌, None}
use Rattle.hdt_wire.specs.Counted.{inner, failures}
use Rattle.hdt_terms.specs.LinesReader.{unread_input}
use Rattle.hdt_build.specs.Reading.{HasDictionaryStrings}
use Rattle.hdt_build.proofs.DocumentReading.{IsReadSoFar}
use Rattle.hdt_build.proofs.reading.collect_triples.Given as goal

abbrev pub invariant-triples : goal.invariant-triples
invariant-triples g l = record {
  failed : l.lines.failed ≡ None;
  sound : g.C.Collector.IsSound l.collector;
  texts : g.C.Collector.IsKnown → HasDictionaryStrings (g.C.Collector.triples l.collector);
  run : IsReadSoFar g.C.Collector.IsKnown l.prefix l.lines (g.R.Read.remaining (inner l.fn.input))
      (unread_input l.lines (g.R.Read.remaining (inner l.input))) (g.C.Collector.triples l.fn.collector)
      (g.C.Collector.triples l.collector) l.has_blank_nodes;
  count : failures l.input ≡ failures l.fn.input;
}

abbrev pub decreases-triples : goal.decreases-triples
decreases-triples g l = l.lines.limit - l.lines.taken
