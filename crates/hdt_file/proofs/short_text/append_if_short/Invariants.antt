use Rattle.std.proofs.Common.{drop}
use Rattle.hdt_wire.specs.Control.{IsPrefixOf}
use Rattle.hdt_file.specs.CachedTerms.{CachesTerms}
use Rattle.hdt_file.specs.Graph.{layout_view}
use Rattle.hdt_file.proofs.TextByLine.{ContinuesText}
use Rattle.hdt_file.proofs.short_text.append_if_short.Given as goal

abbrev pub invariant-triples : goal.invariant-triples
invariant-triples l =
    record {
      kept : CachesTerms (layout_view l.layout) l.term_writer;
      goes_on : ContinuesText (layout_view l.layout) l.triples (drop l.at l.triples) l.fn.out.items l.out.items;
      left : IsPrefixOf l.fn.out.items l.out.items;
    }
