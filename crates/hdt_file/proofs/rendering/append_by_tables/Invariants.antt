use Rattle.std.proofs.Common.{length}
use Rattle.hdt_wire.specs.Control.{IsPrefixOf}
use Rattle.hdt_file.specs.Graph.{layout_view}
use Rattle.hdt_file.specs.Inside.RenderedTerms.{AreTables}
use Rattle.hdt_file.proofs.TextByLine.{ContinuesText}
use Rattle.hdt_file.proofs.rendering.append_by_tables.Given as goal

abbrev pub invariant-lines : goal.invariant-lines
invariant-lines l =
    record {
      tables : AreTables (layout_view l.layout) l.rest l.tables;
      goes_on : ContinuesText (layout_view l.layout) l.triples l.rest l.fn.out.items l.out.items;
      left : IsPrefixOf l.fn.out.items l.out.items;
    }

abbrev pub decreases-lines : goal.decreases-lines
decreases-lines l = length l.rest
