use Rattle.std.proofs.Common.{drop}
use Rattle.hdt_wire.specs.Control.{IsPrefixOf}
use Rattle.hdt_file.specs.File.{GraphParts}
use Rattle.hdt_file.specs.Inside.RenderedTerms.{AreTables}
use Rattle.hdt_file.proofs.TextByLine.{ContinuesText}
use Rattle.hdt_file.proofs.term_tables.append_lines.Given as goal

abbrev pub invariant-triples : goal.invariant-triples
invariant-triples l =
    record {
      goes_on : (g : GraphParts) → AreTables g l.triples l.fn.tables
          → ContinuesText g l.triples (drop l.at l.triples) l.fn.out.items l.out.items;
      kept : IsPrefixOf l.fn.out.items l.out.items;
    }
