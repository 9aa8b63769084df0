use Rattle.std.proofs.Common.{◌≡◌, ◌-◌, false, List, ℕ}
use Rattle.hdt_wire.specs.Counted.{inner, failures}
use Rattle.hdt_terms.specs.Lines.{LinesWithoutTriples}
use Rattle.hdt_terms.specs.LinesReader.{unread_input, Takes}
use Rattle.hdt_terms.proofs.lines.Lines.find_triple_line.Given as goal

abbrev pub invariant-lines : goal.invariant-lines
invariant-lines g l = record {
  taken : (bytes : List ℕ) × Takes l.fn.self l.self (unread_input l.fn.self (g.R.Read.remaining (inner l.fn.input)))
      (unread_input l.self (g.R.Read.remaining (inner l.input))) bytes × LinesWithoutTriples bytes;
  count : failures l.input ≡ failures l.fn.input;
  going : l.self.ended ≡ false;
}

abbrev pub decreases-lines : goal.decreases-lines
decreases-lines g l = l.self.limit - l.self.taken
