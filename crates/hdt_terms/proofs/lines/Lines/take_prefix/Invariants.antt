use Rattle.std.proofs.Common.{◌≡◌, ◌*◌, ◌-◌, false, length}
use Rattle.hdt_wire.specs.Counted.{inner, failures}
use Rattle.hdt_terms.specs.LinesReader.{HasBufferedLine, unread_input}
use Rattle.hdt_terms.proofs.LinePrefixes.{Passing}
use Rattle.hdt_terms.proofs.lines.Lines.take_prefix.Given as goal

abbrev pub invariant-pieces : goal.invariant-pieces
invariant-pieces g l = record {
  passing : Passing l.most l.fn.self l.self (unread_input l.fn.self (g.R.Read.remaining (inner l.fn.input)))
      (unread_input l.self (g.R.Read.remaining (inner l.input))) l.text.items;
  going : l.self.ended ≡ false;
  count : failures l.input ≡ failures l.fn.input;
  unread : HasBufferedLine l.fn.self → (l.input ≡ l.fn.input) × HasBufferedLine l.self;
}

abbrev pub decreases-pieces : goal.decreases-pieces
decreases-pieces g l = 2 * (l.self.limit - l.self.taken) - length l.self.buffered
