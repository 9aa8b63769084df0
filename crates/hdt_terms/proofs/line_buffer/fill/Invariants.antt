use Rattle.std.proofs.Common.{◌≡◌, ◌≤◌, ◌-◌, length}
use Rattle.hdt_wire.specs.Counted.{inner, failures}
use Rattle.hdt_terms.specs.Lines.{HasNoLineEnd}
use Rattle.hdt_terms.specs.Inside.LineBuffer.{AppendsInput}
use Rattle.hdt_terms.proofs.line_buffer.fill.Given as goal

abbrev pub invariant-fill : goal.invariant-fill
invariant-fill g l = record {
  grew : AppendsInput l.fn.buffered l.buffered (g.R.Read.remaining (inner l.fn.input))
      (g.R.Read.remaining (inner l.input));
  no_end : HasNoLineEnd l.buffered;
  count : failures l.input ≡ failures l.fn.input;
  below_limit : length l.buffered ≤ l.most;
}

abbrev pub decreases-fill : goal.decreases-fill
decreases-fill g l = l.most - length l.buffered
