use Rattle.std.proofs.Common.{◌≡◌, ◌+◌, ◌-◌, ◌<◌, ◌≤◌, cond, List, length, map}
use Rattle.std.specs.Int.{from_bool}
use Rattle.hdt_wire.specs.Counted.{inner, failures}
use Rattle.hdt_terms.specs.LinesReader.{unread_input}
use Rattle.hdt_terms.specs.Documents.{DocumentLine}
use Rattle.hdt_terms.proofs.DocumentLines.{HasReadLines}
use Rattle.hdt_terms.proofs.SplitLines.{Collected}
use Rattle.hdt_terms.proofs.split.split_document.Given as goal

-- The lines that have been split, what the writers have gained, and what is pending.
abbrev pub invariant-lines : goal.invariant-lines
invariant-lines g l = record {
  split : (lines : List DocumentLine)
      × HasReadLines l.lines (g.R.Read.remaining (inner l.fn.input))
      (unread_input l.lines (g.R.Read.remaining (inner l.input))) lines
      × Collected l.prefix (length (map (λ out. g.W.Write.contents (inner out)) l.fn.outs)) lines
      (map (λ out. g.W.Write.contents (inner out)) l.fn.outs) (map (λ out. g.W.Write.contents (inner out)) l.outs)
      (map (λ text. text.items) l.pending.items)
      (record { number = l.splitter.number; part = l.splitter.part }) l.splitter.report;
  count : l.splitter.report.triples ≤ l.lines.taken + from_bool l.lines.ended;
  taken : l.lines.taken < 9223372036854775808;
  parts : l.splitter.parts ≡ length l.fn.outs;
  part : l.splitter.part < length l.fn.outs;
  outs : length l.outs ≡ length l.fn.outs;
  pending : length l.pending.items ≡ length l.fn.outs;
  well : map failures l.outs ≡ map failures l.fn.outs;
  input : failures l.input ≡ failures l.fn.input;
}

abbrev pub decreases-lines : goal.decreases-lines
decreases-lines g l = cond l.lines.ended 0 (l.lines.limit - l.lines.taken + 1)
