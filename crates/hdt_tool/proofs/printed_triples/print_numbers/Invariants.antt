use Rattle.std.proofs.Common.{◌≡◌, ◌≤◌, ◌<◌, ◌+◌, ◌^◌, ◌++◌, length, take, drop}
use Rattle.std.specs.Io.KnownBytes.{Appends}
use Rattle.hdt_wire.specs.Counted.{inner, failures}
use Rattle.hdt_triples.specs.Remaining.{remaining_matches}
use Rattle.hdt_file.specs.TextWriting.{limited}
use Rattle.hdt_tool.specs.TriplesText.{numbers_lines}
use Rattle.hdt_tool.proofs.printed_triples.print_numbers.Given as goal

-- The text that has been written, followed by the buffer and the lines to come, is the complete text.
abbrev pub invariant-triples : goal.invariant-triples
invariant-triples g l =
    let lines = numbers_lines (limited l.fn.most (remaining_matches l.fn.found)) in
    record {
      within : l.pending.written ≤ length lines;
      gained : Appends (g.W.Write.contents (inner l.fn.out)) (g.W.Write.contents (inner l.out))
          (take l.pending.written lines);
      rest : drop l.pending.written lines
          ≡ l.pending.bytes.items ++ numbers_lines (take l.remaining (remaining_matches l.matches));
      fits : l.pending.written + length l.pending.bytes.items < 2 ^ 64;
      well : failures l.out ≡ failures l.fn.out;
    }

abbrev pub decreases-triples : goal.decreases-triples
decreases-triples g l = l.remaining
