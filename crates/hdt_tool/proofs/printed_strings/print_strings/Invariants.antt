use Rattle.std.proofs.Common.{◌≡◌, ◌≤◌, ◌<◌, ◌+◌, ◌^◌, ◌++◌, length, take, drop}
use Rattle.std.specs.Io.KnownBytes.{Appends}
use Rattle.hdt_wire.specs.Counted.{inner, failures}
use Rattle.hdt_file.specs.Graph.{layout_view}
use Rattle.hdt_dict.specs.Dictionary.{role_strings}
use Rattle.hdt_tool.specs.StringsText.{string_lines}
use Rattle.hdt_tool.proofs.printed_strings.print_strings.Given as goal

-- The text that has been written, followed by the buffer and the lines to come, is the complete text.
abbrev pub invariant-strings : goal.invariant-strings
invariant-strings g l =
    let lines = string_lines 1 (role_strings (layout_view l.fn.layout).dictionary l.fn.role) in
    record {
      within : l.pending.written ≤ length lines;
      gained : Appends (g.W.Write.contents (inner l.fn.out)) (g.W.Write.contents (inner l.out))
          (take l.pending.written lines);
      rest : drop l.pending.written lines ≡ l.pending.bytes.items ++ string_lines (l.strings.given + 1) l.strings.ahead;
      fits : l.pending.written + length l.pending.bytes.items < 2 ^ 64;
      well : failures l.out ≡ failures l.fn.out;
    }

abbrev pub decreases-strings : goal.decreases-strings
decreases-strings g l = length l.strings.ahead
