use Rattle.std.proofs.Common.{◌≡◌, ◌++◌, drop}
use Rattle.hdt_tool.specs.PrintedReports.{escaped}
use Rattle.hdt_tool.proofs.printed_reports.put_escaped.Given as goal

abbrev pub invariant-bytes : goal.invariant-bytes
invariant-bytes l = l.out.items ++ escaped (drop l.byte-index l.rest) ≡ l.fn.out.items ++ escaped l.text
