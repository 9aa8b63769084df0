use Rattle.hdt_terms.proofs.LineEnds.{ascii_no_end}
use Rattle.hdt_terms.proofs.TokenTests.{line_utf8}
use Rattle.std.proofs.Common.{sym, ◌∙◌}
use Rattle.hdt_terms.proofs.line_buffer.scan_ascii_line.Goals as goal

pub returns-then-n-bytes-clause-utf8 : goal.returns-then-n-bytes-clause-utf8
returns-then-n-bytes-clause-utf8 c =
    line_utf8 c.args.bytes.now c.run_len-n.result c.run_len-n.ensures.within c.run_len-n.ensures.run

pub returns-then-n-bytes-clause-end : goal.returns-then-n-bytes-clause-end
returns-then-n-bytes-clause-end c =
    λ yes. (
      c.if-n-bytes.true,
      sym c.is_line_end.ensures ∙ yes,
      ascii_no_end c.args.bytes.now c.run_len-n.result c.run_len-n.ensures.within c.run_len-n.ensures.run,
    )

pub returns-else-n-bytes-clause-none : goal.returns-else-n-bytes-clause-none
returns-else-n-bytes-clause-none c =
    ascii_no_end c.args.bytes.now c.run_len-n.result c.run_len-n.ensures.within c.run_len-n.ensures.run

pub returns-else-n-bytes-clause-utf8 : goal.returns-else-n-bytes-clause-utf8
returns-else-n-bytes-clause-utf8 c =
    line_utf8 c.args.bytes.now c.run_len-n.result c.run_len-n.ensures.within c.run_len-n.ensures.run
