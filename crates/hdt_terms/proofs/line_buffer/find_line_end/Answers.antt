use Rattle.std.proofs.Common.{arith}
use Rattle.std.proofs.lemmas.List.{take_rest}
use Rattle.hdt_terms.proofs.LineEnds.{end_found, no_end_found}
use Rattle.hdt_terms.proofs.line_buffer.find_line_end.Goals as goal

pub returns-then-end_at-bytes : goal.returns-then-end_at-bytes
returns-then-end_at-bytes c =
    let run = c.run_len.ensures in
    end_found c.args.bytes.now _ c.args.from c.run_len.result c.requires.within c.requires.none
    (take_rest c.args.bytes.now c.args.from) run.within run.run run.longest (omega arith)

pub returns-else-end_at-bytes : goal.returns-else-end_at-bytes
returns-else-end_at-bytes c =
    let run = c.run_len.ensures in
    no_end_found c.args.bytes.now _ c.args.from c.run_len.result c.requires.within c.requires.none
    (take_rest c.args.bytes.now c.args.from) run.within run.run (omega arith)
