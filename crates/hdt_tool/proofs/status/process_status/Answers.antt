use Rattle.std.proofs.Common.{map, string_bytes}
use Rattle.hdt_tool.proofs.Statuses.{ends, was_given}
use Rattle.hdt_tool.proofs.status.process_status.Goals as goal

pub returns-in-Ok-clause-given : goal.returns-in-Ok-clause-given
returns-in-Ok-clause-given c =
    ends (λ words. map string_bytes words.items) c.args.words c.parse_process_arguments.result c.command_status.result
    c.parse_process_arguments.ensures.ok c.parse_process_arguments.ensures.refused
    (rw c.in-Ok.is c.command_status.ensures)

pub returns-in-Ok-clause-memory : goal.returns-in-Ok-clause-memory
returns-in-Ok-clause-memory c =
    was_given (λ words. map string_bytes words.items) c.args.words c.parse_process_arguments.result c.in-Ok.invocation
    _ c.in-Ok.is c.parse_process_arguments.ensures.ok

pub returns-in-Ok-clause-other : goal.returns-in-Ok-clause-other
returns-in-Ok-clause-other c =
    was_given (λ words. map string_bytes words.items) c.args.words c.parse_process_arguments.result c.in-Ok.invocation
    _ c.in-Ok.is c.parse_process_arguments.ensures.ok
