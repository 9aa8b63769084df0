use Rattle.std.proofs.lemmas.Result.{err_from_is_err_and}
use Rattle.clap.specs.Words.{found_of, rows_of}
use Rattle.hdt_tool.specs.CommandLine.{AsksFor, HasInvalidTerm, IsRequestOf}
use Rattle.hdt_tool.specs.declared.request.Request.{Request}
use Rattle.hdt_tool.proofs.Refusals.{asks_for_more}
use Rattle.hdt_tool.proofs.command_line.invocation_of.Goals as goal

pub returns-in_err-request_of-clause-refused : goal.returns-in_err-request_of-clause-refused
returns-in_err-request_of-clause-refused c =
    let name = c.args.name.now in
    let rows = rows_of (found_of c.args.matches.now) in
    let p = err_from_is_err_and c.from_residual.result c.from_residual.ensures.1 in
    rw (p.1, p.2)
    (asks_for_more ((request : Request) × IsRequestOf name rows request)
    ((request : Request) × AsksFor name rows request) (HasInvalidTerm name rows) c.in_err-request_of.field-0.0
    (λ asked. (asked.0, asked.1.0)) c.in_err-request_of.ensures.refused)
