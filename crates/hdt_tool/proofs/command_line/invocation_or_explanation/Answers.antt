use Rattle.std.proofs.lemmas.Result.{IfErr-weaker}
use Rattle.clap.specs.Words.{found_of, rows_of}
use Rattle.hdt_tool.proofs.Refusals.{of_explain, of_request}
use Rattle.hdt_tool.proofs.command_line.invocation_or_explanation.Goals as goal

pub returns-in-explain-clause-refused : goal.returns-in-explain-clause-refused
returns-in-explain-clause-refused c =
    of_explain c.args.name.now (rows_of (found_of c.args.matches.now)) c.explanation.result c.in-explain.is
    c.explanation.ensures

pub returns-in_default-clause-refused : goal.returns-in_default-clause-refused
returns-in_default-clause-refused c =
    IfErr-weaker c.invocation_of.result _ _
    (λ r h. of_request c.args.name.now (rows_of (found_of c.args.matches.now)) r c.in_default.not-explain h)
    c.invocation_of.ensures.refused
