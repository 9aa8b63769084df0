use Rattle.std.proofs.Common.{map}
use Rattle.std.proofs.lemmas.Result.{IfOk-weaker}
use Rattle.hdt_tool.proofs.OutPaths.{wanted_out}
use Rattle.hdt_tool.proofs.Refusals.{parses_to_request}
use Rattle.hdt_tool.proofs.command_line.parse_invocation.Goals as goal

pub returns-clause-out : goal.returns-clause-out
returns-clause-out c =
    let words = map (λ word. word.now) c.args.words.now in
    IfOk-weaker c.parse_with_roles.result _ _
    (λ invocation w. wanted_out words invocation.request (parses_to_request words invocation w))
    c.parse_with_roles.ensures.ok
