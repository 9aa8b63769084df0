use Rattle.std.proofs.lemmas.Result.{err_from_is_err_and}
use Rattle.hdt_tool.proofs.ParsedArguments.{without}
use Rattle.hdt_tool.proofs.merge_arguments.merge_action.Goals as goal

pub returns-in_err-options-clause-refused : goal.returns-in_err-options-clause-refused
returns-in_err-options-clause-refused c =
    let p = err_from_is_err_and c.from_residual.result c.from_residual.ensures.1 in
    rw (p.1, p.2) (without _ _ c.in_err-options.field-0.0 (λ w. (w.0.options, w.2.file))
    c.in_err-options.ensures.refused)

pub returns-in_err-blank_nodes-clause-refused : goal.returns-in_err-blank_nodes-clause-refused
returns-in_err-blank_nodes-clause-refused c =
    let back = c.from_residual-in_err-blank_nodes in
    let p = err_from_is_err_and back.result back.ensures.1 in
    rw (p.1, p.2) (without _ _ c.in_err-blank_nodes.field-0.0 (λ w. (w.1, w.3)) c.in_err-blank_nodes.ensures.refused)
