use Rattle.std.proofs.lemmas.Result.{err_from_is_err_and}
use Rattle.hdt_tool.proofs.LintFaults.{lint_write}
use Rattle.hdt_tool.proofs.lint.lint_input.Goals as goal

pub returns-in_err-count-clause-write : goal.returns-in_err-count-clause-write
returns-in_err-count-clause-write g c =
    let p = err_from_is_err_and c.from_residual.result c.from_residual.ensures.1 in
    rw p.1 (lint_write _ c.in_err-count.field-0.0 p.0 p.2 c.in_err-count.ensures.write)
