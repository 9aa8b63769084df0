use Rattle.std.proofs.Common.{Err, arith}
use Rattle.std.proofs.lemmas.Result.{err_from_is_err_and}
use Rattle.hdt_file.proofs.InfoLaws.{info_only}
use Rattle.hdt_file.proofs.info.file_info.Goals as goal

pub returns-in_err-read-clause-only : goal.returns-in_err-read-clause-only
returns-in_err-read-clause-only c = λ info h.
    let p = err_from_is_err_and c.from_residual.result c.from_residual.ensures.1 in
    rw (p.1, p.2) (info_only c.args.bytes.now (Err c.in_err-read.field-0.0) (λ i. omega (arith, c.type_inv.bytes i))
    (omega arith) tt c.in_err-read.ensures.exact info h)

pub returns-clause-only : goal.returns-clause-only
returns-clause-only c =
    info_only c.args.bytes.now c.layout_info.result (λ i. omega (arith, c.type_inv.bytes i)) (omega arith)
    c.layout_info.ensures.found c.layout_info.ensures.err
