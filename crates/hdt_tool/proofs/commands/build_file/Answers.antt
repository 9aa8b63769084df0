use Rattle.std.proofs.lemmas.Result.{err_from_is_err_and}
use Rattle.hdt_tool.proofs.Outputs.{not_failed}
use Rattle.hdt_tool.proofs.commands.build_file.Goals as goal

pub returns-in_err-file-clause-reader_reported : goal.returns-in_err-file-clause-reader_reported
returns-in_err-file-clause-reader_reported g c =
    let p = err_from_is_err_and c.from_residual.result c.from_residual.ensures.1 in
    rw (p.1, p.2) (λ not. c.in_err-file.ensures.reader_reported (not_failed c.in_err-file.field-0.0 not))

pub returns-clause-ok : goal.returns-clause-ok
returns-clause-ok g c = record {
  built = c.in_ok-file.file.items;
  yields = record {
    report = c.in_ok-file.report;
    file = c.in_ok-file.ensures.found;
    printed =
        c.in_ok-text.ensures.line;
  };
  made = c.in_ok-text.ensures.items;
}
