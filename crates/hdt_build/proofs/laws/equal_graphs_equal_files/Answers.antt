use Rattle.hdt_build.proofs.Equal.{same_bytes, same_reports}
use Rattle.hdt_build.proofs.laws.equal_graphs_equal_files.Goals as goal

pub returns-clause-file : goal.returns-clause-file
returns-clause-file c = same_bytes

pub returns-clause-report : goal.returns-clause-report
returns-clause-report c = same_reports
