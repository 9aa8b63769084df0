use Rattle.hdt_build.proofs.BuiltForm.{report_of_lens}
use Rattle.hdt_build.proofs.file.counted_report.Goals as goal

pub returns : goal.returns
returns c = λ d ts all is many long. report_of_lens c.args.lens d ts all _ _ is many long
