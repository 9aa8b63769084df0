use Rattle.std.proofs.Common.{refl}
use Rattle.hdt_build.proofs.file.report_of.Goals as goal

pub returns : goal.returns
returns c = λ d is. c.counted_report.ensures d c.args.triples.now c.args.bytes.now is refl refl
