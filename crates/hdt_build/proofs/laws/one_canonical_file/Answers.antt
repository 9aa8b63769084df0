use Rattle.hdt_build.proofs.Equal.{one_file}
use Rattle.hdt_build.proofs.laws.one_canonical_file.Goals as goal

pub returns : goal.returns
returns c = one_file
