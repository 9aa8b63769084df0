use Rattle.hdt_build.proofs.RewrittenFiles.{built_layout}
use Rattle.hdt_build.proofs.Layouts.{canonical_layout}
use Rattle.hdt_build.proofs.laws.canonical_files_are_layouts.Goals as goal

pub returns-clause-canonical : goal.returns-clause-canonical
returns-clause-canonical c = canonical_layout

pub returns-clause-built : goal.returns-clause-built
returns-clause-built c = built_layout
