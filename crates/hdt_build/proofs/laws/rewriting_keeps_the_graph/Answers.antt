use Rattle.hdt_build.proofs.RewrittenFiles.{rewritten_layout}
use Rattle.hdt_build.proofs.laws.rewriting_keeps_the_graph.Goals as goal

pub returns : goal.returns
returns c = rewritten_layout
