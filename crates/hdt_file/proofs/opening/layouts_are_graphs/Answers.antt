use Rattle.hdt_file.proofs.FileLaws.{layout_graph}
use Rattle.hdt_file.proofs.opening.layouts_are_graphs.Goals as goal

pub returns : goal.returns
returns c = layout_graph
