use Rattle.hdt_build.proofs.ReplacedHeaders.{replaced_layout}
use Rattle.hdt_build.proofs.new_header.new_headers_keep_the_graph.Goals as goal

pub returns : goal.returns
returns c = replaced_layout
