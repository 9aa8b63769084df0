use Rattle.std.proofs.Common.{◌≤◌, length}
use Rattle.hdt_file.specs.Graph.{layout_view}
use Rattle.hdt_build.specs.Inside.WindowStrings.{HasWindowStrings}
use Rattle.hdt_build.proofs.layout_triples.fill_first.Given as goal

abbrev pub invariant-halvings : goal.invariant-halvings
invariant-halvings l = HasWindowStrings l.prefix (layout_view l.layout) l.window × (l.count ≤ length l.triples)

abbrev pub decreases-halvings : goal.decreases-halvings
decreases-halvings l = l.count
