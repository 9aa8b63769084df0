use Rattle.std.proofs.Common.{◌≤◌, length}
use Rattle.hdt_file.specs.Graph.{layout_view}
use Rattle.hdt_file.specs.Inside.WindowTerms.{HasWindowTerms}
use Rattle.hdt_file.proofs.windows.fill_first.Given as goal

abbrev pub invariant-halvings : goal.invariant-halvings
invariant-halvings l = HasWindowTerms (layout_view l.layout) l.window × (l.count ≤ length l.triples)

abbrev pub decreases-halvings : goal.decreases-halvings
decreases-halvings l = l.count
