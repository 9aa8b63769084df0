use Rattle.std.proofs.Common.{◌≡◌, length}
use Rattle.hdt_dict.specs.Inside.Overlap.{drop_less, IsComparison}
use Rattle.hdt_dict.proofs.overlap.seek_not_less.Given as goal

abbrev pub invariant-loop-cursor : goal.invariant-loop-cursor
invariant-loop-cursor l = IsComparison l.comparison l.cursor l.x
    × (drop_less l.x l.cursor ≡ drop_less l.x l.initial.cursor)

abbrev pub decreases-loop-cursor : goal.decreases-loop-cursor
decreases-loop-cursor l = length l.cursor
