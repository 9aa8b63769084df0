use Rattle.std.proofs.Common.{◌≡◌, ◌||◌, [], length, unwrap_or}
use Rattle.hdt_dict.specs.Inside.Overlap.{contains_string, first_offset}
use Rattle.hdt_front.specs.Iteration.{LocatedAscend}
use Rattle.hdt_dict.proofs.ComparisonUpdates.{FirstTurns}
use Rattle.hdt_dict.proofs.overlap.first_common.Given as goal

abbrev pub invariant-loop-x : goal.invariant-loop-x
invariant-loop-x l = (first_offset (λ x. contains_string l.one x || contains_string (unwrap_or l.two []) x) l.list
    ≡ first_offset (λ x. contains_string l.initial.one x || contains_string (unwrap_or l.initial.two []) x)
    l.initial.list)
    × LocatedAscend l.list × LocatedAscend l.one × LocatedAscend (unwrap_or l.two [])
    × FirstTurns l.kept l.first l.one l.list × FirstTurns l.kept l.second (unwrap_or l.two []) l.list

abbrev pub decreases-loop-x : goal.decreases-loop-x
decreases-loop-x l = length l.list
