use Rattle.std.proofs.Common.{◌≡◌, map, length, ◌+◌}
use Rattle.std.specs.Vec.Iter.{into_iter_items}
use Rattle.hdt_wire.specs.Counted.{inner, failures}
use Rattle.hdt_tool.specs.Changes.{update}
use Rattle.hdt_tool.specs.SplitInputs.{Contents, SplitsInTurn, StopsInTurn, Turn, first_turn}
use Rattle.hdt_tool.specs.declared.splitting.SplitInputsFault.{SplitInputsFault}
use Rattle.hdt_tool.proofs.splitting.split_inputs.Given as goal

-- What is left to split ends what the call began.
abbrev pub invariant-inputs : goal.invariant-inputs
invariant-inputs g l =
    let turn : Turn = record { mode = l.blank_nodes; first = l.first; number = l.number } in
    let left = map (λ input. g.R.Read.remaining input) (into_iter_items l.input-iterator) in
    let all = map (λ input. g.R.Read.remaining input) (into_iter_items l.initial.input-iterator) in
    let now = map (λ out. g.W.Write.contents (inner out)) l.outs in
    let old = map (λ out. g.W.Write.contents (inner out)) l.initial.outs in
    ((after : Contents) → SplitsInTurn turn left (update now after)
    → SplitsInTurn (first_turn l.blank_nodes) all (update old after))
    × ((after : Contents) (stop : SplitInputsFault) → StopsInTurn turn left (update now after) stop
    → StopsInTurn (first_turn l.blank_nodes) all (update old after) stop)
    × (l.number + length (into_iter_items l.input-iterator) ≡ length (into_iter_items l.initial.input-iterator))
    × (length l.outs ≡ length l.initial.outs)
    × (map (λ out. failures out) l.outs ≡ map (λ out. failures out) l.initial.outs)
