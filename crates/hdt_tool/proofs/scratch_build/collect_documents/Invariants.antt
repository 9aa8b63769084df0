use Rattle.std.proofs.Common.{◌≡◌, ◌+◌, List, [], map, length}
use Rattle.std.specs.Vec.Iter.{into_iter_items}
use Rattle.hdt_file.specs.Denoted.{StringTriple}
use Rattle.hdt_tool.specs.BuildInputs.{AddsInTurn, ReadsInTurn, StopsReading}
use Rattle.hdt_tool.specs.Changes.{update}
use Rattle.hdt_tool.specs.SplitInputs.{Turn, first_turn}
use Rattle.hdt_tool.specs.declared.splitting.SplitInputsFault.{SplitInputsFault}
use Rattle.hdt_tool.proofs.scratch_build.collect_documents.Given as goal

-- What is left to read ends what the call began.
abbrev pub invariant-inputs : goal.invariant-inputs
invariant-inputs g l =
    let turn : Turn = record { mode = l.blank_nodes; first = l.first; number = l.number } in
    let left = map (λ input. g.R.Read.remaining input) (into_iter_items l.input-iterator) in
    let all = map (λ input. g.R.Read.remaining input) (into_iter_items l.initial.input-iterator) in
    (g.S.Scratch.IsKnown → (after : List StringTriple) → AddsInTurn turn left (update l.builder after)
    → AddsInTurn (first_turn l.blank_nodes) all (update [] after))
    × (ReadsInTurn turn left → ReadsInTurn (first_turn l.blank_nodes) all)
    × ((stop : SplitInputsFault) → StopsReading turn left stop → StopsReading (first_turn l.blank_nodes) all stop)
    × (l.number + length (into_iter_items l.input-iterator) ≡ length (into_iter_items l.initial.input-iterator))
