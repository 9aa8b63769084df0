use Rattle.std.proofs.Common.{◌≡◌, ◌+◌, ℕ, List, [], map, length}
use Rattle.std.specs.Vec.Iter.{into_iter_items}
use Rattle.hdt_file.specs.Denoted.{StringTriple}
use Rattle.hdt_tool.specs.Changes.{update}
use Rattle.hdt_tool.specs.MergeInputs.{MergesInTurn, StopsMerging}
use Rattle.hdt_tool.specs.declared.fault.ToolFault.{ToolFault}
use Rattle.hdt_tool.proofs.scratch_merge.collect_files.Given as goal

-- What is left to read ends what the call began.
abbrev pub invariant-inputs : goal.invariant-inputs
invariant-inputs g l =
    let left = map (λ input. g.R.Read.remaining input) (into_iter_items l.input-iterator) in
    let all = map (λ input. g.R.Read.remaining input) (into_iter_items l.initial.input-iterator) in
    ((triples : List StringTriple) × (g.S.Scratch.IsKnown → l.builder ≡ triples)
    × ((after : List StringTriple) → MergesInTurn l.blank_nodes l.number left (update triples after)
    → MergesInTurn l.blank_nodes 0 all (update [] after)))
    × ((k : ℕ) (fault : ToolFault) → StopsMerging l.number left k fault → StopsMerging 0 all k fault)
    × (l.number + length (into_iter_items l.input-iterator) ≡ length (into_iter_items l.initial.input-iterator))
