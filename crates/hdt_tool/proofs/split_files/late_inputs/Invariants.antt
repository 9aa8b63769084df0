use Rattle.std.proofs.Common.{◌≡◌, ◌∷◌, map, string_bytes, take}
use Rattle.hdt_tool.proofs.split_files.late_inputs.Given as goal

abbrev pub invariant-paths : goal.invariant-paths
invariant-paths l =
    map (λ input. input.path.now) l.inputs.items
    ≡ string_bytes l.request.file ∷ map string_bytes (take l.path-index l.others)
