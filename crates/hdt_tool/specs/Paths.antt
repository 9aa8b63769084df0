-- Paths that name standard input, and the inputs and outputs of `split`.
use Rattle.std.specs.Prelude.{◌≡◌, ◌⊎◌, ◌==◌, ℕ, List, ◌∷◌, Option, None, Some, codes, map, string_bytes}
use Rattle.std.specs.Prelude.{if◌then◌else◌}
use Rattle.std.specs.declared.alloc.Global.{Global}
use Rattle.std.specs.declared.string.String.{String}
use Rattle.hdt_wire.specs.Counted.{inner}
use Rattle.hdt_wire.specs.declared.counted.Counted.{Counted}
use Rattle.hdt_tool.specs.declared.request.Request.{Request}
use Rattle.hdt_tool.specs.declared.split_parts.PrintedPart.{PrintedPart}

-- The path names standard input.
abbrev pub IsStdinPath : List ℕ → Type 0
IsStdinPath path = (path ≡ codes "-") ⊎ ((path ≡ codes "/dev/stdin") ⊎ ((path ≡ codes "/dev/fd/0")
    ⊎ (path ≡ codes "/proc/self/fd/0")))

-- The paths of several inputs: FILE, and then the others.
abbrev pub input_paths : Request → List (String Global) → List (List ℕ)
input_paths request others = string_bytes request.file ∷ map string_bytes others

-- Where a part is printed, if it is.
abbrev pub printed_to : {W : Type 0} → Counted (PrintedPart W) → Option W
printed_to part = (inner part).out

-- Only the part with this number is printed.
abbrev pub printed_part : {W : Type 0} → ℕ → W → ℕ → Option W
printed_part part out number = if number == part then Some out else None
