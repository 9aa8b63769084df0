-- The verdict on a file.
use Rattle.std.specs.Prelude.{◌≡◌, ◌⊎◌, ℕ, List, [], ◌∷◌, Result, Ok, Err}
use Rattle.hdt_wire.specs.declared.fault.Fault.{Fault}
use Rattle.hdt_wire.specs.Fault.{reason_number}
use Rattle.hdt_file.specs.File.{GraphParts}
use Rattle.hdt_file.specs.Graph.{graph_counts}
use Rattle.hdt_file.specs.declared.fault.OpenFault.{OpenFault}
use Rattle.hdt_file.specs.declared.fault.OpenFault.TheVariants as opens
use Rattle.hdt_c.specs.declared.verdict.HdtVerdict.{HdtVerdict}
use Rattle.hdt_c.specs.ReasonNumbers.{out_of_memory_reason}

-- the counts if there are none
abbrev pub no_counts : List ℕ
no_counts = 0 ∷ 0 ∷ 0 ∷ 0 ∷ 0 ∷ []

-- the verdict of a reason without a byte offset
abbrev pub verdict_for : ℕ → HdtVerdict
verdict_for n = record { reason = n; place = 0; counts = no_counts }

-- the verdict on a file: its counts, or the reason and the byte offset of its first error
abbrev pub verdict_on : Result GraphParts Fault → HdtVerdict
verdict_on (Ok graph) = record { reason = 0; place = 0; counts = graph_counts graph }
verdict_on (Err fault) = record { reason = reason_number fault.reason; place = fault.place; counts = no_counts }

-- the verdict on the file, or that memory ran out
abbrev pub IsVerdictOn : HdtVerdict → Result GraphParts Fault → Type 0
IsVerdictOn v read = (v ≡ verdict_for out_of_memory_reason) ⊎ (v ≡ verdict_on read)

-- the verdict of the result of a call
abbrev pub verdict_of_result : Result (List ℕ) OpenFault → HdtVerdict
verdict_of_result (Ok counts) = record { reason = 0; place = 0; counts = counts }
verdict_of_result (Err (opens.Fault fault)) =
    record { reason = reason_number fault.reason; place = fault.place; counts = no_counts }
verdict_of_result (Err opens.OutOfMemory) = verdict_for out_of_memory_reason
