-- Reading several files with scratch.
use Rattle.std.proofs.Common.{◌≡◌, ℕ, List, Option}
use Rattle.hdt_file.specs.File.{GraphParts}
use Rattle.hdt_tool.specs.Changes.{Change}
use Rattle.hdt_tool.specs.MergeInputs.{IsFileWith}
use Rattle.hdt_tool.specs.Outcomes.{IsLayoutWith, ReadsWith}

-- A file that was read is one for whose graph Q is true, if that is so.
pub file_with : (input : Option (List ℕ)) (read : Change) (P Q : GraphParts → Type 0) → read.before ≡ input
    → (file : ReadsWith read (λ bytes. IsLayoutWith bytes P)) → Q file.holds.graph → IsFileWith input Q
file_with input read P Q begun file holds = (
  read,
  begun,
  record {
    bytes = file.bytes;
    read = file.read;
    holds = record { graph = file.holds.graph; encoded = file.holds.encoded; holds = holds };
  },
)
