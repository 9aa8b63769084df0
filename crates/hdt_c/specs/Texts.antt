-- The result of making the text of a graph.
use Rattle.std.specs.Prelude.{◌≡◌, ◌⊎◌, ℕ, List}
use Rattle.hdt_wire.specs.declared.Role.{Role}
use Rattle.hdt_wire.specs.declared.Role.TheVariants.{Subject, Predicate, Object}
use Rattle.hdt_triples.specs.TripleSequences.{Triple}
use Rattle.hdt_file.specs.Denoted.{denoted}
use Rattle.hdt_file.specs.File.{GraphParts}
use Rattle.hdt_file.specs.Text.{IsTextOf}
use Rattle.hdt_file.specs.TextWriting.{ReportsFirstNonTerm}
use Rattle.hdt_file.specs.declared.fault.DumpFault.{DumpFault}
use Rattle.hdt_file.specs.declared.fault.DumpFault.TheVariants as faults
use Rattle.hdt_c.specs.Bytes.{HoldsBytes, HoldsNoBytes}
use Rattle.hdt_c.specs.declared.bytes.HdtBytes.{HdtBytes}
use Rattle.hdt_c.specs.declared.report.HdtTextResult.{HdtTextResult}
use Rattle.hdt_c.specs.ReasonNumbers.{not_a_term_reason, out_of_memory_reason}

-- the result of a reason without a string
abbrev pub text_result_for : ℕ → HdtTextResult
text_result_for n = record { reason = n; role = 0; number = 0 }

-- the number of a role in c/hdt.h
abbrev pub role_number : Role → ℕ
role_number Subject = 0
role_number Predicate = 1
role_number Object = 2

-- the result of an error
abbrev pub text_result_of_fault : DumpFault → HdtTextResult
text_result_of_fault (faults.NotATerm role n) =
    record { reason = not_a_term_reason; role = role_number role; number = n }
text_result_of_fault (faults.Write n) = text_result_for out_of_memory_reason
text_result_of_fault faults.OutOfMemory = text_result_for out_of_memory_reason

-- the bytes are the text of the triples, and the result says so
pub record HoldsText (g : GraphParts) (found : List Triple) (out : HdtBytes) (outcome : HdtTextResult) : Type 0 where
  pub text : List ℕ
  pub is : IsTextOf (denoted g found) text
  pub bytes : HoldsBytes out text
  pub is_reported : outcome ≡ text_result_for 0

-- there are no bytes, and the result is that of the error: the first string of the first triple that is not a term
-- which its role allows, or that memory ran out
pub record HoldsNoText (g : GraphParts) (found : List Triple) (out : HdtBytes) (outcome : HdtTextResult) : Type 0 where
  pub fault : DumpFault
  pub is_fault : ReportsFirstNonTerm g found fault
  pub bytes : HoldsNoBytes out
  pub is_reported : outcome ≡ text_result_of_fault fault

-- the result of making the text of triples
abbrev pub ReportsText : GraphParts → List Triple → HdtBytes → HdtTextResult → Type 0
ReportsText g found out outcome = HoldsText g found out outcome ⊎ HoldsNoText g found out outcome
