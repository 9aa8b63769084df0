-- The verdict of rewriting a file.
use Rattle.std.specs.Prelude.{◌≡◌, ◌⊎◌, ℕ, List, Err}
use Rattle.hdt_wire.specs.declared.fault.Fault.{Fault}
use Rattle.hdt_file.specs.File.{GraphParts, IsLayout, decode_graph}
use Rattle.hdt_build.specs.Options.{IsBlockSize}
use Rattle.hdt_build.specs.Built.{IsRewritten}
use Rattle.hdt_build.specs.declared.options.Report.{Report}
use Rattle.hdt_c.specs.Building.{report_counts}
use Rattle.hdt_c.specs.Bytes.{HoldsBytes, HoldsNoBytes}
use Rattle.hdt_c.specs.Verdicts.{verdict_for, verdict_on}
use Rattle.hdt_c.specs.declared.bytes.HdtBytes.{HdtBytes}
use Rattle.hdt_c.specs.declared.verdict.HdtVerdict.{HdtVerdict}
use Rattle.hdt_c.specs.ReasonNumbers.{bad_options_reason, out_of_memory_reason}

-- the verdict of a file that was rewritten
abbrev pub rewritten_verdict : Report → HdtVerdict
rewritten_verdict r = record { reason = 0; place = 0; counts = report_counts r }

-- the block size is valid, and the new bytes are the canonical file of the graph that the bytes encode
pub record IsRewriteOf (bytes : List ℕ) (b : ℕ) (new : List ℕ) (report : Report) : Type 0 where
  pub graph : GraphParts
  pub layout : IsLayout bytes graph
  pub right : IsBlockSize b
  pub is : IsRewritten b graph new report

-- the bytes encode a graph, but the block size is not valid, and the verdict says so
pub record RefusesBlockSize (bytes : List ℕ) (b : ℕ) (v : HdtVerdict) : Type 0 where
  pub graph : GraphParts
  pub layout : IsLayout bytes graph
  pub bad : IsBlockSize b → ⊥
  pub is_reported : v ≡ verdict_for bad_options_reason

-- the verdict if the bytes are not rewritten: their first error; or, if they encode a graph, that the block size is not
-- valid; or that memory ran out
abbrev pub RefusesRewriting : List ℕ → ℕ → HdtVerdict → Type 0
RefusesRewriting bytes b v = ((fault : Fault) × (decode_graph bytes ≡ Err fault) × (v ≡ verdict_on (Err fault)))
    ⊎ (RefusesBlockSize bytes b v ⊎ (v ≡ verdict_for out_of_memory_reason))

-- the bytes are the new file, and the verdict says so
pub record RewritesBytes (bytes : List ℕ) (b : ℕ) (out : HdtBytes) (v : HdtVerdict) : Type 0 where
  pub new : List ℕ
  pub report : Report
  pub is : IsRewriteOf bytes b new report
  pub made : HoldsBytes out new
  pub is_reported : v ≡ rewritten_verdict report

-- the result of `hdt_rewrite`
abbrev pub ReportsRewrite : List ℕ → ℕ → HdtBytes → HdtVerdict → Type 0
ReportsRewrite bytes b out v = RewritesBytes bytes b out v ⊎ (HoldsNoBytes out × RefusesRewriting bytes b v)
