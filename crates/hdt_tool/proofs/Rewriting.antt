-- The errors of `rewrite`, and when options are not valid.
use Rattle.std.proofs.Common.{◌≡◌, ◌≢◌, ◌↔◌, ℕ, List, Result, Ok, Err, ap, arith, refl}
use Rattle.std.specs.Prelude.{IsErrOf}
use Rattle.hdt_file.specs.File.{GraphParts, IsLayout}
use Rattle.hdt_build.specs.Options.{AreValidOptions, IsBlockSize}
use Rattle.hdt_build.specs.declared.fault.RewriteFault.{RewriteFault}
use Rattle.hdt_build.specs.declared.fault.RewriteFault.TheVariants as rewriting
use Rattle.hdt_tool.specs.declared.fault.ToolFault.{ToolFault}
use Rattle.hdt_tool.specs.declared.fault.ToolFault.TheVariants.{BadOptions}
use Rattle.hdt_tool.specs.declared.request.Action.{Action}
use Rattle.hdt_tool.specs.declared.request.Action.TheVariants.{Build, Rewrite}
use Rattle.hdt_tool.specs.Outcomes.{IfBuild, IsFaultOfBytes}
use Rattle.hdt_tool.specs.Faults.{rewrite_fault_of}

-- A block size is valid if it is not invalid.
pub size_written : (b : ℕ) → ((IsBlockSize b → ⊥) → ⊥) → IsBlockSize b
size_written b h = grind arith

-- The error of `rewrite` is an error for the bytes.
pub not_rewritten : (b : ℕ) (bytes : List ℕ) (graph : GraphParts) (fault : RewriteFault) → IsLayout bytes graph
    → (fault ≡ rewriting.BadOptions → IsBlockSize b → ⊥) → ((n : ℕ) → fault ≢ rewriting.Write n)
    → IsFaultOfBytes (Rewrite b) bytes (rewrite_fault_of fault)
not_rewritten b bytes graph rewriting.BadOptions encoded bad unwritten =
    record { graph = graph; encoded = encoded; holds = bad refl }
not_rewritten b bytes graph rewriting.OutOfMemory encoded bad unwritten = tt
not_rewritten b bytes graph (rewriting.Write n) encoded bad unwritten = absurd (unwritten n refl)

-- An equivalence about `BadOptions` carries over from one result to another.
pub still_bad : {T U : Type 0} (action : Action) (r : Result T ToolFault) (s : Result U ToolFault)
    → (IsErrOf r BadOptions → IsErrOf s BadOptions)
    → (IsErrOf s BadOptions → IsErrOf r BadOptions)
    → IfBuild action (λ options. IsErrOf r BadOptions ↔ (AreValidOptions options → ⊥))
    → IfBuild action (λ options. IsErrOf s BadOptions ↔ (AreValidOptions options → ⊥))
still_bad (Build options) r s to from h = (λ e. h.0 (from e), λ bad. to (h.1 bad))
still_bad action r s to from h = tt

-- The same error in a result of another type.
pub same_error : {T U : Type 0} (a b : ToolFault) → IsErrOf {T = T} (Err a) b → IsErrOf {T = U} (Err a) b
same_error {T} {U} a b e = let is : a ≡ b = cc in ap Err is

-- A success, or a write error.
pub not_error : {T P : Type 0} (x : T) (e : ToolFault) → IsErrOf {T = T} (Ok x) e → P
not_error {T} {P} x e is = absurd cc
