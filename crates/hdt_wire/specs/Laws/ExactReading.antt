-- What a reader promises if its result is that of exact checks.
use Rattle.std.proofs.Common.{◌≡◌, Option, Some, None, Result, Ok, Err, sym, ◌∙◌}
use Rattle.std.specs.Prelude.{IfOk, IfSome}
use Rattle.hdt_wire.specs.declared.fault.Fault.{Fault}
use Rattle.hdt_wire.specs.Checks.{Reads, ReadsUnlessOom}
use Rattle.hdt_wire.specs.Exact.{Exactly}

module _ {X Y : Type 0} (view : X → Y) (checks : Result Y Fault) (Is : Y → Type 0) where
  -- what is returned has the property
  pub reads_found : (r : Result X Fault) → Exactly checks Is → Reads view r checks → IfOk r (λ x. Is (view x))
  reads_found (Ok x) h e = h.found (view x) e
  reads_found (Err f) h e = tt

  -- what has the property is returned
  pub reads_only : (r : Result X Fault) → Exactly checks Is → Reads view r checks → (y : Y) → Is y → Reads view r (Ok y)
  reads_only (Ok x) h e y is = sym (h.only y is) ∙ e
  reads_only (Err f) h e y is = sym (h.only y is) ∙ e

  module _ {E : Type 0} (fault_of : E → Option Fault) where
    -- the same for a reader that may run out of memory
    pub reads_unless_oom_found : (r : Result X E) → Exactly checks Is → ReadsUnlessOom fault_of view r checks
        → IfOk r (λ x. Is (view x))
    reads_unless_oom_found (Ok x) h e = h.found (view x) e
    reads_unless_oom_found (Err f) h e = tt

    err_by : (o : Option Fault) (y : Y) → checks ≡ Ok y → IfSome o (λ f. checks ≡ Err f)
        → IfSome o (λ f. (let r : Result Y Fault = Ok y in r) ≡ Err f)
    err_by None y ok e = tt
    err_by (Some f) y ok e = sym ok ∙ e

    pub reads_unless_oom_only : (r : Result X E) → Exactly checks Is → ReadsUnlessOom fault_of view r checks → (y : Y)
        → Is y → ReadsUnlessOom fault_of view r (Ok y)
    reads_unless_oom_only (Ok x) h e y is = sym (h.only y is) ∙ e
    reads_unless_oom_only (Err f) h e y is = err_by (fault_of f) y (h.only y is) e
