-- The clauses of readers, from the laws of their checks.
use Rattle.std.proofs.Common.{◌≡◌, ℕ, ◌+◌, ◌-◌, ◌<◌, ◌≤◌, List, [], ◌∷◌, length, get_or, take, drop, Result, Ok, Err}
use Rattle.std.proofs.Common.{refl, sym, ap, subst, ◌∙◌, arith, drop-cons}
use Rattle.std.specs.Prelude.{slice_range}
use Rattle.std.specs.Prelude.{IfOk}
use Rattle.hdt_wire.specs.declared.fault.Fault.{Fault}
use Rattle.hdt_wire.specs.declared.control.Kind.{Kind}
use Rattle.hdt_wire.specs.declared.control.Control.{Control}
use Rattle.hdt_wire.specs.Checks.{Reads, IsBytes, EncodedAt}
use Rattle.hdt_wire.specs.VByte.{VByte, vbyte_at}
use Rattle.hdt_wire.specs.Laws.VByte.{vbyte_found, vbyte_only, vbyte_bounded}
use Rattle.hdt_wire.specs.Control.{ControlInfo, IsControlAt, control_view, control_at}
use Rattle.hdt_wire.specs.Laws.Control.{control_found}

pub number_found : (bytes : List ℕ) (at : ℕ) (r : Result (ℕ × ℕ) Fault) → IsBytes bytes → r ≡ vbyte_at bytes at
    → IfOk r (λ x. EncodedAt VByte bytes at x.0 x.1)
number_found bytes at (Ok x) fits e = vbyte_found bytes at x fits (sym e)
number_found bytes at (Err f) fits e = tt

pub number_ends : (bytes : List ℕ) (at : ℕ) (r : Result (ℕ × ℕ) Fault) → r ≡ vbyte_at bytes at
    → IfOk r (λ x. (at < x.1) × (x.1 ≤ length bytes))
number_ends bytes at (Ok x) e = let b = vbyte_bounded bytes at x (sym e) in (b.some, b.within)
number_ends bytes at (Err f) e = tt

pub control_info_found : (kind : Kind) (bytes : List ℕ) (at : ℕ) (r : Result Control Fault) → IsBytes bytes
    → Reads control_view r (control_at kind bytes at) → IfOk r (λ c. IsControlAt kind (control_view c) bytes at)
control_info_found kind bytes at (Ok c) fits e = control_found kind bytes at (control_view c) fits e
control_info_found kind bytes at (Err f) fits e = tt

pub control_info_only : (block : ControlInfo) (r : Result Control Fault) (read : Result ControlInfo Fault)
    → Reads control_view r read → read ≡ Ok block → Reads control_view r (Ok block)
control_info_only block (Ok c) read e h = sym h ∙ e
control_info_only block (Err f) read e h = sym h ∙ e

take-one : (bytes : List ℕ) (at : ℕ) → at < length bytes → take 1 (drop at bytes) ≡ get_or bytes at 0 ∷ []
take-one bytes at lt = rw (drop-cons bytes at 0) refl

-- a first byte with its top bit set is a number by itself
pub one_byte : (bytes : List ℕ) (at b : ℕ) → at < length bytes → b ≡ get_or bytes at 0 → 128 ≤ b → b < 256
    → vbyte_at bytes at ≡ Ok (b - 128, at + 1)
one_byte bytes at b lt is high small =
    let one : slice_range bytes at (at + 1) ≡ b ∷ [] =
    let size : at + 1 - at ≡ 1 = omega arith in
    rw size (take-one bytes at lt ∙ ap (λ (x : ℕ). x ∷ []) (sym is)) in
    let spells : VByte (b ∷ []) (b - 128) = (omega arith, omega arith) in
    vbyte_only bytes at (b - 128) (at + 1) (omega arith)
    (record {
      in_order = omega arith;
      within = omega arith;
      spelled =
          subst (λ (t : List ℕ). VByte t (b - 128)) (sym one) spells;
    })
