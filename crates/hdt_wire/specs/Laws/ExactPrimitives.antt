-- The checks of numbers, bytes, texts and control information are exact.
use Rattle.std.proofs.Common.{◌≡◌, ℕ, List, Ok, sym, ap, ◌∙◌}
use Rattle.hdt_wire.specs.declared.control.Kind.{Kind}
use Rattle.hdt_wire.specs.Checks.{IsBytes}
use Rattle.hdt_wire.specs.VByte.{IsVByteAt, vbyte_at}
use Rattle.hdt_wire.specs.Laws.VByte.{vbyte_found, vbyte_only, vbyte_bounded}
use Rattle.hdt_wire.specs.Control.{ControlInfo, IsControlAt, control_at, expected_control_info}
use Rattle.hdt_wire.specs.Laws.Control.{control_found, control_only, control_is_bytes}
use Rattle.hdt_wire.specs.Exact.{Exactly}

pub number_exact : (bytes : List ℕ) (at : ℕ) → IsBytes bytes
    → Exactly (vbyte_at bytes at) (λ x. IsVByteAt x.0 bytes at x.1)
number_exact bytes at fits = record {
  found = λ x e. record { spelled = vbyte_found bytes at x fits e; below = (vbyte_bounded bytes at x e).value };
  only = λ x h. vbyte_only bytes at x.0 x.1 h.below h.spelled;
}

control_info_is : (kind : Kind) (bytes : List ℕ) (at : ℕ) (block : ControlInfo) → IsControlAt kind block bytes at
    → expected_control_info kind block.properties at block.end ≡ block
control_info_is kind bytes at block h =
    ap (λ (f : List ℕ). record {
      format = f;
      properties = block.properties;
      properties_at =
          (expected_control_info kind block.properties at block.end).properties_at;
      end = block.end;
    }) (sym h.format)
    ∙ ap (λ (n : ℕ). record {
      format = block.format;
      properties = block.properties;
      properties_at = n;
      end =
          block.end;
    }) (sym h.properties_at)

-- control information of a type
pub control_exact : (kind : Kind) (bytes : List ℕ) (at : ℕ) → IsBytes bytes
    → Exactly (control_at kind bytes at) (λ b. IsControlAt kind b bytes at)
control_exact kind bytes at fits = record {
  found = λ b e. control_found kind bytes at b fits e;
  only = λ b h.
      control_only kind bytes at b.properties b.end (control_is_bytes kind bytes at b.properties b.end fits h.spelled)
      h.no_zero h.spelled
      ∙ ap (λ (c : ControlInfo). Ok c) (control_info_is kind bytes at b h);
}
