-- The index of a string in its block, and VBytes of one byte.
use Rattle.std.proofs.Common.{◌≡◌, ℕ, ◌+◌, ◌-◌, ◌*◌, ◌%◌, ◌/◌, ◌<◌, ◌≤◌, List, [], ◌∷◌, length, get_or, Ok, Result, sym}
use Rattle.std.proofs.Common.{ap, ◌∙◌, arith}
use Rattle.std.proofs.lemmas.Nat.{mod-mul-add, div-add-mod'}
use Rattle.std.proofs.Math.Nat.{mul-mod_left}
use Rattle.hdt_wire.specs.declared.fault.Fault.{Fault}
use Rattle.hdt_wire.specs.Checks.{EncodedAt}
use Rattle.hdt_wire.specs.VByte.{VByte, vbyte_at}
use Rattle.hdt_wire.specs.Laws.VByte.{vbyte_only}

-- The next string is the first of the next block, or the next one of this block.
pub next_block : (i b inside : ℕ) → inside ≡ i % b → inside + 1 ≡ b → 0 ≡ (i + 1) % b
next_block i b inside e last =
    let whole : i + 1 ≡ (i / b + 1) * b = omega (arith, div-add-mod' i b, e, last) in
    sym (ap (λ k. k % b) whole ∙ mul-mod_left (i / b + 1) b)

pub next_same : (i b inside : ℕ) → inside ≡ i % b → inside < b → (inside + 1 ≡ b → ⊥) → inside + 1 ≡ (i + 1) % b
next_same i b inside e short not_last =
    let whole : i + 1 ≡ i / b * b + (inside + 1) = omega (arith, div-add-mod' i b, e) in
    sym (ap (λ k. k % b) whole ∙ mod-mul-add (i / b) b (inside + 1) (omega (arith, short, not_last)))

-- A byte with its top bit set is a VByte.
pub one_byte : (rest : List ℕ) → 0 < length rest → 128 ≤ get_or rest 0 0 → get_or rest 0 0 < 256
    → (let r : Result (ℕ × ℕ) Fault = Ok (get_or rest 0 0 - 128, 1) in r) ≡ vbyte_at rest 0
one_byte [] some top byte = absurd (omega (arith, some))
one_byte (b ∷ rest) some top byte =
    let spelled : EncodedAt VByte (b ∷ rest) 0 (b - 128) 1 =
    record { in_order = omega arith; within = omega arith; spelled = (omega (arith, byte), omega (arith, top)) } in
    sym (vbyte_only (b ∷ rest) 0 (b - 128) 1 (omega (arith, byte)) spelled)
