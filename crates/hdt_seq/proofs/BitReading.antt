-- Reading a bit from its byte.
use Rattle.std.proofs.Common.{◌≡◌, ℕ, ◌/◌, ◌%◌, ◌^◌, eqb, bit_and, List, get_or, ap, ◌∙◌}
use Rattle.std.proofs.lemmas.Nat.{and_mask}
use Rattle.hdt_wire.specs.Checks.{IsBytes}
use Rattle.hdt_seq.specs.PackedBits.{bit}
use Rattle.hdt_seq.specs.Laws.LittleEndian.{bit_of_byte}

pub bit_is : (bytes : List ℕ) (i : ℕ) → IsBytes bytes → eqb (bit_and (get_or bytes (i / 8) 0 / 2 ^ (i % 8)) 1) 1
    ≡ bit bytes i
unfolding bit
bit_is bytes i small = ap (λ (n : ℕ). eqb n 1) (and_mask (get_or bytes (i / 8) 0 / 2 ^ (i % 8)) 1
    ∙ bit_of_byte bytes i small)
