use Rattle.std.proofs.Common.{◌≡◌, ℕ, Bool, true, false, List, length, Some, None, refl, sym, arith}
use Rattle.std.specs.List.{position_or_len}
use Rattle.std.proofs.lemmas.List.Sums.{position_or_len_is}
use Rattle.memchr.specs.Find.{IsFirstByte}
use Rattle.hdt_wire.specs.Property.{is_byte}
use Rattle.hdt_build.proofs.new_header.item_end.Goals as goal

fails : (b : Bool) → (b ≡ true → ⊥) → b ≡ false
fails true h = absurd (h refl)
fails false h = refl

first_at : (p : ℕ → Bool) (bytes : List ℕ) (k : ℕ) → IsFirstByte p bytes (Some k) → position_or_len p bytes ≡ k
first_at p bytes k h = position_or_len_is p bytes k 0 (omega (arith, h.0.high))
    (λ j lt. fails _ (h.0.before j (omega arith) lt)) (λ lt. h.1)

first_none : (p : ℕ → Bool) (bytes : List ℕ) → IsFirstByte p bytes None → position_or_len p bytes ≡ length bytes
first_none p bytes h = position_or_len_is p bytes (length bytes) 0 (omega arith)
    (λ j lt. fails _ (h j (omega arith) lt)) (λ lt. absurd (omega arith))

pub returns-in-Some-clause-index : goal.returns-in-Some-clause-index
returns-in-Some-clause-index c = sym (first_at (is_byte 59) c.args.text.now c.in-Some.at c.in-Some.ensures)

pub returns-in-None-clause-index : goal.returns-in-None-clause-index
returns-in-None-clause-index c = sym (first_none (is_byte 59) c.args.text.now c.in-None.ensures)
