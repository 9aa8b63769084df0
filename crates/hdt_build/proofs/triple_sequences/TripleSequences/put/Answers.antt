use Rattle.std.proofs.Common.{◌≡◌, ◌++◌, List, ℕ, append_assoc, ap, ◌∙◌}
use Rattle.std.proofs.lemmas.Result.{on_ok_weaker}
use Rattle.hdt_wire.specs.declared.control.Kind.TheVariants as kinds
use Rattle.hdt_wire.specs.Control.{control}
use Rattle.hdt_seq.specs.Numbers.{numbers_encoding}
use Rattle.hdt_seq.specs.Bits.{bits_encoding}
use Rattle.hdt_triples.specs.Writing.{order_property, canonical_sequences}
use Rattle.hdt_build.proofs.triple_sequences.TripleSequences.put.Goals as goal

-- appending twice appends the concatenation
more : (old x r s y : List ℕ) → r ≡ old ++ x → s ≡ r ++ y → s ≡ old ++ (x ++ y)
more old x r s y e f = f ∙ ap (λ (l : List ℕ). l ++ y) e ∙ append_assoc old x y

regrouped : (k a b c d : List ℕ) → (((k ++ a) ++ b) ++ c) ++ d ≡ k ++ (a ++ (b ++ (c ++ d)))
regrouped k a b c d = append_assoc ((k ++ a) ++ b) c d ∙ append_assoc (k ++ a) b (c ++ d)
    ∙ append_assoc k a (b ++ (c ++ d))

pub returns : goal.returns
unfolding canonical_sequences
returns c =
    let old = c.args.out.now.items in
    let made = c.args.self in
    let a = ap (λ l. c.put_control.new.out.items ++ bits_encoding l) c.as_slice.ensures.value in
    let b = ap (λ l. c.put_bits.new.out.items ++ bits_encoding l) c.as_slice-2.ensures.value in
    let r1 = more old _ _ _ _ c.in_ok-put_control.ensures.ok (c.in_ok-put_bits.ensures.ok ∙ a) in
    let r2 = more old _ _ _ _ r1 (c.in_ok-put_bits-2.ensures.ok ∙ b) in
    let r3 = more old _ _ _ _ r2 c.in_ok-put.ensures in
    on_ok_weaker c.put-2.result (λ e. more old _ _ _ _ r3 e
    ∙ ap (λ (l : List ℕ). old
    ++ l) (regrouped (control kinds.Triples order_property) (bits_encoding made.bitmap_y.items)
    (bits_encoding made.bitmap_z.items) (numbers_encoding made.array_y)
    (numbers_encoding made.array_z)))
    c.put-2.ensures
