use Rattle.std.proofs.Common.{arith, ◌≡◌, ◌/◌, ◌%◌, ◌^◌, ◌∙◌, ap, take}
use Rattle.hdt_seq.specs.Laws.LittleEndian.{short_whole}
use Rattle.hdt_seq.proofs.LoadedBits.{of_nine}
use Rattle.hdt_seq.proofs.bit_access.bits_in_9_bytes.Goals as goal
use Rattle.hdt_seq.proofs.bit_access.bits_in_9_bytes.Goals.{then-rest-gt9, else-rest-gt9}

pub returns : goal.returns
returns c =
    let near_is : c.if-rest-gt9.near.now ≡ take 9 c.args.rest.now =
    elim c.if-rest-gt9.branch [
      | then-rest-gt9 w ↦ ap (λ b. b.now) w.near-is
      | else-rest-gt9 w ↦ ap (λ b. b.now) w.near-is ∙ short_whole _ w.if-rest-gt9.false
    ] in
    c.extract_bits.ensures ∙ ap (λ n. n / 2 ^ c.args.shift % 2 ^ c.args.width) c.little_number_of.ensures
    ∙ of_nine c.args.rest.now c.if-rest-gt9.near.now c.args.shift c.args.width
    (λ i. omega (arith, c.type_inv.rest i)) near_is c.requires.first c.requires.narrow
