use Rattle.std.proofs.Common.{arith, ◌/◌, ◌%◌, ◌^◌, ◌∙◌, ap}
use Rattle.hdt_seq.specs.PackedBits.{little}
use Rattle.hdt_seq.specs.Laws.LittleEndian.{rest_whole}
use Rattle.hdt_seq.proofs.LoadedBits.{of_rest}
use Rattle.hdt_seq.proofs.bit_access.read_bits.Goals as goal

pub returns : goal.returns
returns c =
    c.bits_from.ensures ∙ ap (λ b. little b / 2 ^ (c.args.at % 8) % 2 ^ c.args.width)
    (rest_whole (c.args.at / 8) c.args.bytes.now)
    ∙ of_rest c.args.bytes.now c.args.at c.args.width (λ i. omega (arith, c.type_inv.bytes i))
