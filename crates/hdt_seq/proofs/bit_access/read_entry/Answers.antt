use Rattle.std.proofs.Common.{ap, ◌∙◌, ◌≡◌, ◌*◌, ◌/◌, ◌%◌, ◌^◌}
use Rattle.hdt_seq.specs.PackedBits.{little, entry}
use Rattle.hdt_seq.proofs.bit_access.read_entry.Goals as goal

pub returns : goal.returns
unfolding entry
returns c = let at_is : c.from.result * c.from-2.result ≡ c.args.width * c.args.i = cc in
    c.read_bits.ensures ∙ ap (λ n. little c.args.bytes.now / 2 ^ n % 2 ^ c.args.width) at_is
