use Rattle.std.proofs.Common.{arith, ap, ◌∙◌, ◌≡◌, ◌-◌, ◌+◌, ◌/◌, ◌%◌, ◌^◌}
use Rattle.std.specs.Int.Count.{ones}
use Rattle.hdt_seq.specs.PackedBits.{little, bits}
use Rattle.hdt_seq.specs.Laws.LittleEndian.{length-bits}
use Rattle.hdt_seq.specs.RankSelect.{ones_before}
use Rattle.hdt_seq.specs.Bits.{bits_of}
use Rattle.hdt_seq.specs.Laws.Bits.{bits_len}
use Rattle.hdt_seq.proofs.OnesOfWords.{ones_in_range, ones_in_lowest}
use Rattle.hdt_seq.proofs.bits.Bits.word.Goals as goal

pub read_bits-requires-clause-within : goal.read_bits-requires-clause-within
read_bits-requires-clause-within c =
    omega (arith, c.args.self.now.packed_fits, bits_len c.args.self.now, c.requires.within)

pub returns-clause-lowest : goal.returns-clause-lowest
unfolding bits_of
returns-clause-lowest c = λ k h.
    let s = c.args.self.now in
    let from = c.args.from in
    let word : c.read_bits.result ≡ little s.packed.now / 2 ^ from % 2 ^ (c.args.to - from) = c.read_bits.ensures
    ∙ ap (λ n. little s.packed.now / 2 ^ n % 2 ^ (c.args.to - from)) c.from.ensures in
    ap (λ n. ones_before (bits s.packed.now s.count) from + ones (n % 2 ^ k)) word
    ∙ ones_in_lowest s.packed.now s.count from (c.args.to - from) k (omega (arith, h))
    (omega (arith, length-bits s.packed.now s.count, c.requires.within, h))

pub returns-clause-all : goal.returns-clause-all
unfolding bits_of
returns-clause-all c =
    let s = c.args.self.now in
    let from = c.args.from in
    let word : c.read_bits.result ≡ little s.packed.now / 2 ^ from % 2 ^ (c.args.to - from) = c.read_bits.ensures
    ∙ ap (λ n. little s.packed.now / 2 ^ n % 2 ^ (c.args.to - from)) c.from.ensures in
    ap (λ n. ones_before (bits s.packed.now s.count) from + ones n) word
    ∙ ones_in_range s.packed.now s.count from (c.args.to - from) c.args.to
    (omega (arith, length-bits s.packed.now s.count, c.requires.within)) (omega arith)
