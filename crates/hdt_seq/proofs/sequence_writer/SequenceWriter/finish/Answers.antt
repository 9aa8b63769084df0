use Rattle.std.proofs.Common.{◌≡◌, ◌+◌, ◌/◌, arith}
use Rattle.std.proofs.lemmas.Result.{on_ok_weaker}
use Rattle.hdt_seq.proofs.SequenceWriting.{finished}
use Rattle.hdt_seq.proofs.sequence_writer.SequenceWriter.finish.Goals as goal

pub returns : goal.returns
returns c =
    on_ok_weaker c.append_crc32.result
    (λ e before head xs width h.
    let k : c.div_ceil.result ≡ (c.args.self.rest.filled + 7) / 8 = omega (arith, c.div_ceil.ensures) in
    finished before head xs c.args.out.now.items c.append_bytes.new.out.items c.append_crc32.new.out.items width
    c.args.self.rest.word c.args.self.rest.filled c.div_ceil.result c.args.self.start c.min.result c.len.result h.packs
    c.in_ok-append_bytes.ensures.ok k h.start_is c.min.ensures (omega (arith, c.len.ensures, c.append_bytes.new.out.ok)) e)
    c.append_crc32.ensures.ok
