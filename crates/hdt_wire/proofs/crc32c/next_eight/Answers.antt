use Rattle.std.proofs.Common.{arith}
use Rattle.hdt_wire.proofs.CrcEightBytes.{by_eight}
use Rattle.hdt_wire.proofs.crc32c.next_eight.Goals as goal

pub returns : goal.returns
returns c =
    let e = by_eight c.args.register c.args.bytes.now (omega arith)
    (λ i. omega (arith, c.type_inv.bytes i)) c.requires in
    rw (
      c.entry.ensures,
      c.entry-2.ensures,
      c.entry-3.ensures,
      c.entry-4.ensures,
      c.entry-5.ensures,
      c.entry-6.ensures,
      c.entry-7.ensures,
      c.entry-8.ensures,
    ) e
