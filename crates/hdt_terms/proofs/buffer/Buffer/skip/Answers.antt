use Rattle.std.proofs.Common.{arith}
use Rattle.hdt_terms.proofs.Buffers.{skipped}
use Rattle.hdt_terms.proofs.buffer.Buffer.skip.Goals as goal

pub returns : goal.returns
returns c =
    let b = c.self.inside in
    skipped b.bytes.items c.args.self.now b.start b.end c.args.n c.self.invariant.0
    (omega (arith, b.bytes.ok.0, c.self.invariant.1)) c.self.view_is c.requires
