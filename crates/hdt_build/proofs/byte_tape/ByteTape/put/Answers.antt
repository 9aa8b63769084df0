use Rattle.std.proofs.Common.{◌∙◌, ◌++◌, List, ℕ, ap, subst}
use Rattle.hdt_wire.specs.Crc.{crc32_register}
use Rattle.hdt_build.specs.Inside.Output.{Puts}
use Rattle.hdt_build.proofs.ByteTapes.{copied_more}
use Rattle.hdt_build.proofs.byte_tape.ByteTape.put.Goals as goal

pub chunks-preserved : goal.chunks-preserved
chunks-preserved g c =
    let l = c.chunks in
    let next = c.load.new.chunk in
    copied_more g.S.Scratch.IsKnown c.args.out.now c.args.self.now l.chunk.1 next.1 next.0 l.crc c.update.new.self l.out
    c.put.new.self (c.in_ok-load.ensures.some c.if-branch.true)
    (subst (Puts l.out c.put.new.self) c.rest.ensures c.in_default.ensures.ok)
    (λ bytes is. c.update.ensures bytes is ∙ ap (λ (b : List ℕ). crc32_register (bytes ++ b)) c.rest-in-chunks.ensures)
    l.invariant
