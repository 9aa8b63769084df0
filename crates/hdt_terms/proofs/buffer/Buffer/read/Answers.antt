use Rattle.std.proofs.Common.{◌∙◌, arith}
use Rattle.hdt_terms.proofs.Buffers.{read_grew}
use Rattle.hdt_terms.proofs.buffer.Buffer.read.Goals as goal

pub returns-in-Ok-read_at-clause-does : goal.returns-in-Ok-read_at-clause-does
returns-in-Ok-read_at-clause-does g c =
    let read = c.in-Ok-read_at.ensures in
    let grew = read_grew c.args.self.now _ _ _ c.in-Ok-read_at.n _ _ (c.make_free_space-made.ensures.front
    ∙ c.self.view_is)
    (omega (arith, c.make_free_space-made.new.bytes.ok.0, c.in-Ok.ensures.ok)) read.front
    (omega (arith, c.read_at.new.bytes.ok.0, read.bound.0)) read.ok.0 in
    (grew.0, grew.1, λ none. read.ok.1 none (omega (arith, c.in-Ok.ensures.ok, read.len)) c.requires)
