use Rattle.std.proofs.Common.{ap, sym, ◌∙◌, ◌+◌, ◌-◌, ◌/◌, ℕ}
use Rattle.hdt_front.specs.Strings.{blocks_of}
use Rattle.hdt_front.proofs.CheckedBlocks.{no_strings}
use Rattle.hdt_front.proofs.section.Section.blocks.Goals as goal

pub returns-then-packed-eq0 : goal.returns-then-packed-eq0
unfolding blocks_of
returns-then-packed-eq0 c =
    let p = c.args.self.now.packed in
    sym (ap (λ (n : ℕ). (n + (p.block_size - 1)) / p.block_size) c.if-packed-eq0.true ∙ no_strings p.block_size)
