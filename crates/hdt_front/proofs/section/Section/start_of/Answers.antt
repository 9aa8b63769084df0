use Rattle.std.proofs.Common.{◌≤◌, ◌<◌, ℕ, refl, sym, arith, length, subst}
use Rattle.hdt_front.specs.Strings.{blocks_of}
use Rattle.hdt_front.specs.PackedView.{block_layout}
use Rattle.hdt_front.proofs.CheckedBlocks.{some_block, block_head, head_inside}
use Rattle.hdt_front.proofs.section.Section.start_of.Goals as goal

pub get-requires : goal.get-requires
unfolding blocks_of
get-requires c =
    let p = c.args.self.now.packed in
    let some : 0 < p.count = omega (
      arith,
      head_inside p.count p.block_size c.args.block
          (some_block p.count p.block_size c.args.block c.requires) c.requires,
    ) in
    omega (arith, p.many some, c.requires)

pub returns-clause-within : goal.returns-clause-within
unfolding blocks_of
returns-clause-within c =
    let p = c.args.self.now.packed in
    subst (λ (n : ℕ). n ≤ length p.bytes.now) (sym c.get.ensures)
    (block_head (block_layout p) p.count c.args.block p.bytes.now refl
    (some_block p.count p.block_size c.args.block c.requires) c.requires c.args.self.now.read).fits
