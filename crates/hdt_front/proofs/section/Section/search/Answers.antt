use Rattle.std.proofs.Common.{◌<◌, ◌*◌, arith}
use Rattle.hdt_front.specs.Strings.{blocks_of}
use Rattle.hdt_front.specs.Laws.Strings.{count_is}
use Rattle.hdt_front.proofs.CheckedBlocks.{some_block, head_inside, some_looks}
use Rattle.hdt_front.proofs.section.Section.search.Goals as goal

pub overflow_mul-result : goal.overflow_mul-result
unfolding blocks_of
overflow_mul-result c =
    let p = c.args.self.now.packed in
    let first : c.in-Head.block * p.block_size < p.count =
    head_inside p.count p.block_size c.in-Head.block
    (some_block p.count p.block_size c.in-Head.block c.in-Head.ensures.is.0) c.in-Head.ensures.is.0 in
    omega (arith, first)

pub returns-in-Head-clause-place : goal.returns-in-Head-clause-place
unfolding blocks_of
returns-in-Head-clause-place c =
    let p = c.args.self.now.packed in
    let first : c.in-Head.block * p.block_size < p.count =
    head_inside p.count p.block_size c.in-Head.block
    (some_block p.count p.block_size c.in-Head.block c.in-Head.ensures.is.0) c.in-Head.ensures.is.0 in
    (omega (arith, count_is c.args.self.now, first), c.in-Head.ensures.is.1)

pub returns-in-Before-clause-cost : goal.returns-in-Before-clause-cost
returns-in-Before-clause-cost c = omega (arith, some_looks c.args.self.now c.requires.some, c.in-Before.ensures.cost)

pub returns-in-Head-clause-cost : goal.returns-in-Head-clause-cost
returns-in-Head-clause-cost c = omega (arith, some_looks c.args.self.now c.requires.some, c.in-Head.ensures.cost)

pub returns-in-Inside-clause-cost : goal.returns-in-Inside-clause-cost
returns-in-Inside-clause-cost c =
    omega (arith, some_looks c.args.self.now c.requires.some, c.in-Inside.ensures.cost, c.scan_block.ensures.cost)
