use Rattle.std.proofs.Common.{◌<◌, ◌-◌, arith}
use Rattle.hdt_front.specs.Strings.{blocks_of}
use Rattle.hdt_front.specs.Laws.Strings.{count_is}
use Rattle.hdt_front.proofs.DecodingLemmas.{block_inside}
use Rattle.hdt_front.proofs.section.Section.block_bytes.Goals as goal

pub nonzero_div-block : goal.nonzero_div-block
nonzero_div-block c =
    let p = c.args.self.now.packed in
    omega (arith, p.some (omega (arith, c.requires.from_one, c.requires.within, count_is c.args.self.now)))

pub start_of-start-requires : goal.start_of-start-requires
unfolding blocks_of
start_of-start-requires c =
    let p = c.args.self.now.packed in
    let inside : c.args.n - 1 < p.count =
    omega (arith, c.requires.from_one, c.requires.within, count_is c.args.self.now) in
    block_inside p.count p.block_size (c.args.n - 1) (p.some (omega (arith, inside))) inside

pub get-requires : goal.get-requires
get-requires c =
    let p = c.args.self.now.packed in
    let inside : c.args.n - 1 < p.count =
    omega (arith, c.requires.from_one, c.requires.within, count_is c.args.self.now) in
    omega (
      arith,
      p.many (omega (arith, inside)),
      block_inside p.count p.block_size (c.args.n - 1) (p.some (omega (arith, inside))) inside,
    )
