use Rattle.std.proofs.Common.{◌≡◌, ap, arith}
use Rattle.hdt_front.specs.SeekerState.{SeekerState}
use Rattle.hdt_front.proofs.SeekerLemmas.{block_exists, block_short}
use Rattle.hdt_front.proofs.seeker.Seeker.seek.Goals as goal

pub returns-in_err-seek_block-clause-cost : goal.returns-in_err-seek_block-clause-cost
returns-in_err-seek_block-clause-cost c =
    let s = c.args.self.now.section in
    omega (arith, c.in_err-seek_block.ensures.err, (block_exists s c.args.n c.requires.from_one c.requires.within).0)

pub returns-in_err-advance-clause-cost : goal.returns-in_err-advance-clause-cost
returns-in_err-advance-clause-cost c =
    let s = c.args.self.now.section in
    let here : c.self.inside.at ≡ c.loop-self.self.at = ap (λ (w : SeekerState). w.at) c.self.view_is in
    omega (
      arith,
      here,
      c.advance.ensures.cost,
      c.loop-self-test.true,
      c.loop-self.invariant.cost,
      block_short s c.args.n c.requires.from_one (block_exists s c.args.n c.requires.from_one c.requires.within).0,
    )
