use Rattle.std.proofs.Common.{◌≡◌, ◌≤◌, ◌<◌, ◌-◌, ◌/◌, sym, subst, length, arith}
use Rattle.hdt_front.specs.SeekerState.{SeekerState, seeker_at}
use Rattle.hdt_front.specs.Strings.{strings_of, blocks_of}
use Rattle.hdt_front.proofs.SeekerLemmas.{seeker_is, block_exists}
use Rattle.hdt_front.proofs.seeker.Seeker.seek_block.Goals as goal

pub nonzero_div-block : goal.nonzero_div-block
nonzero_div-block c =
    let s = c.self.inside.section in
    let within : c.args.n ≤ length (strings_of s) =
    subst (λ (w : SeekerState). c.args.n ≤ length (strings_of w.section)) (sym c.self.view_is) c.requires.within in
    omega (arith, (block_exists s c.args.n c.requires.from_one within).0)

pub seek_head-requires : goal.seek_head-requires
seek_head-requires c =
    let s = c.self.inside.section in
    let within : c.args.n ≤ length (strings_of s) =
    subst (λ (w : SeekerState). c.args.n ≤ length (strings_of w.section)) (sym c.self.view_is) c.requires.within in
    subst (λ (w : SeekerState). (c.args.n - 1) / s.packed.block_size < blocks_of w.section) c.self.view_is
    (block_exists s c.args.n c.requires.from_one within).1

pub returns-else-n-self-clause-string : goal.returns-else-n-self-clause-string
returns-else-n-self-clause-string c =
    let s = c.self.inside in
    subst (λ (w : SeekerState). 0 < w.at
    → w ≡ seeker_at w.section w.at) c.self.view_is
    (λ some. seeker_is s.section s.at s.last.items some c.self.invariant.0 c.self.invariant.1)
