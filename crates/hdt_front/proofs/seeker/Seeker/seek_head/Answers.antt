use Rattle.std.proofs.Common.{◌<◌, ◌*◌, ◌∙◌, sym, subst, arith}
use Rattle.hdt_front.specs.SeekerState.{SeekerState}
use Rattle.hdt_front.specs.Strings.{blocks_of}
use Rattle.hdt_front.proofs.SeekerLemmas.{head_within, string_before}
use Rattle.hdt_front.proofs.seeker.Seeker.seek_head.Goals as goal

pub overflow_mul-self : goal.overflow_mul-self
overflow_mul-self c =
    let s = c.self.inside.section in
    let h : c.args.block * s.packed.block_size < s.packed.count =
    head_within s c.args.block
    (subst (λ (w : SeekerState). c.args.block < blocks_of w.section) (sym c.self.view_is) c.requires) in
    omega (arith, h, s.packed.count_fits)

pub overflow_add-self : goal.overflow_add-self
overflow_add-self c =
    let s = c.self.inside.section in
    let h : c.args.block * s.packed.block_size < s.packed.count =
    head_within s c.args.block
    (subst (λ (w : SeekerState). c.args.block < blocks_of w.section) (sym c.self.view_is) c.requires) in
    omega (arith, h, s.packed.count_fits)

pub invariant_of-self-2 : goal.invariant_of-self-2
invariant_of-self-2 c =
    let s = c.self.inside.section in
    let h : c.args.block * s.packed.block_size < s.packed.count =
    head_within s c.args.block
    (subst (λ (w : SeekerState). c.args.block < blocks_of w.section) (sym c.self.view_is) c.requires) in (
      omega (arith, h),
      c.in_ok-decode_over.ensures.ok ∙ c.split_first_entry.ensures.string
          ∙ string_before s (c.args.block * s.packed.block_size) h,
      c.split_first_entry.ensures.rest,
    )
