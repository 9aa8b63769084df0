use Rattle.std.proofs.Common.{◌-◌, ◌+◌, ap, sym, ◌∙◌, arith, Some, length}
use Rattle.hdt_front.specs.PackedView.{block_layout}
use Rattle.hdt_front.specs.Decoding.{is_block_start}
use Rattle.hdt_front.specs.Iteration.{IterState, next_offset}
use Rattle.hdt_front.specs.Laws.IterationSteps.{ended, stays, iter_step, goes, same_checks, string_made}
use Rattle.hdt_front.proofs.IterationLcp.{kept_first}
use Rattle.hdt_front.proofs.section_iter.SectionIter.next_with_prefix_len.Goals as goal

pub returns-then-self-clause-place : goal.returns-then-self-clause-place
returns-then-self-clause-place c =
    let s = c.self.inside in
    sym (ap next_offset (sym (ap (λ (w : IterState). w.ahead) c.self.view_is)
    ∙ ended (block_layout s.packed) s.packed.count s.next s.last.items s.rest.now (omega (arith, c.if-self.true))))

pub returns-then-self-clause-ok : goal.returns-then-self-clause-ok
returns-then-self-clause-ok c =
    let s = c.self.inside in
    stays c.args.self.now (sym (ap (λ (w : IterState). w.ahead) c.self.view_is)
    ∙ ended (block_layout s.packed) s.packed.count s.next s.last.items s.rest.now (omega (arith, c.if-self.true)))

pub split_entry-kept-requires : goal.split_entry-kept-requires
split_entry-kept-requires c =
    let s = c.self.inside in
    (iter_step (block_layout s.packed) s.packed.count s.next s.last.items s.rest.now c.self.invariant.0 c.if-self.false
    c.self.invariant.2).row.ends

pub invariant_of-self-2 : goal.invariant_of-self-2
invariant_of-self-2 c =
    let s = c.self.inside in
    let p = block_layout s.packed in
    let m = iter_step (block_layout s.packed) s.packed.count s.next s.last.items s.rest.now c.self.invariant.0
    c.if-self.false c.self.invariant.2 in
    let made = string_made (is_block_start s.packed.block_size s.next) s.last.items s.rest.now
    c.decode_over.new.string.items
    c.split_entry-kept.result.1.now c.split_entry-kept.result.0 c.in_ok-decode_over.ensures.ok
    c.split_entry-kept.ensures.kept c.split_entry-kept.ensures.text in (
      omega (arith, c.self.invariant.0, c.if-self.false),
      omega (arith, ap length c.split_entry-kept.ensures.rest, m.within, c.self.invariant.1),
      same_checks (block_layout s.packed) (s.packed.count - (s.next + 1))
          (s.next + 1) _ _ _ _ made c.split_entry-kept.ensures.rest m.rows,
    )

pub returns-clause-place : goal.returns-clause-place
returns-clause-place c =
    let s = c.self.inside in
    let m = iter_step (block_layout s.packed) s.packed.count s.next s.last.items s.rest.now c.self.invariant.0
    c.if-self.false c.self.invariant.2 in
    ap Some c.place-place.ensures
    ∙ sym (ap next_offset (sym (ap (λ (w : IterState). w.ahead) c.self.view_is) ∙ m.ahead))

pub returns-clause-ok : goal.returns-clause-ok
returns-clause-ok c =
    let s = c.self.inside in
    let m = iter_step (block_layout s.packed) s.packed.count s.next s.last.items s.rest.now c.self.invariant.0
    c.if-self.false c.self.invariant.2 in
    let made = string_made (is_block_start s.packed.block_size s.next) s.last.items s.rest.now
    c.decode_over.new.string.items
    c.split_entry-kept.result.1.now c.split_entry-kept.result.0 c.in_ok-decode_over.ensures.ok
    c.split_entry-kept.ensures.kept c.split_entry-kept.ensures.text in
    goes (block_layout s.packed) s.packed.count s.next s.last.items s.rest.now _ _ c.args.self.now m made
    c.split_entry-kept.ensures.rest (ap (λ (w : IterState). w.ahead) c.self.view_is)

pub returns-clause-kept : goal.returns-clause-kept
returns-clause-kept c =
    let s = c.self.inside in
    let m = iter_step (block_layout s.packed) s.packed.count s.next s.last.items s.rest.now c.self.invariant.0
    c.if-self.false c.self.invariant.2 in
    kept_first (block_layout s.packed) s.packed.count s.next s.last.items s.rest.now c.args.self.now _ m c.self.view_is
    c.split_entry-kept.ensures.kept

pub returns-in_err-decode_over-clause-ended : goal.returns-in_err-decode_over-clause-ended
returns-in_err-decode_over-clause-ended c =
    let s = c.self.inside in
    let m = iter_step (block_layout s.packed) s.packed.count s.next s.last.items s.rest.now c.self.invariant.0
    c.if-self.false c.self.invariant.2 in
    λ none. absurd (omega (
      arith,
      ap length (sym (ap (λ (w : IterState). w.ahead) c.self.view_is) ∙ m.ahead),
      ap length none,
    ))
