use Rattle.std.proofs.Common.{◌<◌, ◌≡◌, ◌+◌, arith, ap, sym, ◌∙◌, refl, List, ℕ, subst}
use Rattle.hdt_wire.specs.Checks.{len_before_zero}
use Rattle.hdt_wire.specs.VByte.{vbyte_at}
use Rattle.hdt_front.specs.Inside.PartialStrings.{IsPartlyDecoded}
use Rattle.hdt_front.specs.PackedView.{block_layout}
use Rattle.hdt_front.specs.Strings.{blocks_of}
use Rattle.hdt_front.proofs.CheckedBlocks.{block_head}
use Rattle.hdt_front.proofs.SimdLoads.{zero_behind}
use Rattle.hdt_front.proofs.DecodingLemmas.{block_within, head_partly_decoded, next_partly_decoded, more_partly_decoded}
use Rattle.hdt_front.proofs.string.decode_in_buffer.Goals.{then-loop-rest-test+else-buffer-at-ge-LANES}
use Rattle.hdt_front.proofs.string.decode_in_buffer.Goals.{else-loop-rest-test}
use Rattle.hdt_front.proofs.string.decode_in_buffer.Goals.{then-loop-rest-test+then-buffer-at-ge-LANES+then-run-lt-LANES+then-done-many}
use Rattle.hdt_front.proofs.string.decode_in_buffer.Goals.{then-loop-rest-test+then-buffer-at-ge-LANES+then-run-lt-LANES+else-done-many+in_default}
use Rattle.hdt_front.proofs.string.decode_in_buffer.Goals as goal

pub bytes_from_block-rest-requires : goal.bytes_from_block-rest-requires
unfolding blocks_of
bytes_from_block-rest-requires c =
    let p = c.args.section.now.packed in
    block_within p.count p.block_size c.args.block c.args.many
    (p.some (omega (arith, c.requires.some, c.requires.within))) c.requires.some c.requires.within

pub loop-rest-init : goal.loop-rest-init
unfolding blocks_of
loop-rest-init c =
    let p = c.args.section.now.packed in
    let some = p.some (omega (arith, c.requires.some, c.requires.within)) in
    let lies = block_head (block_layout p) p.count c.args.block p.bytes.now refl some
    (block_within p.count p.block_size c.args.block c.args.many some c.requires.some c.requires.within)
    c.args.section.now.read in
    record {
      done = (omega arith, omega (arith, c.requires.some));
      decoded = head_partly_decoded (block_layout p) p.count c.args.block p.bytes.now c.args.buffer.now _ some
          (omega (arith, c.requires.within, c.requires.some)) c.args.section.now.read (c.bytes_from_block-rest.ensures
          ∙ sym lies.here);
      cost = omega (arith, c.tick.ensures);
    }

pub loop-rest-preserved : goal.loop-rest-preserved
loop-rest-preserved c =
    let p = c.args.section.now.packed in let l = c.loop-rest in let t = c.copy_load-run in
    record {
      done = l.invariant.done;
      decoded = subst (IsPartlyDecoded p.block_size c.args.block l.done p.bytes.now t.new.buffer (l.at + t.result))
          (sym c.split_at.ensures.back)
          (more_partly_decoded p.block_size c.args.block l.done p.bytes.now l.buffer t.new.buffer l.rest.now l.at
          t.result l.invariant.decoded (omega (arith, t.ensures.reaches.so_far))
          (omega (
            arith,
            t.ensures.size,
            t.ensures.reaches.within,
            c.if-buffer-at-ge-LANES.true,
            l.invariant.decoded.within,
          )) t.ensures.text);
      cost = l.invariant.cost;
    }

pub loop-rest-preserved-then-run-lt-LANES : goal.loop-rest-preserved-then-run-lt-LANES
loop-rest-preserved-then-run-lt-LANES c =
    let p = c.args.section.now.packed in let l = c.loop-rest in let t = c.copy_load-run in
    let left : List ℕ = c.split_at.result.1.now in
    let decoded = subst (IsPartlyDecoded p.block_size c.args.block l.done p.bytes.now t.new.buffer (l.at + t.result))
    (sym c.split_at.ensures.back)
    (more_partly_decoded p.block_size c.args.block l.done p.bytes.now l.buffer t.new.buffer l.rest.now l.at t.result
    l.invariant.decoded (omega (arith, t.ensures.reaches.so_far))
    (omega (arith, t.ensures.size, t.ensures.reaches.within, c.if-buffer-at-ge-LANES.true, l.invariant.decoded.within))
    t.ensures.text) in
    let ended : len_before_zero left ≡ 0 =
    omega (
      arith,
      ap len_before_zero c.split_at.ensures.back,
      zero_behind t.result l.rest.now (omega (arith, t.ensures.reaches.so_far)),
      t.ensures.reaches.stop c.if-run-lt-LANES.true,
    ) in
    let more : l.done < c.args.many = omega (arith, l.invariant.done.1, c.if-done-many.false) in
    record {
      done = (omega arith, omega (arith, more));
      decoded = subst (IsPartlyDecoded p.block_size c.args.block (l.done + 1) p.bytes.now t.new.buffer c.in-Some.kept)
          (sym c.split_at-then-run-lt-LANES-2.ensures.back)
          (next_partly_decoded (block_layout p) p.count c.args.block l.done p.bytes.now t.new.buffer left
          (l.at + t.result) c.in-Some.kept decoded ended l.invariant.done.0 (omega (arith, more, c.requires.short))
          (omega (arith, more, c.requires.within)) c.args.section.now.read
          (ap (λ r. vbyte_at r 0) (sym c.split_at-then-run-lt-LANES.ensures.back) ∙ c.in-Some.ensures.0));
      cost = omega (arith, l.invariant.cost, c.tick-then-run-lt-LANES.ensures);
    }

pub returns-clause-decoded : goal.returns-clause-decoded
returns-clause-decoded c =
    let p = c.args.section.now.packed in let l = c.loop-rest in
    elim c.loop-rest-test.branch [
      | then-loop-rest-test+else-buffer-at-ge-LANES w ↦ rw (w.buffer-is, w.rest-is, w.at-is) l.invariant.decoded
      | else-loop-rest-test w ↦ rw (w.buffer-is, w.rest-is, w.at-is) l.invariant.decoded
      | then-loop-rest-test+then-buffer-at-ge-LANES+then-run-lt-LANES+then-done-many w ↦
          let t = w.copy_load-run in
          rw (
            w.buffer-is,
            w.rest-is,
            w.at-is,
            w.split_at.ensures.back,
          ) (more_partly_decoded p.block_size c.args.block l.done p.bytes.now l.buffer
          t.new.buffer l.rest.now l.at t.result l.invariant.decoded (omega (arith, t.ensures.reaches.so_far))
          (omega (
            arith,
            t.ensures.size,
            t.ensures.reaches.within,
            w.if-buffer-at-ge-LANES.true,
            l.invariant.decoded.within,
          )) t.ensures.text)
      | then-loop-rest-test+then-buffer-at-ge-LANES+then-run-lt-LANES+else-done-many+in_default w ↦
          let t = w.copy_load-run in
          rw (
            w.buffer-is,
            w.rest-is,
            w.at-is,
            w.split_at.ensures.back,
          ) (more_partly_decoded p.block_size c.args.block l.done p.bytes.now l.buffer
          t.new.buffer l.rest.now l.at t.result l.invariant.decoded (omega (arith, t.ensures.reaches.so_far))
          (omega (
            arith,
            t.ensures.size,
            t.ensures.reaches.within,
            w.if-buffer-at-ge-LANES.true,
            l.invariant.decoded.within,
          )) t.ensures.text)
    ]
