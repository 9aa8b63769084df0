use Rattle.std.proofs.Common.{◌≡◌, ◌∙◌, ◌%◌, [], ℕ, ap, sym}
use Rattle.hdt_front.specs.WriterState.{SectionWriterState}
use Rattle.hdt_build.proofs.SectionTapes.{moved_tape, pushed_tape}
use Rattle.hdt_build.proofs.section_tape.SectionTape.push.Goals as goal
use Rattle.hdt_build.proofs.section_tape.SectionTape.push.Goals.{
  then-ends_block+then-packed_len-self+in_ok-append_parts,
}
use Rattle.hdt_build.proofs.section_tape.SectionTape.push.Goals.{else-ends_block}

pub invariant_of-self-2 : goal.invariant_of-self-2
invariant_of-self-2 g c =
    let t = c.self.inside in
    elim c.if-ends_block.branch [
      | then-ends_block+then-packed_len-self+in_ok-append_parts w ↦
          let whole : c.in-Some.count % t.block_size ≡ 0 =
          ap (λ (k : ℕ). c.in-Some.count % k) (sym c.from-2.ensures) ∙ w.if-ends_block.true in
          let none : SectionWriterState = record { block_size = t.block_size; strings = [] } in
          let next : w.replace-full.new.dest ≡ none = rw w.replace-full.ensures.after w.new-next.ensures in
          rw w.self-inside-is (moved_tape g.S.Scratch.IsKnown t.has_failed t.block_size t.count c.in-Some.count
          t.strings.strings c.push-2.new.self.strings c.args.string.now t.current c.push.new.self t.starts t.packed
          c.self.invariant c.in_ok-fail_if.ensures c.in_ok-push.ensures.ok (rw w.self-inside-is at c.push-2.ensures)
          c.in-Some.ensures.1 w.replace-full.new.dest w.append_parts.new.starts w.append_parts.new.packed whole next
          (rw w.replace-full.ensures.value at w.in_ok-append_parts.ensures))
      | else-ends_block w ↦
          rw w.self-inside-is (pushed_tape g.S.Scratch.IsKnown t.has_failed t.block_size t.count c.in-Some.count
          t.strings.strings c.push-2.new.self.strings c.args.string.now t.current c.push.new.self t.starts t.packed
          c.self.invariant c.in_ok-fail_if.ensures c.in_ok-push.ensures.ok (rw w.self-inside-is at c.push-2.ensures)
          c.in-Some.ensures.1)
    ]
