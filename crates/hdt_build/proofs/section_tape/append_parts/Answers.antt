use Rattle.std.proofs.lemmas.Result.{on_ok_weaker}
use Rattle.hdt_build.proofs.SectionTapes.{parts_of_both}
use Rattle.hdt_build.proofs.section_tape.append_parts.Goals as goal

pub returns : goal.returns
returns g c =
    on_ok_weaker c.put.result
    (λ made known done whole h. parts_of_both c.args.current.block_size c.len.result done c.args.current.strings
    c.args.starts.now c.args.packed.now c.into_parts-heads.result.0.items c.into_parts-heads.result.1.items
    c.push_moved.new.out c.put.new.self (c.len.ensures known) c.into_parts-heads.ensures.starts
    c.into_parts-heads.ensures.packed (rw c.as_slice.ensures.value at (c.in_ok-push_moved.ensures known))
    (rw c.as_slice-2.ensures.value at (made known)) whole h)
    c.put.ensures
