use Rattle.std.proofs.Common.{subst}
use Rattle.std.proofs.lemmas.Result.{IfOk-weaker}
use Rattle.hdt_front.specs.Canonical.{canonical}
use Rattle.hdt_front.specs.WriterState.{SectionWriterState}
use Rattle.hdt_build.specs.Inside.Output.{Puts}
use Rattle.hdt_build.proofs.SectionTapes.{offsets_width, section_put}
use Rattle.hdt_build.proofs.section_tape.FinishedSection.put.Goals as goal

pub put_starts-requires : goal.put_starts-requires
put_starts-requires g c = λ known.
    let t = c.self.inside in
    offsets_width t.block_size c.len-size.result t.strings.strings t.starts t.packed (c.len-size.ensures known)
    (c.self.invariant.parts known)

pub returns : goal.returns
returns g c =
    let t = c.self.inside in
    IfOk-weaker c.put_with_crc.result _ _
    (λ made e known. subst (λ (w : SectionWriterState). Puts c.args.out made (canonical w.block_size w.strings))
    c.self.view_is
    (section_put t.block_size c.len-size.result t.strings.strings t.starts t.packed (c.len-size.ensures known)
    (c.self.invariant.parts known) t.count c.args.out c.put.new.self c.in_ok-out.out made c.self.invariant.counted
    (rw (c.as_slice.ensures.value, c.in_ok-head.ensures) at c.in_ok-put.ensures.ok) (c.in_ok-out.ensures known)
    (e known)))
    c.put_with_crc.ensures
