use Rattle.std.proofs.Common.{◌≡◌, ◌++◌, ◌∷◌, [], ℕ, length, ap, ◌∙◌, arith}
use Rattle.std.proofs.lemmas.Result.{on_ok_weaker}
use Rattle.hdt_front.specs.WriterState.{SectionWriterState}
use Rattle.hdt_front.specs.Canonical.{canonical}
use Rattle.hdt_front.proofs.WriterSteps.{all_are, section_appended}
use Rattle.hdt_front.proofs.section_writer.SectionWriter.finish.Goals as goal

pub returns-clause-ok : goal.returns-clause-ok
returns-clause-ok c =
    let s = c.self.inside in
    let old = c.args.out.now.items in
    let end : c.len.result ≡ length c.self.inside.packed.items =
    omega (arith, c.len.ensures, c.self.inside.packed.ok.0) in
    on_ok_weaker c.put_parts.result
    (λ made. all_are s.block_size s.count s.last.items s.starts.items s.packed.items _ _ old c.put_parts.new.out.items
    c.self.invariant
    (c.deref.ensures.value ∙ c.in_ok-push.ensures.items
    ∙ ap (λ (n : ℕ). c.self.inside.starts.items ++ n ∷ []) end) c.deref-2.ensures.value made
    ∙ ap (λ (w : SectionWriterState). old ++ canonical w.block_size w.strings) c.self.view_is)
    c.put_parts.ensures.ok

pub returns-clause-section : goal.returns-clause-section
returns-clause-section c =
    let new = c.put_parts.new.out in
    let block : c.self.inside.block_size ≡ c.args.self.block_size =
    ap (λ (w : SectionWriterState). w.block_size) c.self.view_is in
    on_ok_weaker c.put_parts.result
    (λ made. section_appended c.args.self.block_size c.args.self.strings c.args.out.now.items new.items
    (omega (arith, block, c.self.invariant.block)) (omega (arith, block, c.self.invariant.fits)) c.requires.strings
    (omega (arith, new.ok.0, new.small)) made)
    (returns-clause-ok c)
