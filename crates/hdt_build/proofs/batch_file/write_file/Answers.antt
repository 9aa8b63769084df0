use Rattle.std.proofs.Common.{◌∙◌, ◌<◌, ℕ, List, Option, Ok, length, ap, refl, subst, sym, arith, zero-add}
use Rattle.std.specs.Io.KnownBytes.{Appends}
use Rattle.hdt_wire.specs.Counted.{inner}
use Rattle.hdt_build.specs.Canonical.{canonical_file}
use Rattle.hdt_build.specs.Inside.Groups.{lists_of_states}
use Rattle.hdt_build.specs.Inside.Output.{OutputState, Puts}
use Rattle.hdt_build.proofs.BuiltForm.{all_built}
use Rattle.hdt_build.proofs.batch_file.write_file.Goals as goal

pub returns-clause-written : goal.returns-clause-written
returns-clause-written g c known graph some form =
    let d = lists_of_states c.args.sections.now in
    let ts = c.args.triples.now in
    let options = c.args.options.now in
    let are = (rw c.in_ok-measures.ensures at c.measure.ensures) known in
    let bytes : List ℕ = canonical_file c.in_ok-header.header.items options.block_size d ts in
    let triple : 0 < length ts = omega (arith, c.if-measures-eq0.false, are.triples) in
    let puts = subst (λ (o : OutputState). Puts o c.in_ok-out.out bytes) c.new-out.ensures
    (rw c.as_slice-2.ensures.value at (c.in_ok-out.ensures known are triple options.block_size c.requires.blocks)) in
    record {
      bytes = bytes;
      built = all_built {E = ℕ} (λ (l : List ℕ). l) (Ok (bytes, c.counted_report-report.result)) options graph d ts
          c.in_ok-header.header.items some c.requires.valid form
          (rw (c.as_slice.ensures.value, are.triples) at c.in_ok-header.ensures) refl
          (c.counted_report-report.ensures d ts bytes c.lens.ensures are.triples
          (c.len.ensures ∙ (puts.counted ∙ zero-add _)));
      written = subst (λ (after : Option (List ℕ)). Appends (g.W.Write.contents (inner c.args.out)) after bytes)
          (sym c.into_inner.ensures.contents)
          puts.written;
    }

pub returns-clause-writer_unfailed : goal.returns-clause-writer_unfailed
returns-clause-writer_unfailed g c known =
    let are = (rw c.in_ok-measures.ensures at c.measure.ensures) known in
    let triple : 0 < length c.args.triples.now = omega (arith, c.if-measures-eq0.false, are.triples) in
    let puts = c.in_ok-out.ensures known are triple c.args.options.now.block_size c.requires.blocks in
    c.into_inner.ensures.failures ∙ (puts.unfailed ∙ ap (λ (o : OutputState). o.2) c.new-out.ensures)
