use Rattle.std.proofs.Common.{[], ◌∙◌, arith, get_or, map, refl}
use Rattle.std.proofs.lemmas.List.{length-map}
use Rattle.std.proofs.lemmas.Result.{err_from_is_err_and}
use Rattle.hdt_wire.specs.Counted.{inner}
use Rattle.hdt_terms.proofs.SplitLines.{each_done, each_wrote, each_wrote_prefix, empty_on}
use Rattle.hdt_terms.proofs.split.write_all_parts.Goals as goal

pub returns-in_err-write_part-clause-part : goal.returns-in_err-write_part-clause-part
returns-in_err-write_part-clause-part g c =
    let p = err_from_is_err_and c.from_residual.result c.from_residual.ensures.1 in
    rw p.1 (each_wrote_prefix _ _ _ (λ part. get_or (map (λ text. text.items) c.args.pending.now) part [])
    (map (λ text. text.items) c.parts.pending) c.parts.invariant.gains c.in_err-write_part.ensures.part)

pub returns-in_err-write_part-clause-err : goal.returns-in_err-write_part-clause-err
returns-in_err-write_part-clause-err g c =
    let p = err_from_is_err_and c.from_residual.result c.from_residual.ensures.1 in
    let failed = c.in_err-write_part.ensures in
    rw (p.1, p.2) (
      c.parts.at,
      omega (arith, c.parts-test.true, c.parts.invariant.outs),
      failed.err,
      rw c.parts.invariant.well at
          failed.failed,
    )

pub parts-preserved : goal.parts-preserved
parts-preserved g c =
    let inv = c.parts.invariant in
    let done = c.in_ok-write_part.ensures in
    record {
      gains =
          each_wrote _ _ _ (λ part. get_or (map (λ text. text.items) c.args.pending.now) part [])
          (map (λ text. text.items) c.parts.pending)
          (map (λ text. text.items) c.write_part.new.pending) inv.gains done.ok;
      empty = empty_on (map (λ text. text.items) c.parts.pending)
          (map (λ text. text.items) c.write_part.new.pending) c.parts.at inv.empty done.others (done.whole refl);
      at = omega (arith, c.parts-test.true, inv.outs);
      outs = done.lens.0 ∙ inv.outs;
      pending = done.lens.1 ∙ inv.pending;
      well = done.writer_unfailed ∙ inv.well;
    }

pub returns-clause-ok : goal.returns-clause-ok
returns-clause-ok g c =
    let inv = c.parts.invariant in
    each_done _ _ (λ part. get_or (map (λ text. text.items) c.args.pending.now) part [])
    (map (λ text. text.items) c.parts.pending) inv.gains (λ part lt.
    inv.empty part (omega (
      arith,
      lt,
      length-map c.args.outs.now (λ out. g.W.Write.contents (inner out)),
      c.parts-test.false,
      inv.outs,
    )))
