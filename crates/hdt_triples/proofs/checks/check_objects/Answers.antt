use Rattle.std.proofs.Common.{◌∙◌, ap, sym, arith, Some, length}
use Rattle.hdt_wire.specs.declared.fault.Reason.TheVariants.{ObjectRange, ObjectsNotAscending}
use Rattle.hdt_seq.specs.Bits.{bits_of}
use Rattle.hdt_seq.specs.Numbers.{numbers_of, numbers_view}
use Rattle.hdt_triples.specs.Triples.{entry_checks}
use Rattle.hdt_wire.specs.Laws.ItemChecks.{checks_after_pass, checks_from_start}
use Rattle.hdt_triples.proofs.PreviousLaws.{earlier_first, earlier_marked, earlier_unmarked}
use Rattle.hdt_triples.proofs.checks.check_objects.Goals as goal
use Rattle.hdt_triples.proofs.checks.check_objects.Goals.{then-get, else-get}

pub objects-init : goal.objects-init
objects-init c =
    let bitmap_z = bits_of c.args.bitmap_z.now in
    let array_z = numbers_of c.args.array_z.now in
    record {
      before_is = sym (earlier_first bitmap_z array_z);
      left = checks_from_start (entry_checks bitmap_z (numbers_view (c.args.array_z.now, 0)) c.args.count ObjectRange
          ObjectsNotAscending) (length array_z);
    }

pub objects-preserved : goal.objects-preserved
objects-preserved c =
    let l = c.objects in
    let bitmap_z = bits_of c.args.bitmap_z.now in
    let array_z = numbers_of c.args.array_z.now in
    let within = c.len-j-end.ensures in
    let row =
    entry_checks bitmap_z (numbers_view (c.args.array_z.now, 0)) c.args.count ObjectRange ObjectsNotAscending in
    let passed = checks_after_pass row l.j (length array_z) (omega (arith, c.objects-test.true, within))
    (sym c.check_entry.ensures ∙ c.in_ok-check_entry.was) in
    elim c.if-get.branch [
      | then-get w ↦ record {
        before_is = w.before-is ∙ sym (earlier_marked bitmap_z array_z l.j (c.get.ensures ∙ ap Some w.if-get.true));
        left = sym passed ∙ l.invariant.left;
      }
      | else-get w ↦ record {
        before_is = w.before-is ∙ c.get-object.ensures
            ∙ sym (earlier_unmarked bitmap_z array_z l.j (c.get.ensures ∙ ap Some w.if-get.false));
        left = sym passed ∙ l.invariant.left;
      }
    ]
