use Rattle.std.proofs.Common.{length, ◌-◌, ◌≡◌}
use Rattle.hdt_wire.specs.declared.fault.Reason.TheVariants.{ObjectRange, ObjectsNotAscending}
use Rattle.hdt_seq.specs.Bits.{bits_of}
use Rattle.hdt_seq.specs.Numbers.{numbers_of, numbers_view}
use Rattle.hdt_wire.specs.ItemChecks.{checks_from}
use Rattle.hdt_triples.specs.Triples.{entry_checks, previous_in_group}
use Rattle.hdt_triples.proofs.checks.check_objects.Given as goal

abbrev pub invariant-objects : goal.invariant-objects
invariant-objects l =
    let row =
    entry_checks (bits_of l.bitmap_z) (numbers_view (l.array_z, 0)) l.count ObjectRange ObjectsNotAscending in
    record {
      before_is : l.before ≡ previous_in_group (bits_of l.bitmap_z) (numbers_of l.array_z) l.j;
      left : checks_from row l.j (length (numbers_of l.array_z) - l.j)
          ≡ checks_from row 0 (length (numbers_of l.array_z));
    }
