use Rattle.std.proofs.Common.{length, ◌-◌, ◌+◌, ◌≡◌}
use Rattle.hdt_seq.specs.RankSelect.{ones_before}
use Rattle.hdt_seq.specs.Bits.{bits_of, bits_view}
use Rattle.hdt_seq.specs.Numbers.{numbers_of, numbers_view}
use Rattle.hdt_wire.specs.ItemChecks.{checks_from}
use Rattle.hdt_triples.specs.Triples.{pair_checks, previous_in_group}
use Rattle.hdt_triples.proofs.checks.check_pairs.Given as goal

abbrev pub invariant-pairs : goal.invariant-pairs
invariant-pairs l =
    let row = pair_checks l.counts (bits_view (l.bitmap_y, 0)) (numbers_view (l.array_y, 0)) in
    record {
      subject_is : l.subject ≡ ones_before (bits_of l.bitmap_y) l.q + 1;
      before_is : l.before ≡ previous_in_group (bits_of l.bitmap_y) (numbers_of l.array_y) l.q;
      left : checks_from row l.q (length (numbers_of l.array_y) - l.q)
          ≡ checks_from row 0 (length (numbers_of l.array_y));
    }
