use Rattle.std.proofs.Common.{◌≡◌, ◌≤◌, ◌+◌, ◌-◌, not, length, take}
use Rattle.std.specs.List.{filter}
use Rattle.hdt_front.specs.Canonical.{borrowed_texts}
use Rattle.hdt_dict.specs.Inside.Merging.{ArePassed}
use Rattle.hdt_dict.specs.Strings.{has}
use Rattle.hdt_dict.proofs.merge.merge.Given as goal

abbrev pub invariant-sides : goal.invariant-sides
invariant-sides l = record {
  first_within : l.i ≤ length l.xs;
  second_within : l.j ≤ length l.ys;
  xs_passed : ArePassed (borrowed_texts l.xs) l.i (borrowed_texts l.ys) l.j;
  ys_passed : ArePassed (borrowed_texts l.ys) l.j (borrowed_texts l.xs) l.i;
  both : borrowed_texts l.both.items ≡ filter (has (borrowed_texts l.ys)) (take l.i (borrowed_texts l.xs));
  first : borrowed_texts l.first.items
      ≡ filter (λ x. not (has (borrowed_texts l.ys) x)) (take l.i (borrowed_texts l.xs));
  second : borrowed_texts l.second.items
      ≡ filter (λ y. not (has (borrowed_texts l.xs) y)) (take l.j (borrowed_texts l.ys));
}

abbrev pub decreases-sides : goal.decreases-sides
decreases-sides l = length l.xs - l.i + (length l.ys - l.j)
