use Rattle.std.proofs.Common.{ℕ, List, ◌≡◌, ◌-◌, ◌<◌, ◌^◌, max, arith, get_or, sym, ap, subst}
use Rattle.std.specs.Int.Count.{count_leading_zeros}
use Rattle.hdt_seq.specs.Width.{width_of, greatest, digits}
use Rattle.hdt_seq.specs.Laws.Width.{digits_by_zeros, width_fits, width_least}
use Rattle.hdt_seq.proofs.packing.width_of.Goals as goal

by_zeros : (xs : List ℕ) (g r : ℕ) → g ≡ greatest xs → g < 2 ^ 64 → r ≡ max (64 - count_leading_zeros 64 g) 1
    → r ≡ width_of xs
by_zeros xs g r is small e = omega (arith, digits_by_zeros g small, ap digits is, e)

pub returns-clause-is : goal.returns-clause-is
returns-clause-is c = by_zeros c.args.xs.now c.greatest.result c.max.result c.greatest.ensures
    (omega arith) c.max.ensures

pub returns-clause-fits : goal.returns-clause-fits
returns-clause-fits c = λ i.
    let is = by_zeros c.args.xs.now c.greatest.result c.max.result c.greatest.ensures (omega arith) c.max.ensures in
    subst (λ (w : ℕ). get_or c.args.xs.now i 0 < 2 ^ w) (sym is) (width_fits c.args.xs.now i)

pub returns-clause-least : goal.returns-clause-least
returns-clause-least c = λ w some each.
    let is = by_zeros c.args.xs.now c.greatest.result c.max.result c.greatest.ensures (omega arith) c.max.ensures in
    omega (arith, is, width_least c.args.xs.now w some each)
