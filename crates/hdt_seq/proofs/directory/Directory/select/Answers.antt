use Rattle.std.proofs.Common.{arith, ap, ◌∙◌, ◌≡◌, ◌+◌, ◌-◌, ◌*◌, length, slice_index}
use Rattle.hdt_seq.specs.Laws.Width.{digits_mono}
use Rattle.hdt_seq.specs.RankSelect.{ones_before}
use Rattle.hdt_seq.specs.Laws.RankSelect.{ones_before_le, ones_before_past_end, ones_before_at_0, is_one_by_counts}
use Rattle.hdt_seq.specs.Bits.{bits_of}
use Rattle.hdt_seq.specs.Laws.Bits.{bits_below}
use Rattle.hdt_seq.specs.Directory.{groups, stored_counts}
use Rattle.hdt_seq.proofs.directory.Directory.select.Goals as goal

pub find_group-group-requires-clause-some : goal.find_group-group-requires-clause-some
find_group-group-requires-clause-some c =
    let bits = bits_of c.args.bits.now in
    omega (arith, c.requires.is_directory.many, c.requires.some, c.requires.many, ones_before_le bits (length bits))

pub find_group-group-requires-clause-first : goal.find_group-group-requires-clause-first
find_group-group-requires-clause-first c = c.requires.is_directory.each 0 (omega arith)
    ∙ ones_before_at_0 (bits_of c.args.bits.now)

pub find_group-group-requires-clause-last : goal.find_group-group-requires-clause-last
find_group-group-requires-clause-last c =
    let bits = bits_of c.args.bits.now in
    let last : length (stored_counts c.args.self.now) - 1 ≡ groups bits = omega (arith, c.requires.is_directory.many) in
    omega (
      arith,
      c.requires.many,
      ap (slice_index (stored_counts c.args.self.now)) last,
      c.requires.is_directory.each (groups bits) (omega arith),
      ones_before_past_end bits (512 * groups bits) (length bits) (omega arith) (omega arith),
    )

pub overflow_mul-group : goal.overflow_mul-group
overflow_mul-group c = omega (
  arith,
  c.requires.is_directory.many,
  c.find_group-group.ensures.inside,
  bits_below c.args.bits.now,
)

pub returns-clause-is : goal.returns-clause-is
returns-clause-is c =
    let bits = bits_of c.args.bits.now in
    let group = c.find_group-group in
    let counted : group.result.1 ≡ ones_before bits (512 * group.result.0) = group.ensures.before_is
    ∙ c.requires.is_directory.each group.result.0 (omega (arith, group.ensures.inside, c.requires.is_directory.many)) in
    let found = c.select_from.ensures in
    let start : 512 * group.result.0 ≡ group.result.0 * 512 = omega arith in
    let before : ones_before bits c.select_from.result + 1 ≡ c.args.k =
    omega (arith, found.before, counted, ap (ones_before bits) start, group.ensures.before) in
    record {
      is_one = is_one_by_counts bits c.select_from.result found.within
          (omega (arith, found.before, found.through));
      before = before;
    }

pub returns-clause-cost : goal.returns-clause-cost
returns-clause-cost c =
    let bits = bits_of c.args.bits.now in
    omega (
      arith,
      c.select_from.ensures.cost,
      c.find_group-group.ensures.cost,
      digits_mono (length (stored_counts c.args.self.now) - 2) (groups bits)
          (omega (arith, c.requires.is_directory.many)),
    )
