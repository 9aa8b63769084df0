-- A position in the triples, and the next position.
use Rattle.std.proofs.Common.{◌≡◌, ℕ, ◌+◌, ◌-◌, ◌<◌, ◌≤◌, length, ap, arith, Bool, true, false, ◌&&◌, slice_get, Some}
use Rattle.std.specs.Int.{from_bool}
use Rattle.std.proofs.lemmas.Option.{slice_get_within}
use Rattle.hdt_seq.specs.RankSelect.{ones_before}
use Rattle.hdt_seq.specs.Laws.RankSelect.{ones_before_after_1_bit, ones_before_after_0_bit}
use Rattle.hdt_triples.specs.TripleSequences.{BitmapTriples, AreConsistentSequences, AreValidSequences}
use Rattle.hdt_triples.specs.declared.pattern.Counts.{Counts}
use Rattle.hdt_triples.specs.Laws.Order.{pair_within}
use Rattle.hdt_triples.specs.Scanning.{IsTriplePosition}
use Rattle.hdt_triples.specs.declared.triples.TriplePosition.{TriplePosition}

-- The pair of a position exists.
pub within_pairs : (f : BitmapTriples) (p : TriplePosition) → AreConsistentSequences f → IsTriplePosition f p
    → p.at < length f.array_z → p.pair < length f.array_y
within_pairs f p m s h = omega (arith, s.pair_is, pair_within f m p.at h)

-- The next position, by the bit of the triple and the bit of the pair.
pub advanced : (f : BitmapTriples) (p : TriplePosition) (is_last_of_pair marked : Bool) (pairs subjects : ℕ)
    → IsTriplePosition f p → p.at < length f.array_z
    → slice_get f.bitmap_z p.at ≡ Some is_last_of_pair → slice_get f.bitmap_y p.pair ≡ Some marked
    → pairs ≡ from_bool is_last_of_pair → subjects ≡ from_bool (is_last_of_pair && marked)
    → IsTriplePosition f (record { at = p.at + 1; pair = p.pair + pairs; subject = p.subject + subjects })
advanced f p false marked pairs subjects s h mark _ none same =
    let stays : p.pair ≡ p.pair + pairs = omega (arith, none) in
    record {
      within = omega (arith, h);
      pair_is = omega (arith, s.pair_is, ones_before_after_0_bit f.bitmap_z p.at mark, none);
      subject_is = omega (arith, s.subject_is, same, ap (ones_before f.bitmap_y) stays);
    }
advanced f p true false pairs subjects s h mark more one same =
    let next : p.pair + 1 ≡ p.pair + pairs = omega (arith, one) in
    record {
      within = omega (arith, h);
      pair_is = omega (arith, s.pair_is, ones_before_after_1_bit f.bitmap_z p.at mark, one);
      subject_is = omega (
        arith,
        s.subject_is,
        same,
        ones_before_after_0_bit f.bitmap_y p.pair more,
        ap (ones_before f.bitmap_y) next,
      );
    }
advanced f p true true pairs subjects s h mark last one more =
    let next : p.pair + 1 ≡ p.pair + pairs = omega (arith, one) in
    record {
      within = omega (arith, h);
      pair_is = omega (arith, s.pair_is, ones_before_after_1_bit f.bitmap_z p.at mark, one);
      subject_is = omega (
        arith,
        s.subject_is,
        more,
        ones_before_after_1_bit f.bitmap_y p.pair last,
        ap (ones_before f.bitmap_y) next,
      );
    }

-- A bit is at most 1.
pub at_most_one : (mark : Bool) (n : ℕ) → n ≡ from_bool mark → n ≤ 1
at_most_one true n is = omega (arith, is)
at_most_one false n is = omega (arith, is)

-- There are at most as many subjects as the count.
pub subjects_few : (counts : Counts) (f : BitmapTriples) → AreValidSequences counts f
    → ones_before f.bitmap_y (length f.bitmap_y) ≤ counts.subjects
subjects_few counts f t =
    let last = length f.bitmap_y - 1 in
    let within : last < length f.bitmap_y = slice_get_within f.bitmap_y last true t.marked.last_pair in
    let end : last + 1 ≡ length f.bitmap_y = omega (arith, within) in
    omega (
      arith,
      ap (ones_before f.bitmap_y) end,
      ones_before_after_1_bit f.bitmap_y last t.marked.last_pair,
      t.subjects last (omega (arith, within, t.marked.pairs)),
    )

-- The subject of a position is at most the count.
pub subject_few : (counts : Counts) (f : BitmapTriples) (p : TriplePosition) → AreValidSequences counts f
    → IsTriplePosition f p → p.at < length f.array_z → p.subject ≤ counts.subjects
subject_few counts f p t s h = omega (arith, s.subject_is, t.subjects p.pair (within_pairs f p t.marked s h))
