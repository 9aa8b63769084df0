-- The triples of a subject are consecutive.
use Rattle.std.proofs.Common.{◌≡◌, ◌≢◌, ℕ, ◌+◌, ◌<◌, ◌≤◌, [], length, refl, ap, arith, Some}
use Rattle.hdt_seq.specs.Width.{digits}
use Rattle.hdt_seq.specs.Directory.{groups}
use Rattle.hdt_triples.specs.declared.pattern.Pattern.{Pattern}
use Rattle.hdt_triples.specs.declared.triples.TriplePosition.{TriplePosition}
use Rattle.hdt_triples.specs.TripleSequences.{BitmapTriples, AreConsistentSequences, triple_at, triples_of, subject_at}
use Rattle.hdt_triples.specs.TripleSequences.{pair_of}
use Rattle.hdt_triples.specs.Patterns.{matches}
use Rattle.hdt_triples.specs.Scanning.{IsTriplePosition, triples_from}
use Rattle.hdt_triples.specs.Bounds.{subject_cost, of_subject, IsWithinBudget, step_bound, lookup_cost}
use Rattle.hdt_seq.specs.Laws.RankSelect.{ones_before_mono, ones_before_last}
use Rattle.hdt_seq.specs.RankSelect.{ones_before}
use Rattle.hdt_triples.specs.Laws.Order.{pair_within}
use Rattle.hdt_triples.proofs.ScanLaws.{matches_taken, none_left, skipped}
use Rattle.hdt_triples.proofs.PatternLaws.{other_subject, own_subject}

pub matches_skipped : (p : Pattern) (s : ℕ) (f : BitmapTriples) (j : ℕ) → p.s ≡ Some s → j ≤ length f.array_z
    → ((i : ℕ) → i < j → subject_at f (pair_of f i) ≢ s)
    → matches p (triples_of f) ≡ matches p (triples_from f j)
matches_skipped p s f j given h before = skipped p f j h (λ i l. other_subject p s (triple_at f i) given (before i l))

-- From a later subject on there are no triples of this one.
pub matches_over : (p : Pattern) (s : ℕ) (f : BitmapTriples) (at : TriplePosition) → p.s ≡ Some s
    → IsTriplePosition f at → s < at.subject → matches p (triples_from f at.at) ≡ []
matches_over p s f at given st later =
    none_left p f at.at st.within
    (λ i l w. other_subject p s (triple_at f i) given
    (let e : subject_at f (pair_of f at.at) ≤ subject_at f (pair_of f i) =
    omega (
      arith,
      ones_before_mono f.bitmap_y (pair_of f at.at) (pair_of f i)
          (ones_before_mono f.bitmap_z at.at i l),
    ) in
    λ same. omega (arith, e, same, later, st.subject_is, ap (subject_at f) st.pair_is)))

-- The steps of the call are within the budget.
pub budget_first : (s : ℕ) (f : BitmapTriples) (j steps : ℕ) → j ≤ length f.array_z
    → ((i : ℕ) → i < j → subject_at f (pair_of f i) ≢ s)
    → steps ≤ digits (groups f.bitmap_y) + digits (groups f.bitmap_z) + 17
    → IsWithinBudget (subject_cost f s) f steps (triples_from f j)
unfolding step_bound subject_cost lookup_cost
budget_first s f j steps h before few =
    omega (arith, few, ap length (matches_skipped (of_subject s) s f j refl h before))

-- So are the four steps of each triple.
pub budget_step : (s : ℕ) (f : BitmapTriples) (j steps after : ℕ) → j < length f.array_z
    → subject_at f (pair_of f j) ≡ s → after ≤ steps + 4 → IsWithinBudget (subject_cost f s) f steps (triples_from f j)
    → IsWithinBudget (subject_cost f s) f after (triples_from f (j + 1))
unfolding step_bound subject_cost lookup_cost
budget_step s f j steps after h own few pays =
    omega (arith, few, pays, ap length (matches_taken (of_subject s) f j h (own_subject s (triple_at f j) own)))

-- Pair q is the last one before those of s, so no triple up to one of pair q has subject s.
pub before_start : (f : BitmapTriples) (s q j : ℕ) → ones_before f.bitmap_y q + 2 ≡ s → ones_before f.bitmap_z j ≡ q
    → (i : ℕ) → i ≤ j → subject_at f (pair_of f i) ≢ s
before_start f s q j y z i h same =
    omega (
      arith,
      y,
      same,
      ones_before_mono f.bitmap_y (pair_of f i) q (let e : pair_of f i ≤ q =
          omega (arith, z, ones_before_mono f.bitmap_z i j h) in e),
    )

pub subject_above : (f : BitmapTriples) (i : ℕ) → AreConsistentSequences f → i < length f.array_z
    → subject_at f (pair_of f i) ≤ ones_before f.bitmap_y (length f.bitmap_y)
subject_above f i marked h =
    omega (
      arith,
      ones_before_last f.bitmap_y (pair_of f i) marked.last_pair (let e : pair_of f i < length f.bitmap_y =
          omega (arith, marked.pairs, pair_within f marked i h) in e),
    )
