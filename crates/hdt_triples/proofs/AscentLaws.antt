-- From ascending neighbours to all pairs of entries.
use Rattle.std.proofs.Common.{◌≡◌, ℕ, ◌+◌, ◌-◌, ◌<◌, ◌≤◌, zero, suc, length, slice_index, ap, sym, ◌∙◌, arith}
use Rattle.hdt_triples.specs.TripleSequences.{BitmapTriples, AreValidSequences, subject_at, pair_of}
use Rattle.hdt_triples.specs.declared.pattern.Counts.{Counts}
use Rattle.hdt_seq.specs.RankSelect.{ones_before}
use Rattle.hdt_seq.specs.Laws.RankSelect.{ones_before_mono}

-- Predicates ascend within a subject, and objects within a pair.
pub record Ascend (f : BitmapTriples) : Type 0 where
  pub predicates : (q r : ℕ) → q < r → r < length f.array_y → subject_at f q ≡ subject_at f r
      → slice_index f.array_y q < slice_index f.array_y r
  pub objects : (i j : ℕ) → i < j → j < length f.array_z → pair_of f i ≡ pair_of f j
      → slice_index f.array_z i < slice_index f.array_z j

-- Two entries of one group ascend if group numbers don't decrease and neighbours of a group ascend.
ascends : (n : ℕ) (group xs : ℕ → ℕ) (len i : ℕ) → ((a b : ℕ) → a ≤ b → group a ≤ group b)
    → ((a : ℕ) → a + 1 < len → group a ≡ group (a + 1) → xs a < xs (a + 1))
    → i + n + 1 < len → group i ≡ group (i + n + 1) → xs i < xs (i + n + 1)
ascends zero group xs len i mono next within same =
    let e : i + 0 + 1 ≡ i + 1 = omega arith in
    omega (arith, next i (omega (arith, within)) (same ∙ ap group e), ap xs e)
ascends (suc n) group xs len i mono next within same =
    let e : i + suc n + 1 ≡ i + n + 1 + 1 = omega arith in
    let last : group (i + suc n + 1) ≡ group (i + n + 1 + 1) = ap group e in
    let middle : group i ≡ group (i + n + 1) =
    omega (arith, same, last, mono i (i + n + 1) (omega arith), mono (i + n + 1) (i + n + 1 + 1) (omega arith)) in
    omega (
      arith,
      ascends n group xs len i mono next (omega (arith, within)) middle,
      next (i + n + 1) (omega (arith, within)) (sym middle ∙ same ∙ last),
      ap xs e,
    )

ascends_to : (group xs : ℕ → ℕ) (len i j : ℕ) → ((a b : ℕ) → a ≤ b → group a ≤ group b)
    → ((a : ℕ) → a + 1 < len → group a ≡ group (a + 1) → xs a < xs (a + 1)) → i < j → j < len → group i ≡ group j
    → xs i < xs j
ascends_to group xs len i j mono next less within same =
    let e : i + (j - i - 1) + 1 ≡ j = omega (arith, less) in
    omega (
      arith,
      ascends (j - i - 1) group xs len i mono next (omega (arith, e, within)) (same ∙ ap group (sym e)),
      ap xs e,
    )

pub ascend_all : (counts : Counts) (f : BitmapTriples) → AreValidSequences counts f → Ascend f
ascend_all counts f t = record {
  predicates = λ q r less within same. ascends_to (ones_before f.bitmap_y) (slice_index f.array_y)
      (length f.array_y) q r (λ a b h. ones_before_mono f.bitmap_y a b h) t.predicates.ascend less within
      (omega (arith, same));
  objects = λ i j less within same. ascends_to (pair_of f) (slice_index f.array_z) (length f.array_z) i j
      (λ a b h. ones_before_mono f.bitmap_z a b h) t.objects.ascend less within same;
}
