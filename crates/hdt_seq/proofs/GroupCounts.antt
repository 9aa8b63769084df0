-- The counts of a rank/select index around a position.
use Rattle.std.proofs.Common.{◌≡◌, ℕ, ◌+◌, ◌-◌, ◌*◌, ◌/◌, ◌%◌, ◌<◌, ◌≤◌, List, Bool, length, slice_index, min, ap, ◌∙◌}
use Rattle.std.proofs.Common.{arith, inl, inr, ◌⊎◌}
use Rattle.hdt_seq.specs.RankSelect.{ones_before}
use Rattle.hdt_seq.specs.Laws.RankSelect.{ones_before_past_end}
use Rattle.hdt_seq.specs.Directory.{AreGroupCounts}

-- no more 1-bits past the end
pub at_end : (bits : List Bool) (i j : ℕ) → (i ≡ j) ⊎ ((length bits ≤ i) × (length bits ≤ j))
    → ones_before bits i ≡ ones_before bits j
at_end bits i j (inl e) = ap (ones_before bits) e
at_end bits i j (inr h) = ones_before_past_end bits i j h.0 h.1

group_ends : (g r i n left : ℕ) → r < 512 → 512 * g + r ≡ i → i ≤ n → left ≡ min (512 - r) (n - i)
    → (512 * (g + 1) ≡ i + left) ⊎ ((n ≤ 512 * (g + 1)) × (n ≤ i + left))
group_ends g r i n left small e h is = grind arith

-- the next count is the rank of the end of position i's group
pub group_end : (counts : List ℕ) (bits : List Bool) (i left : ℕ) → AreGroupCounts counts bits → i ≤ length bits
    → 448 ≤ i % 512
    → left ≡ min (512 - i % 512) (length bits - i)
    → (i / 512 + 1 < length counts) × (slice_index counts (i / 512 + 1) ≡ ones_before bits (i + left))
group_end counts bits i left kept h late is =
    let ends = group_ends (i / 512) (i % 512) i (length bits) left (omega arith) (omega arith) h is in (
      omega (arith, kept.many),
      kept.each (i / 512 + 1) (omega arith)
          ∙ at_end bits (512 * (i / 512 + 1)) (i + left) ends,
    )

least_or_past : (i n : ℕ) → (min i n ≡ i) ⊎ ((n ≤ min i n) × (n ≤ i))
least_or_past i n = grind arith

pub at_least : (bits : List Bool) (i : ℕ) → ones_before bits (min i (length bits)) ≡ ones_before bits i
at_least bits i = at_end bits (min i (length bits)) i (least_or_past i (length bits))

-- the last count is the number of all 1-bits
pub last_count : (counts : List ℕ) (bits : List Bool) (i len : ℕ) → AreGroupCounts counts bits → len ≡ length counts
    → i ≡ length bits → slice_index counts (len - 1) ≡ ones_before bits i
last_count counts bits i len kept m e =
    let last : len - 1 ≡ (length bits + 511) / 512 = omega (arith, m, kept.many) in
    ap (slice_index counts) last ∙ kept.each ((length bits + 511) / 512) (omega arith)
    ∙ at_end bits (512 * ((length bits + 511) / 512)) i (inr (omega arith, omega (arith, e)))
