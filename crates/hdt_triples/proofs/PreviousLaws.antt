-- The previous number in the group of an entry.
use Rattle.std.proofs.Common.{List, Bool, true, false, cond, add-one, slice_index, ◌≡◌, ℕ, ◌+◌, refl, ap, ◌∙◌}
use Rattle.std.proofs.Common.{slice_get, Some}
use Rattle.std.proofs.lemmas.Option.{get_or_from_slice_get}
use Rattle.hdt_triples.specs.Triples.{previous_in_group}

pub earlier_first : (marks : List Bool) (xs : List ℕ) → previous_in_group marks xs 0 ≡ 0
unfolding previous_in_group
earlier_first marks xs = refl

pub earlier_marked : (marks : List Bool) (xs : List ℕ) (i : ℕ) → slice_get marks i ≡ Some true
    → previous_in_group marks xs (i + 1) ≡ 0
unfolding previous_in_group
earlier_marked marks xs i h = ap (previous_in_group marks xs) (add-one i)
    ∙ ap (λ b. cond b 0 (slice_index xs i)) (get_or_from_slice_get marks i true false h)

pub earlier_unmarked : (marks : List Bool) (xs : List ℕ) (i : ℕ) → slice_get marks i ≡ Some false
    → previous_in_group marks xs (i + 1) ≡ slice_index xs i
unfolding previous_in_group
earlier_unmarked marks xs i h = ap (previous_in_group marks xs) (add-one i)
    ∙ ap (λ b. cond b 0 (slice_index xs i)) (get_or_from_slice_get marks i false false h)
