-- Updating the comparison of two strings after one of them advanced.
use Rattle.std.proofs.Common.{◌≡◌, ℕ, ◌≤◌, Bool, List, [], ◌∷◌, drop, Some, sym, ap, ◌∙◌, subst, arith, Ordering}
use Rattle.std.specs.declared.cmp.Ordering.TheVariants.{Less, Equal, Greater}
use Rattle.std.specs.Bool.{◌==◌}
use Rattle.std.specs.Ordering.{ordering_index, is_eq}
use Rattle.hdt_front.specs.Order.{lcp_len}
use Rattle.hdt_front.specs.Laws.CommonPrefix.{lcp_le_flip, lcp_transitive, shared_prefix_left, shared_prefix_right}
use Rattle.hdt_front.specs.Iteration.{LocatedString, LocatedAscend, first_string, next_lcp}
use Rattle.hdt_dict.specs.Inside.Overlap.{contains_string, drop_less, IsComparison, IsStaleComparison}
use Rattle.hdt_dict.proofs.Overlaps.{reached, string_of}

-- ---- the cursor advances

pub other_turns : (k : ℕ) (comparison : Ordering × ℕ) (v : List LocatedString) (x : List ℕ)
    → IsComparison comparison v x → k ≤ next_lcp v → IsStaleComparison k comparison (drop 1 v) x
other_turns k comparison [] x l h = (λ more. absurd (omega (arith, more, h)), λ le. omega (arith, h))
other_turns k comparison (p ∷ []) x l h = (λ more. absurd (omega (arith, more, h)), λ le. omega (arith, h))
other_turns k comparison (p ∷ q ∷ ps) x l h = (
  λ more. let t = shared_prefix_left k q.string p.string x (omega (arith, more, l.1)) h in
      (l.0 ∙ sym t.0, l.1 ∙ sym t.1),
  λ le. lcp_transitive k q.string p.string x h (omega (arith, le, l.1)),
)

pub other_turned : (k : ℕ) (comparison : Ordering × ℕ) (v w : List LocatedString) (x : List ℕ)
    → IsComparison comparison v x → k ≤ next_lcp v → w ≡ drop 1 v → IsStaleComparison k comparison w x
other_turned k comparison v w x l h e =
    subst (λ (w : List LocatedString). IsStaleComparison k comparison w x) (sym e) (other_turns k comparison v x l h)

-- ---- the list advances

-- a comparison to be updated, with the first string of a list if there is one
abbrev pub FirstTurns : ℕ → Ordering × ℕ → List LocatedString → List LocatedString → Type 0
FirstTurns k comparison v [] = Unit {0}
FirstTurns k comparison v (q ∷ qs) = IsStaleComparison k comparison v q.string

list_turns_by : (k : ℕ) (comparison : Ordering × ℕ) (v : List LocatedString) (next last : List ℕ)
    → IsComparison comparison v last → k ≤ lcp_len next last → IsStaleComparison k comparison v next
list_turns_by k comparison [] next last l h = (λ more. l, λ le. omega (arith, le, l.1))
list_turns_by k comparison (y ∷ ys) next last l h = (
  λ more. let t = shared_prefix_right k y.string next last (omega (arith, more, l.1)) h in
      (l.0 ∙ sym t.0, l.1 ∙ sym t.1),
  λ le. lcp_transitive k y.string last next (omega (arith, le, l.1)) (lcp_le_flip k next last h),
)

list_turns : (k : ℕ) (comparison : Ordering × ℕ) (v list : List LocatedString) (x : List ℕ) → first_string list ≡ Some x
    → IsComparison comparison v x → k ≤ next_lcp list → FirstTurns k comparison v (drop 1 list)
list_turns k comparison v [] x e l h = tt
list_turns k comparison v (p ∷ []) x e l h = tt
list_turns k comparison v (p ∷ q ∷ ps) x e l h =
    list_turns_by k comparison v q.string x l
    (subst (λ (y : List ℕ). k ≤ lcp_len q.string y) (string_of p (q ∷ ps) x e) h)

pub list_turned : (k : ℕ) (comparison : Ordering × ℕ) (v list w : List LocatedString) (x : List ℕ)
    → first_string list ≡ Some x → IsComparison comparison v x → k ≤ next_lcp list → w ≡ drop 1 list
    → FirstTurns k comparison v w
list_turned k comparison v list w x s l h e =
    subst (λ (w : List LocatedString). FirstTurns k comparison v w) (sym e) (list_turns k comparison v list x s l h)

-- ---- the comparison decides whether the string is in the other list

tells : (o : Ordering) (b : Bool) → b ≡ (ordering_index o == 1) → is_eq o ≡ b
tells Less b e = sym e
tells Equal b e = sym e
tells Greater b e = sym e

pub is_met : (x : List ℕ) (v w : List LocatedString) (comparison : Ordering × ℕ) (b : Bool) → LocatedAscend v
    → IsComparison comparison w x → w ≡ drop_less x v → b ≡ (ordering_index comparison.0 == 1) → contains_string v x ≡ b
is_met x v w comparison b a l left e = sym (reached x v w (is_eq comparison.0) a (ap is_eq l.0) left)
    ∙ tells comparison.0 b e
