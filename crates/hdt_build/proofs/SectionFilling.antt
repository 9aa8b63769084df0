-- Writing a section as a filter of ascending strings.
use Rattle.std.proofs.Common.{◌≡◌, inl, inr, ℕ, ◌+◌, ◌<◌, Bool, List, [], ◌∷◌, ◌++◌, true, false, length, get_or}
use Rattle.std.proofs.Common.{set, subst, arith}
use Rattle.std.proofs.lemmas.Bool.{cases_lt, cases_eq}
use Rattle.std.proofs.lemmas.List.{get_or_past}
use Rattle.std.proofs.lemmas.Map.Keys.{Less-from_sorted}
use Rattle.hdt_front.specs.Order.{IsAscending, string_cmp}
use Rattle.hdt_build.specs.Inside.Filtering.{flag_at}
use Rattle.hdt_build.proofs.RunMerging.{InWork, Ahead, begun, taken}

-- a flag is true only before the end
pub flag_before : (flags : List Bool) (k : ℕ) → flag_at flags k ≡ true → k < length flags
flag_before flags k is = elim (cases_lt k (length flags)) [
  | inl lt ↦ lt
  | inr le ↦ absurd (let e : flag_at flags k ≡ false = get_or_past flags k false le in cc)
]

module _ (xs : List (List ℕ)) (up : IsAscending xs) (keeps : ℕ → Type 0) (small : (k : ℕ) → keeps k
    → k < length xs) (count : ℕ) (before : List ℕ) where
  abbrev text : ℕ → List ℕ
  text k = get_or xs k []

  -- what has been written at index i: of the two runs, one has all that remains
  abbrev pub Filled : ℕ → List (List ℕ) → List ℕ → Type 0
  Filled i strings after = InWork keeps text (Ahead i (length xs) (length xs) (length xs)) count strings before after

  pub none_filled : Filled 0 [] before
  none_filled = begun keeps text count before 0 (length xs) (length xs) (length xs) small
      (λ k lt. absurd (omega (arith, lt))) (λ k le lt. absurd (omega (arith, le, lt)))

  module _ (i : ℕ) (strings : List (List ℕ)) (after : List ℕ) (h : Filled i strings after) where
    pub one_filled : (v : ℕ) → keeps i → i < length after → v ≡ count + (length strings + 1)
        → Filled (i + 1) (strings ++ text i ∷ []) (set after i v)
    one_filled v kept in' is =
        taken keeps text count before i (length xs) (length xs) (length xs) (i + 1) v strings after h kept
        (small i kept) in' is (omega arith)
        (λ k from to. absurd (omega (arith, from, to))) (λ k lt to. Less-from_sorted string_cmp xs i k [] up lt to)
        (λ k from to. absurd (omega (arith, from, to)))

    pub one_passed : (keeps i → ⊥) → Filled (i + 1) strings after
    one_passed none = record {
      ascend = h.ascend;
      each = h.each;
      ids = λ k keep. elim (h.ids k keep) [
        | inl more ↦ inl (later k keep more)
        | inr noted ↦ inr noted
      ];
      others = h.others;
      long = h.long;
      below = λ x there k more. h.below x there k (still k more);
    }
      where
        later : (k : ℕ) → keeps k → Ahead i (length xs) (length xs) (length xs) k
            → Ahead (i + 1) (length xs) (length xs) (length xs) k
        later k keep (inl m) = elim (cases_eq k i) [
          | inl same ↦ absurd (none (subst keeps same keep))
          | inr apart ↦ inl (omega (arith, m.0, apart), m.1)
        ]
        later k keep (inr m) = inr m

        still : (k : ℕ) → Ahead (i + 1) (length xs) (length xs) (length xs) k
            → Ahead i (length xs) (length xs) (length xs) k
        still k (inl m) = inl (omega (arith, m.0), m.1)
        still k (inr m) = inr m
