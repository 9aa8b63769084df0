-- Consecutive lists, joined.
use Rattle.std.proofs.Common.{◌≡◌, ◌∙◌, ℕ, ◌+◌, ◌≤◌, List, [], ◌∷◌, ◌++◌, length, take, drop}
use Rattle.std.proofs.Common.{refl, ap, sym, append_assoc, append-nil, arith}
use Rattle.std.proofs.lemmas.List.{drop-append-le, length-append, length-drop, take-append-le, take_all}
use Rattle.hdt_build.specs.Inside.Batches.{grouped}
use Rattle.hdt_build.specs.Inside.TripleRuns.{joined_runs}

abbrev pub total : List ℕ → ℕ
total [] = 0
total (n ∷ ns) = n + total ns

total_push : (ns : List ℕ) (n : ℕ) → total (ns ++ n ∷ []) ≡ total ns + n
total_push [] n = omega arith
total_push (m ∷ ns) n = omega (arith, total_push ns n)

module _ {X : Type 0} where
  joined_both : (xss yss : List (List X)) → joined_runs (xss ++ yss) ≡ joined_runs xss ++ joined_runs yss
  unfolding joined_runs
  joined_both [] yss = refl
  joined_both (xs ∷ xss) yss =
      ap (λ (l : List X). xs ++ l) (joined_both xss yss) ∙ sym (append_assoc xs (joined_runs xss) (joined_runs yss))

  -- one group more
  grouped_push : (ns : List ℕ) (xss own : List (List X)) → total ns ≡ length xss
      → grouped (ns ++ length own ∷ []) (xss ++ own) ≡ grouped ns xss ++ joined_runs own ∷ []
  unfolding grouped
  grouped_push [] [] own e =
      ap (λ (l : List (List X)). joined_runs l ∷ []) (take_all (length own) own (omega arith))
  grouped_push [] (x ∷ xss) own e = absurd (omega (arith, e))
  grouped_push (n ∷ ns) xss own e =
      let within : n ≤ length xss = omega (arith, e) in
      let rest = grouped_push ns (drop n xss) own (omega (arith, e, length-drop n xss)) in
      let here : take n (xss ++ own) ≡ take n xss = take-append-le n xss own within in
      let later : drop n (xss ++ own) ≡ drop n xss ++ own = drop-append-le n xss own within in
      λ i. joined_runs (here i) ∷ (ap (grouped (ns ++ length own ∷ [])) later ∙ rest) i

-- the lists of the first of all groups, and the length of each of these; `rest` remains
pub record AreSplit (ns : List ℕ) (xss rest all : List (List (List ℕ))) : Type 0 where
  pub long : total ns ≡ length xss
  pub groups : grouped ns xss ++ rest ≡ all
  pub joined : joined_runs xss ++ joined_runs rest ≡ joined_runs all

pub split_none : (all : List (List (List ℕ))) → AreSplit [] [] all all
unfolding grouped joined_runs
split_none all = record { long = refl; groups = refl; joined = refl }

pub split_more : (ns : List ℕ) (xss own rest later all : List (List (List ℕ))) (group : List (List ℕ))
    → rest ≡ group ∷ later → joined_runs own ≡ group → AreSplit ns xss rest all
    → AreSplit (ns ++ length own ∷ []) (xss ++ own) later all
unfolding joined_runs
split_more ns xss own rest later all group e is h =
    let here : joined_runs own ∷ later ≡ rest = ap (λ (g : List (List ℕ)). g ∷ later) is ∙ sym e in
    record {
      long = omega (arith, total_push ns (length own), h.long, length-append xss own);
      groups = ap (λ (l : List (List (List ℕ))). l ++ later) (grouped_push ns xss own h.long)
          ∙ (append_assoc (grouped ns xss) (joined_runs own ∷ []) later
          ∙ (ap (λ (l : List (List (List ℕ))). grouped ns xss ++ l) here ∙ h.groups));
      joined = ap (λ (l : List (List ℕ)). l ++ joined_runs later) (joined_both xss own)
          ∙ (append_assoc (joined_runs xss) (joined_runs own) (joined_runs later)
          ∙ (ap (λ (l : List (List (List ℕ))). joined_runs xss ++ joined_runs l) here ∙ h.joined));
    }

pub split_done : (ns : List ℕ) (xss rest all : List (List (List ℕ))) → rest ≡ [] → AreSplit ns xss rest all
    → (grouped ns xss ≡ all) × (joined_runs xss ≡ joined_runs all)
unfolding joined_runs
split_done ns xss rest all e h = (
  sym (append-nil (grouped ns xss)) ∙ (ap (λ (l : List (List (List ℕ))). grouped ns xss ++ l) (sym e) ∙ h.groups),
  sym (append-nil (joined_runs xss))
      ∙ (ap (λ (l : List (List (List ℕ))). joined_runs xss ++ joined_runs l) (sym e) ∙ h.joined),
)
