-- What the events of a merge give to each run.
use Rattle.std.proofs.Common.{◌≡◌, ◌∙◌, ℕ, ◌+◌, ◌<◌, ◌/◌, ◌%◌, List, [], ◌∷◌, ◌++◌, cond, nat_eq, length, get_or}
use Rattle.std.proofs.Common.{refl, ap, sym, append_assoc, append-nil, Option, Some, None}
use Rattle.hdt_build.specs.Inside.Events.{advanced, dealt, id_of_codes, made_of, pairs_of}

-- one event more
pub dealt_step : {X Y : Type 0} (f : ℕ → X → Y) (b : ℕ) (x : Option X) (y : X) (xs ys : List X) (n r : ℕ) (es : List ℕ)
    → advanced n x xs ≡ (Some y, ys)
    → dealt f b x xs (n ∷ r ∷ es) ≡ cond (nat_eq (r / 4) b) (f (r % 4) y ∷ []) [] ++ dealt f b (Some y) ys es
unfolding dealt made_of
dealt_step f b x y xs ys n r es e = rw e refl

-- what lists have, and what the remaining events give to them
abbrev pub IsDealt : ℕ → List (List ℕ) → List ℕ → List ℕ → List (List ℕ) → Option (ℕ × ℕ) → List ℕ → List ℕ → Type 0
IsDealt shared old all_numbers all lists current numbers events = (b : ℕ) → b < length old
    → get_or lists b [] ++ dealt (id_of_codes shared) b current (pairs_of numbers) events
    ≡ get_or old b [] ++ dealt (id_of_codes shared) b None (pairs_of all_numbers) all

module _ (shared : ℕ) (old : List (List ℕ)) (all_numbers all : List ℕ) (lists : List (List ℕ))
    (current : Option (ℕ × ℕ))
    (numbers events : List ℕ) (h : IsDealt shared old all_numbers all lists current numbers events) where
  pub deal_more : (new : List (List ℕ)) (codes : ℕ × ℕ) (later rest : List ℕ) (begins target : ℕ)
      → events ≡ begins ∷ target ∷ rest → advanced begins current (pairs_of numbers) ≡ (Some codes, pairs_of later)
      → ((b : ℕ) → b < length old → get_or new b []
      ≡ get_or lists b [] ++ cond (nat_eq (target / 4) b) (id_of_codes shared (target % 4) codes ∷ []) [])
      → IsDealt shared old all_numbers all new (Some codes) later rest
  deal_more new codes later rest begins target e a p b lt =
      ap (λ (l : List ℕ). l ++ dealt (id_of_codes shared) b (Some codes) (pairs_of later) rest) (p b lt)
      ∙ (append_assoc (get_or lists b []) (cond (nat_eq (target / 4) b) (id_of_codes shared (target % 4) codes ∷ []) [])
      (dealt (id_of_codes shared) b (Some codes) (pairs_of later) rest)
      ∙ (ap (λ (l : List ℕ). get_or lists b [] ++ l)
      (sym (dealt_step (id_of_codes shared) b current codes (pairs_of numbers) (pairs_of later) begins target rest a)
      ∙ ap (dealt (id_of_codes shared) b current (pairs_of numbers)) (sym e)) ∙ h b lt))

  pub all_dealt : events ≡ [] → (b : ℕ) → b < length old
      → get_or lists b [] ≡ get_or old b [] ++ dealt (id_of_codes shared) b None (pairs_of all_numbers) all
  unfolding dealt
  all_dealt e b lt =
      sym (append-nil (get_or lists b []))
      ∙ (ap (λ (l : List ℕ). get_or lists b [] ++ l) (sym (nothing e)) ∙ h b lt)
    where
      nothing : events ≡ [] → dealt (id_of_codes shared) b current (pairs_of numbers) events ≡ []
      nothing e = rw e refl
