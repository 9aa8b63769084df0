-- Several writes to one writer, or to one list of bytes.
use Rattle.std.proofs.Common.{◌≡◌, List, ℕ, ◌++◌, ◌∙◌, length, take, Option, Some, None, Result, Ok, Err, OnErr, refl}
use Rattle.std.proofs.Common.{ap, append_assoc}
use Rattle.std.proofs.lemmas.List.{take_at}
use Rattle.std.specs.Io.KnownBytes.{Appends}
use Rattle.hdt_wire.specs.Control.{IsPrefixOf}

pub Appends-then : (a b c : Option (List ℕ)) (xs ys : List ℕ) → Appends a b xs → Appends b c ys → Appends a c (xs ++ ys)
Appends-then None b c xs ys p q = tt
Appends-then (Some olds) None c xs ys p q = absurd p
Appends-then (Some olds) (Some bs) None xs ys p q = absurd q
Appends-then (Some olds) (Some bs) (Some cs) xs ys p q = q ∙ ap (λ (t : List ℕ). t ++ ys) p ∙ append_assoc olds xs ys

-- the new list is the old one with more appended
pub record HasAppended (old new : List ℕ) : Type 0 where
  pub more : List ℕ
  pub whole : new ≡ old ++ more

pub grown : (old new xs : List ℕ) → new ≡ old ++ xs → HasAppended old new
grown old new xs p = record { more = xs; whole = p }

pub grows : (old mid new xs : List ℕ) → HasAppended old mid → new ≡ mid ++ xs → HasAppended old new
grows old mid new xs g p =
    record { more = g.more ++ xs; whole = p ∙ ap (λ (t : List ℕ). t ++ xs) g.whole ∙ append_assoc old g.more xs }

-- if a write fails and changes nothing, what was there before all writes is still a prefix
pub prefix_if_failed : {T E : Type 0} (result : Result T E) (old mid new : List ℕ) → HasAppended old mid → new ≡ mid
    → OnErr result (IsPrefixOf old new)
prefix_if_failed (Ok x) old mid new g p = tt
prefix_if_failed (Err e) old mid new g p = ap (take (length old)) (p ∙ g.whole) ∙ take_at old g.more (length old) refl
