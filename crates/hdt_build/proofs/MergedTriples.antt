-- Triples of indices, read one after another.
use Rattle.std.proofs.Common.{◌≡◌, ◌⊎◌, inl, inr, ℕ, ◌<◌, false, true, Bool, List}
use Rattle.std.proofs.Common.{◌∷◌, length, get_or, subst, arith}
use Rattle.std.specs.Prelude.{◌↔◌}
use Rattle.std.specs.List.{Contains}
use Rattle.std.proofs.lemmas.List.Elements.{All-head, All-tail}
use Rattle.hdt_wire.specs.declared.Role.{Role}
use Rattle.hdt_dict.specs.Laws.Members.{Contains-here, Contains-later, Contains-cons_cases}
use Rattle.hdt_triples.specs.TripleSequences.{Triple}
use Rattle.hdt_triples.specs.Uses.{Uses, ids_in_role, role_component}
use Rattle.hdt_build.specs.Inside.Collecting.{AreBelow}

module _ (n : ℕ) (t : Triple) (ts : List Triple) (h : AreBelow n (t ∷ ts)) where
  pub first_below : (t.0 < n) × (t.1 < n) × (t.2 < n)
  first_below = (
    All-head (λ (u : Triple). u.0 < n) t ts h.subjects,
    All-head (λ (u : Triple). u.1 < n) t ts h.predicates,
    All-head (λ (u : Triple). u.2 < n) t ts h.objects,
  )

  pub rest_below : AreBelow n ts
  rest_below = record {
    subjects = All-tail (λ (u : Triple). u.0 < n) t ts h.subjects;
    predicates = All-tail (λ (u : Triple). u.1 < n) t ts h.predicates;
    objects = All-tail (λ (u : Triple). u.2 < n) t ts h.objects;
  }

-- ---- flags

-- an index has its flag, or remaining triples have it, exactly if all triples have it
abbrev pub AreFlagsSoFar : List Triple → Role → List Triple → List Bool → Type 0
AreFlagsSoFar all role ahead flags = (n : ℕ) → n < length flags
    → ((get_or flags n false ≡ true) ⊎ Uses ahead role n) ↔ Uses all role n

module _ (all : List Triple) (role : Role) (t : Triple) (later : List Triple) (old new : List Bool)
    (h : AreFlagsSoFar all role (t ∷ later) old) (len : length new ≡ length old)
    (is : (n : ℕ) → n < length old → (get_or new n false ≡ true)
    ↔ ((role_component role t ≡ n) ⊎ (get_or old n false ≡ true))) where
  pub one_flag : AreFlagsSoFar all role later new
  one_flag n lt = (to, λ used. from (old_flags.1 used))
    where
      below : n < length old
      below = omega (arith, lt, len)

      old_flags : ((get_or old n false ≡ true) ⊎ Uses (t ∷ later) role n) ↔ Uses all role n
      old_flags = h n below

      set : (role_component role t ≡ n) ⊎ (get_or old n false ≡ true) → Uses all role n
      set (inl e) = old_flags.0 (inr (first e))
        where
          first : role_component role t ≡ n → Uses (t ∷ later) role n
          first e = subst (Contains (ids_in_role role (t ∷ later))) e
              (Contains-here (role_component role t) (ids_in_role role later))
      set (inr e) = old_flags.0 (inl e)

      to : (get_or new n false ≡ true) ⊎ Uses later role n → Uses all role n
      to (inl e) = set ((is n below).0 e)
      to (inr used) = old_flags.0 (inr (Contains-later (role_component role t) n (ids_in_role role later) used))

      split : (role_component role t ≡ n) ⊎ Contains (ids_in_role role later) n
          → (get_or new n false ≡ true) ⊎ Uses later role n
      split (inl e) = inl ((is n below).1 (inl e))
      split (inr used) = inr used

      from : (get_or old n false ≡ true) ⊎ Uses (t ∷ later) role n → (get_or new n false ≡ true) ⊎ Uses later role n
      from (inl e) = inl ((is n below).1 (inr e))
      from (inr used) = split (Contains-cons_cases (role_component role t) n (ids_in_role role later) used)
