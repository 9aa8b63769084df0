-- The flags of ranks.
use Rattle.std.proofs.Common.{◌≡◌, ◌∙◌, ◌⊎◌, inl, inr, ℕ, ◌+◌, ◌<◌, false, true, Bool, List, length, get_or}
use Rattle.std.proofs.Common.{map, ap, refl, subst, sym, arith}
use Rattle.std.specs.Prelude.{◌↔◌}
use Rattle.std.specs.List.{All}
use Rattle.std.proofs.lemmas.Bool.{cases_lt}
use Rattle.hdt_wire.specs.declared.Role.{Role}
use Rattle.hdt_wire.specs.declared.Role.TheVariants.{Subject, Predicate, Object}
use Rattle.hdt_dict.specs.Laws.Members.{Contains-map, Contains-from_map}
use Rattle.hdt_triples.specs.TripleSequences.{Triple}
use Rattle.hdt_triples.specs.Uses.{AreUseFlags, Uses, role_component}
use Rattle.hdt_build.specs.declared.role_flags.RoleFlags.{RoleFlags}
use Rattle.hdt_build.specs.Graph.{mapped_triple}
use Rattle.hdt_build.specs.Inside.Collecting.{AreBelow}
use Rattle.hdt_build.specs.Inside.Filtering.{AreFlagsOfRanks, AreRankedFlags, AreFlagsOfRoles, HaveLength, flag_at}
use Rattle.std.proofs.lemmas.List.Elements.{All-contains}

-- ---- one rank after another

-- an index before `at` with this rank has a flag
abbrev FlagBefore : ℕ → List Bool → List ℕ → ℕ → Type 0
FlagBefore at flags ranks n = (k : ℕ) × (k < at) × (flag_at flags k ≡ true) × (get_or ranks k 0 ≡ n)

abbrev pub AreFlagsBefore : ℕ → List Bool → List ℕ → List Bool → Type 0
AreFlagsBefore at flags ranks made = (n : ℕ) → n < length made → (flag_at made n ≡ true) ↔ FlagBefore at flags ranks n

module _ (flags : List Bool) (ranks : List ℕ) where
  pub none_before : (made : List Bool) → ((n : ℕ) → n < length made → flag_at made n ≡ false)
      → AreFlagsBefore 0 flags ranks made
  none_before made none n lt = (
    λ on. let off = none n lt in absurd cc,
    λ some. absurd (omega (arith, some.1)),
  )

  module _ (at : ℕ) (old new : List Bool) (h : AreFlagsBefore at flags ranks old) where
    pub flag_set : flag_at flags at ≡ true → length new ≡ length old
        → ((n : ℕ) → n < length old → (flag_at new n ≡ true) ↔ ((get_or ranks at 0 ≡ n) ⊎ (flag_at old n ≡ true)))
        → AreFlagsBefore (at + 1) flags ranks new
    flag_set on len is n lt = (λ e. to ((is n below).0 e), from)
      where
        below : n < length old
        below = omega (arith, lt, len)

        to : (get_or ranks at 0 ≡ n) ⊎ (flag_at old n ≡ true) → FlagBefore (at + 1) flags ranks n
        to (inl e) = (at, omega arith, on, e)
        to (inr e) = let some = (h n below).0 e in (some.0, omega (arith, some.1), some.2, some.3)

        from : FlagBefore (at + 1) flags ranks n → flag_at new n ≡ true
        from some = elim (cases_lt some.0 at) as (λ _. flag_at new n ≡ true) [
          | inl lt ↦ (is n below).1 (inr ((h n below).1 (some.0, lt, some.2, some.3)))
          | inr le ↦
              let same : some.0 ≡ at = omega (arith, le, some.1) in
              (is n below).1 (inl (ap (λ (k : ℕ). get_or ranks k 0) (sym same) ∙ some.3))
        ]

    pub flag_passed : flag_at flags at ≡ false → new ≡ old → AreFlagsBefore (at + 1) flags ranks new
    flag_passed off e n lt = (
      λ on. let some = (h n below).0 (subst (λ (fs : List Bool). flag_at fs n ≡ true) e on) in
          (some.0, omega (arith, some.1), some.2, some.3),
      from,
    )
      where
        below : n < length old
        below = omega (arith, lt, ap length e)

        from : FlagBefore (at + 1) flags ranks n → flag_at new n ≡ true
        from some = elim (cases_lt some.0 at) as (λ _. flag_at new n ≡ true) [
          | inl lt ↦ subst (λ (fs : List Bool). flag_at fs n ≡ true) (sym e)
              ((h n below).1 (some.0, lt, some.2, some.3))
          | inr le ↦
              let same : some.0 ≡ at = omega (arith, le, some.1) in
              let on = some.2 in
              let none = ap (λ (k : ℕ). flag_at flags k) same ∙ off in
              absurd cc
        ]

-- ---- the flags are those of the mapped triples

module _ (ids : List Triple) (ranks : List ℕ) (within : AreBelow (length ranks) ids) where
  abbrev moved : Triple → Triple
  moved = mapped_triple ranks ranks ranks

  moved_component : (role : Role) (t : Triple)
      → role_component role (moved t) ≡ get_or ranks (role_component role t) 0
  moved_component Subject t = refl
  moved_component Predicate t = refl
  moved_component Object t = refl

  role_bound : (role : Role) → All (λ (t : Triple). role_component role t < length ranks) ids
  role_bound Subject = within.subjects
  role_bound Predicate = within.predicates
  role_bound Object = within.objects

  module _ (role : Role) (flags made : List Bool) (long : length flags ≡ length ranks) (u : AreUseFlags ids role flags)
      (r : AreFlagsOfRanks flags ranks made) where
    used : (n : ℕ) → ((k : ℕ) × (k < length ranks) × (flag_at flags k ≡ true) × (get_or ranks k 0 ≡ n))
        → Uses (map moved ids) role n
    used n some =
        let there = Contains-from_map (role_component role) ids some.0
        ((u some.0 (omega (arith, some.1, long))).0 some.2) in
        subst (Uses (map moved ids) role)
        (moved_component role there.0 ∙ (ap (λ (k : ℕ). get_or ranks k 0) there.2 ∙ some.3))
        (Contains-map (role_component role) (map moved ids) (moved there.0)
        (Contains-map moved ids there.0 there.1))

    flagged : (n : ℕ) → Uses (map moved ids) role n
        → (k : ℕ) × (k < length ranks) × (flag_at flags k ≡ true) × (get_or ranks k 0 ≡ n)
    flagged n uses =
        let s = Contains-from_map (role_component role) (map moved ids) n uses in
        let t = Contains-from_map moved ids s.0 s.1 in
        let k = role_component role t.0 in
        let lt : k < length ranks =
        All-contains (λ (v : Triple). role_component role v < length ranks) ids t.0
        (role_bound role) t.1 in (
          k,
          lt,
          (u k (omega (arith, lt, long))).1 (Contains-map (role_component role) ids t.0 t.1),
          sym (moved_component role t.0) ∙ (ap (role_component role) t.2 ∙ s.2),
        )

    pub ranked_uses : AreUseFlags (map moved ids) role made
    ranked_uses n lt = (λ on. used n ((r n lt).0 on), λ uses. (r n lt).1 (flagged n uses))

  module _ (index_flags flags : RoleFlags) (n : ℕ) (are : AreFlagsOfRoles ids (length ranks) index_flags)
      (long : HaveLength n flags) (r : AreRankedFlags index_flags ranks flags) where
    pub ranked_are : AreFlagsOfRoles (map moved ids) n flags
    ranked_are = record {
      long = long;
      subjects = ranked_uses Subject _ _ are.long.subjects are.subjects r.subjects;
      predicates = ranked_uses Predicate _ _ are.long.predicates are.predicates r.predicates;
      objects = ranked_uses Object _ _ are.long.objects are.objects r.objects;
    }
