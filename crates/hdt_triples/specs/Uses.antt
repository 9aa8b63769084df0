-- Which IDs occur in triples.
use Rattle.std.specs.Prelude.{◌≡◌, ◌↔◌, ℕ, ◌<◌, ◌==◌, Bool, true, false, List, length, map, slice_index_or}
use Rattle.std.specs.List.{Contains, list_any}
use Rattle.hdt_wire.specs.declared.Role.{Role}
use Rattle.hdt_wire.specs.declared.Role.TheVariants.{Subject, Predicate, Object}
use Rattle.hdt_triples.specs.TripleSequences.{Triple}

-- The component of a triple that has the role.
abbrev pub role_component : {A : Type 0} → Role → A × A × A → A
role_component Subject t = t.0
role_component Predicate t = t.1
role_component Object t = t.2

-- The IDs of triples in a role.
abbrev pub ids_in_role : Role → List Triple → List ℕ
ids_in_role role ts = map (role_component role) ts

-- A triple has the ID n in the role.
abbrev pub Uses : List Triple → Role → ℕ → Type 0
Uses ts role n = Contains (ids_in_role role ts) n

-- The same as a truth value.
unfoldable pub uses : List Triple → Role → ℕ → Bool
uses ts role n = list_any (λ m. m == n) (ids_in_role role ts)

-- The flags, one for each ID from 0, are true exactly for those that triples have in the role.
abbrev pub AreUseFlags : List Triple → Role → List Bool → Type 0
AreUseFlags ts role flags = (n : ℕ) → n < length flags → (slice_index_or flags n false ≡ true) ↔ Uses ts role n
