-- `Uses` and its truth value `uses` agree.
use Rattle.std.proofs.Common.{◌≡◌, ℕ, ◌==◌, Bool, true, eq-eqb, subst}
use Rattle.std.proofs.lemmas.Bool.{eqb-true}
use Rattle.std.proofs.lemmas.Bool.Decides.{Decides-at}
use Rattle.std.proofs.lemmas.List.Folds.{Any-from_list_any, list_any_at}
use Rattle.std.specs.Bool.{Decides}
use Rattle.std.specs.Prelude.{List, slice_index_or}
use Rattle.hdt_wire.specs.declared.Role.{Role}
use Rattle.hdt_triples.specs.TripleSequences.{Triple}
use Rattle.hdt_triples.specs.Uses.{ids_in_role, Uses, uses}

pub uses_found : (ts : List Triple) (role : Role) (n : ℕ) → uses ts role n ≡ true → Uses ts role n
unfolding uses
uses_found ts role n h =
    let ns : List ℕ = ids_in_role role ts in
    let a = Any-from_list_any (λ m. m == n) ns h in
    (a.0, a.2, subst (λ m. slice_index_or ns a.0 m ≡ m) (eqb-true a.1 n a.4) a.3)

pub uses_only : (ts : List Triple) (role : Role) (n : ℕ) → Uses ts role n → uses ts role n ≡ true
unfolding uses
uses_only ts role n h =
    let ns : List ℕ = ids_in_role role ts in
    list_any_at (λ m. m == n) ns h.0 n h.1 (eq-eqb (slice_index_or ns h.0 n) n h.2)

pub uses_decides : (ts : List Triple) (role : Role) (n : ℕ) → Decides (uses ts role n) (Uses ts role n)
uses_decides ts role n = (uses_found ts role n, uses_only ts role n)

-- A truth value that equals `uses` decides `Uses`.
pub uses_means : (ts : List Triple) (role : Role) (n : ℕ) (b : Bool) → b ≡ uses ts role n → Decides b (Uses ts role n)
uses_means ts role n b is = Decides-at b (uses ts role n) is (uses_decides ts role n)
