-- Steps of a cursor over strings.
use Rattle.std.proofs.Common.{◌≡◌, ◌∙◌, ℕ, ◌+◌, ◌-◌, ◌<◌, List, [], ◌∷◌, length, drop, get_or, Option, Some, refl, ap}
use Rattle.std.proofs.Common.{sym, arith}
use Rattle.std.proofs.lemmas.List.{get_or-drop, drop-drop, length-drop}
use Rattle.hdt_dict.specs.Iteration.{RoleIterState, step_role_iter_by, next_id}
use Rattle.hdt_build.specs.Inside.Rewriting.{IsProgressOf, string_of_id}
use Rattle.hdt_build.proofs.StringsOfIds.{term_is}

pub record Goes (all : List (List ℕ)) (w new : RoleIterState) (n : ℕ) : Type 0 where
  pub number : n ≡ w.given + 1
  pub given : new.given ≡ w.given + 1
  pub last : new.last ≡ string_of_id all (w.given + 1)
  pub progress : IsProgressOf all new
  pub fewer : length new.ahead < length w.ahead

goes_by : (all : List (List ℕ)) (w new : RoleIterState) (n : ℕ) (ahead : List (List ℕ)) → IsProgressOf all w
    → w.ahead ≡ ahead → next_id w ahead ≡ Some n → new ≡ step_role_iter_by w ahead → Goes all w new n
goes_by all w new n [] s is some step = absurd (cc)
goes_by all w new n (x ∷ xs) s is some step =
    let next : drop w.given all ≡ x ∷ xs = sym s.ahead ∙ is in
    let given : new.given ≡ w.given + 1 = ap (λ (p : RoleIterState). p.given) step in
    let long : length (x ∷ xs) ≡ length all - w.given = sym (ap length next) ∙ length-drop w.given all in
    let at : w.given + 1 - 1 ≡ w.given = omega arith in
    record {
      number = cc;
      given = given;
      last = ap (λ (p : RoleIterState). p.last) step
          ∙ (sym (ap (λ (ys : List (List ℕ)). get_or ys 0 []) next)
          ∙ (get_or-drop w.given all 0 []
          ∙ (ap (λ (i : ℕ). get_or all i []) (omega arith) ∙ sym (term_is all (w.given + 1) (omega arith)))));
      progress = record {
        within = omega (arith, given, long);
        ahead = ap (λ (p : RoleIterState). p.ahead) step
            ∙ (sym (ap (drop 1) next) ∙ (drop-drop 1 w.given all ∙ ap (λ (i : ℕ). drop i all) (omega (arith, given))));
      };
      fewer = omega (arith, ap (λ (p : RoleIterState). length p.ahead) step, ap length is);
    }

pub goes : (all : List (List ℕ)) (w new : RoleIterState) (n : ℕ) → IsProgressOf all w → next_id w w.ahead ≡ Some n
    → new ≡ step_role_iter_by w w.ahead → Goes all w new n
goes all w new n s some step = goes_by all w new n w.ahead s refl some step

counted_by : (w new : RoleIterState) (n : ℕ) (ahead : List (List ℕ)) → next_id w ahead ≡ Some n
    → new ≡ step_role_iter_by w ahead → (n ≡ w.given + 1) × (new.given ≡ n)
counted_by w new n [] some step = absurd (cc)
counted_by w new n (x ∷ xs) some step = let given : new.given ≡ w.given + 1 =
    ap (λ (p : RoleIterState). p.given) step in (cc, cc)

pub counted : (w new : RoleIterState) (n : ℕ) → next_id w w.ahead ≡ Some n → new ≡ step_role_iter_by w w.ahead
    → (n ≡ w.given + 1) × (new.given ≡ n)
counted w new n some step = counted_by w new n w.ahead some step

ended_by : (all : List (List ℕ)) (w : RoleIterState) (ahead : List (List ℕ)) (r : Option ℕ) → IsProgressOf all w
    → w.ahead ≡ ahead → r ≡ next_id w ahead → ((k : ℕ) → r ≡ Some k → ⊥) → w.given ≡ length all
ended_by all w [] r s is e none = omega (arith, s.within, ap length (sym is ∙ s.ahead), length-drop w.given all)
ended_by all w (x ∷ xs) r s is e none = absurd (none (w.given + 1) e)

pub ended : (all : List (List ℕ)) (w : RoleIterState) (r : Option ℕ) → IsProgressOf all w → r ≡ next_id w w.ahead
    → ((k : ℕ) → r ≡ Some k → ⊥) → w.given ≡ length all
ended all w r s e none = ended_by all w w.ahead r s refl e none
