-- Laws of exact checks.
use Rattle.std.proofs.Common.{◌≡◌, ◌⊎◌, ℕ, zero, suc, ◌+◌, ◌<◌, ◌≤◌, Bool, true, false, Result, Ok, Err, inl, inr, refl}
use Rattle.std.proofs.Common.{sym, ap, subst, ◌∙◌, arith, eq-or-lt_of_le}
use Rattle.hdt_wire.specs.declared.fault.Fault.{Fault}
use Rattle.hdt_wire.specs.declared.fault.Reason.{Reason}
use Rattle.hdt_wire.specs.Checks.{◌>>=◌, demand}
use Rattle.hdt_wire.specs.Laws.Checks.{bind_ok}
use Rattle.hdt_wire.specs.Exact.{Exactly, viewed, IsViewOf, UniqueValue, UniqueFault}
use Rattle.hdt_wire.specs.ItemChecks.{checks_from}

abbrev pub done : {A : Type 0} → A → Result A Fault
done x = Ok x

abbrev pub failed : {A : Type 0} → Fault → Result A Fault
failed f = Err f

pub ok_is : {A : Type 0} (x y : A) → done x ≡ done y → x ≡ y
ok_is x y e = cc

err_is : {A : Type 0} (f g : Fault) → failed {A = A} f ≡ failed g → f ≡ g
err_is f g e = cc

-- what holds of a value holds of that of an equal result
pub holds_of_ok : {A : Type 0} (Is : A → Type 0) (x y : A) → done x ≡ done y → Is x → Is y
holds_of_ok Is x y e h = subst Is (ok_is x y e) h

-- ---- one value or one error

pub one_value : {A : Type 0} (checks : Result A Fault) (Is : A → Type 0) (x y : A) → Exactly checks Is → Is x → Is y
    → x ≡ y
one_value checks Is x y h p q = ok_is x y (sym (h.only x p) ∙ h.only y q)

value_or_fault_of : {A : Type 0} (checks : Result A Fault) (Is : A → Type 0) (r : Result A Fault) → checks ≡ r
    → Exactly checks Is → UniqueValue checks Is ⊎ UniqueFault checks Is
value_or_fault_of checks Is (Ok x) e h = inl (record {
  value = x;
  is = h.found x e;
  unique = λ y p. ok_is x y (sym e ∙ h.only y p);
  no_fault = λ fault s. absurd (cc);
})
value_or_fault_of checks Is (Err f) e h = inr (record {
  fault = f;
  fails = e;
  unique = λ g s. err_is f g (sym e ∙ s);
  no_value = λ x p. let k = h.only x p in absurd (cc);
})

pub value_or_fault : {A : Type 0} (checks : Result A Fault) (Is : A → Type 0) → Exactly checks Is
    → UniqueValue checks Is ⊎ UniqueFault checks Is
value_or_fault checks Is h = value_or_fault_of checks Is checks refl h

-- exact checks stay exact if their value is mapped
pub viewed_exact : {A B : Type 0} (view : A → B) (checks : Result A Fault) (Is : A → Type 0) → Exactly checks Is
    → Exactly (viewed view checks) (IsViewOf view Is)
viewed_exact view checks Is h = record {
  found = λ y e. bind_ok checks _ _ e
      (λ x e1 e. record { value = x; is = h.found x e1; viewed_as = ok_is (view x) y e });
  only = λ y s. ap (λ r. viewed view r) (h.only s.value s.is) ∙ ap (λ z. done z) s.viewed_as;
}

-- ---- single checks, and checks of items

pub holds_if_ok : (holds : Bool) (place : ℕ) (reason : Reason) (u : Unit {0}) → demand holds place reason ≡ Ok u
    → holds ≡ true
holds_if_ok true place reason u e = refl
holds_if_ok false place reason u e = absurd (cc)

pub ok_if_holds : (holds : Bool) (place : ℕ) (reason : Reason) → holds ≡ true → demand holds place reason ≡ Ok tt
ok_if_holds true place reason e = refl
ok_if_holds false place reason e = absurd (cc)

first_or : (check_of : ℕ → Result (Unit {0}) Fault) (i q : ℕ) → check_of i ≡ Ok tt → (i + 1 ≤ q → check_of q ≡ Ok tt)
    → (i ≡ q) ⊎ (i < q) → check_of q ≡ Ok tt
first_or check_of i q here later (inl e) = subst (λ (k : ℕ). check_of k ≡ Ok tt) e here
first_or check_of i q here later (inr l) = later (omega (arith, l))

pub each_check : (check_of : ℕ → Result (Unit {0}) Fault) (n i : ℕ) → checks_from check_of i n ≡ Ok tt → (q : ℕ) → i ≤ q
    → q < i + n → check_of q ≡ Ok tt
unfolding checks_from
each_check check_of zero i h q l w = absurd (omega (arith, l, w))
each_check check_of (suc n) i h q l w =
    bind_ok (check_of i) (λ _. checks_from check_of (i + 1) n) tt h (λ u here more.
    first_or check_of i q here (λ m. each_check check_of n (i + 1) more q m (omega (arith, w))) (eq-or-lt_of_le l))

pub all_checks : (check_of : ℕ → Result (Unit {0}) Fault) (n i : ℕ) → ((q : ℕ) → i ≤ q → q < i + n → check_of q ≡ Ok tt)
    → checks_from check_of i n ≡ Ok tt
unfolding checks_from
all_checks check_of zero i each = refl
all_checks check_of (suc n) i each =
    ap (λ r. r >>= λ _. checks_from check_of (i + 1) n) (each i (omega arith) (omega arith))
    ∙ all_checks check_of n (i + 1) (λ q l w. each q (omega (arith, l)) (omega (arith, w)))

-- the checks of all items are exact if that of each item is
pub item_checks_exact : (check_of : ℕ → Result (Unit {0}) Fault) (n : ℕ) (Is : ℕ → Type 0)
    → ((i : ℕ) → i < n → Exactly (check_of i) (λ _. Is i))
    → Exactly (checks_from check_of 0 n) (λ _. (i : ℕ) → i < n → Is i)
item_checks_exact check_of n Is each = record {
  found = λ u e i lt. (each i lt).found tt (each_check check_of n 0 e i (omega arith) (omega (arith, lt)));
  only = λ u all. all_checks check_of n 0 (λ i l lt. let small : i < n = omega (arith, lt) in
      (each i small).only tt (all i small));
}
