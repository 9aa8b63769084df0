-- The checks of items, one step: the first check, then those of the remaining items.
use Rattle.std.proofs.Common.{◌≡◌, ◌∙◌, ℕ, suc, ◌+◌, ◌-◌, ◌<◌, ◌≤◌, Result, Ok, Err, ap, arith}
use Rattle.hdt_wire.specs.declared.fault.Fault.{Fault}
use Rattle.hdt_wire.specs.Checks.{◌>>=◌}
use Rattle.hdt_wire.specs.ItemChecks.{checks_from}

first_check : (check_of : ℕ → Result (Unit {0}) Fault) (i n : ℕ) → i < n
    → checks_from check_of i (n - i) ≡ (check_of i >>= λ _. checks_from check_of (i + 1) (n - (i + 1)))
unfolding checks_from
first_check check_of i n h = let e : n - i ≡ suc (n - (i + 1)) = omega arith in ap (checks_from check_of i) e

pub checks_after_pass : (check_of : ℕ → Result (Unit {0}) Fault) (i n : ℕ) → i < n → check_of i ≡ Ok tt
    → checks_from check_of i (n - i) ≡ checks_from check_of (i + 1) (n - (i + 1))
checks_after_pass check_of i n h ok = first_check check_of i n h
    ∙ ap (λ r. r >>= λ _. checks_from check_of (i + 1) (n - (i + 1))) ok

pub checks_after_failure : (check_of : ℕ → Result (Unit {0}) Fault) (i n : ℕ) (f : Fault) → i < n → check_of i ≡ Err f
    → checks_from check_of i (n - i) ≡ Err f
checks_after_failure check_of i n f h err = first_check check_of i n h
    ∙ ap (λ r. r >>= λ _. checks_from check_of (i + 1) (n - (i + 1))) err

pub checks_at_end : (check_of : ℕ → Result (Unit {0}) Fault) (i n : ℕ) → n ≤ i → checks_from check_of i (n - i) ≡ Ok tt
unfolding checks_from
checks_at_end check_of i n h = let e : n - i ≡ 0 = omega arith in ap (checks_from check_of i) e

pub checks_from_start : (check_of : ℕ → Result (Unit {0}) Fault) (n : ℕ)
    → checks_from check_of 0 (n - 0) ≡ checks_from check_of 0 n
checks_from_start check_of n = let e : n - 0 ≡ n = omega arith in ap (checks_from check_of 0) e
