-- The checks of consecutive items.
use Rattle.std.specs.Prelude.{ℕ, ◌+◌, zero, suc, Result, Ok}
use Rattle.hdt_wire.specs.declared.fault.Fault.{Fault}
use Rattle.hdt_wire.specs.Checks.{◌>>=◌}

-- the checks of n consecutive items in turn, from item i on
unfoldable pub checks_from : (ℕ → Result (Unit {0}) Fault) → ℕ → ℕ → Result (Unit {0}) Fault
checks_from check_of i zero = Ok tt
checks_from check_of i (suc n) = check_of i >>= λ _. checks_from check_of (i + 1) n
