-- Reading more bytes than there are.
use Rattle.std.proofs.Common.{◌≡◌, ℕ, ◌+◌, ◌<◌, List, length, Err, refl, arith}
use Rattle.std.proofs.lemmas.Bool.{lt-leb}
use Rattle.hdt_wire.specs.declared.fault.Reason.TheVariants.{Truncated}
use Rattle.hdt_wire.specs.Checks.{bytes_at}

-- a count above the length of the input fails
pub too_many : (bytes : List ℕ) (at n : ℕ) → length bytes < n
    → bytes_at n bytes at ≡ Err (record { place = at; reason = Truncated })
unfolding bytes_at
too_many bytes at n lt = rw (lt-leb (at + n) (length bytes) (omega (arith, lt))) refl
