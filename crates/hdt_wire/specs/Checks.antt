-- Checks. The format is a list of checks: conditions, each with the reason and the byte offset of the error that is
-- reported if it is the first to fail. Each part of a file is read by such checks in turn.
use Rattle.std.specs.Prelude.{◌≡◌, ℕ, ◌+◌, ◌==◌, ◌≤◌, ◌<◌, Bool, nat_lt, nat_le, List, length, take, drop, slice_index}
use Rattle.std.specs.Prelude.{slice_range, Option, IfSome, Result, Ok, Err, if◌then◌else◌}
use Rattle.std.specs.List.{position_or_len}
use Rattle.hdt_wire.specs.declared.fault.Fault.{Fault}
use Rattle.hdt_wire.specs.declared.fault.Reason.{Reason}
use Rattle.hdt_wire.specs.declared.fault.Reason.TheVariants.{Truncated}

-- later checks may use what earlier ones read; the result is the first error
infixl 10 ◌>>=◌
abbrev pub ◌>>=◌ : {A B : Type 0} → Result A Fault → (A → Result B Fault) → Result B Fault
(Ok x) >>= f = f x
(Err e) >>= f = Err e

-- a check: fails with this error unless the condition holds
abbrev pub demand : Bool → ℕ → Reason → Result (Unit {0}) Fault
demand holds place reason = if holds then Ok tt else Err (record { place = place; reason = reason })

-- a function returns the result of the checks; `view` maps its value to theirs
abbrev pub Reads : {X Y : Type 0} → (X → Y) → Result X Fault → Result Y Fault → Type 0
Reads view (Ok x) checks = checks ≡ Ok (view x)
Reads view (Err f) checks = checks ≡ Err f

-- the same for a function that may also run out of memory: fault_of maps its error to that of the file, if it is one
abbrev pub ReadsUnlessOom : {X Y E : Type 0} → (E → Option Fault) → (X → Y) → Result X E → Result Y Fault → Type 0
ReadsUnlessOom fault_of view (Ok x) checks = checks ≡ Ok (view x)
ReadsUnlessOom fault_of view (Err e) checks = IfSome (fault_of e) (λ f. checks ≡ Err f)

-- `count` bytes at an offset, and the offset after them
unfoldable pub bytes_at : ℕ → List ℕ → ℕ → Result (List ℕ × ℕ) Fault
bytes_at count bytes at = do
  _ ← demand (nat_le (at + count) (length bytes)) at Truncated
  Ok (slice_range bytes at (at + count), at + count)

-- the number of bytes before the first zero byte, or the length if there is none
abbrev pub len_before_zero : List ℕ → ℕ
len_before_zero bytes = position_or_len (λ b. b == 0) bytes

-- the zero-terminated text at an offset, and the offset after its zero byte
unfoldable pub text_at : List ℕ → ℕ → Result (List ℕ × ℕ) Fault
text_at bytes at =
    let rest = drop at bytes in
    let len = len_before_zero rest in
    do
      _ ← demand (nat_lt len (length rest)) at Truncated
      Ok (take len rest, at + len + 1)

-- ---- encodings at an offset

-- each number of the list is a byte
abbrev pub IsBytes : List ℕ → Type 0
IsBytes bytes = (i : ℕ) → slice_index bytes i < 256

-- the bytes from an offset up to an end are this text
pub record HasSlice (bytes : List ℕ) (at : ℕ) (text : List ℕ) (end : ℕ) : Type 0 where
  pub end_is : end ≡ at + length text
  pub within : end ≤ length bytes
  pub here : slice_range bytes at end ≡ text

-- the bytes from an offset up to an end encode the value
pub record EncodedAt {V : Type 0} (Encodes : List ℕ → V
    → Type 0) (bytes : List ℕ) (at : ℕ) (v : V) (end : ℕ) : Type 0 where
  pub in_order : at ≤ end
  pub within : end ≤ length bytes
  pub spelled : Encodes (slice_range bytes at end) v
