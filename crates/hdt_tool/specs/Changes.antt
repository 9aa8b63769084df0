-- What a call changes of what it is given.
use Rattle.std.specs.Prelude.{◌≡◌, ◌+◌, ◌<◌, ℕ, List, Option, length, take}
use Rattle.std.specs.Io.KnownBytes.{Appends}
use Rattle.hdt_wire.specs.Counted.{inner, failures}
use Rattle.hdt_wire.specs.declared.counted.Counted.{Counted}

-- A value before and after a call.
pub record Update (A : Type 0) : Type 0 where
  pub before : A
  pub after : A

abbrev pub update : {A : Type 0} → A → A → Update A
update before after = record { before = before; after = after }

-- A reader or a writer before and after a call: the bytes that the reader still yields, or that the writer has
-- received, if they are known; and how often it has failed.
pub record Change : Type 0 where
  pub before : Option (List ℕ)
  pub after : Option (List ℕ)
  pub failed_before : ℕ
  pub failed_after : ℕ

-- The same of a reader or writer whose bytes these are.
abbrev pub change : {T : Type 0} → (T → Option (List ℕ)) → Counted T → Counted T → Change
change bytes old new = record {
  before = bytes (inner old);
  after = bytes (inner new);
  failed_before = failures old;
  failed_after = failures new;
}

-- The writer has gained the text.
abbrev pub Gains : Change → List ℕ → Type 0
Gains out text = Appends out.before out.after text

-- It has gained a prefix of the text.
abbrev pub GainsBeginning : Change → List ℕ → Type 0
GainsBeginning out text = (n : ℕ) × Gains out (take n text)

-- The reader or writer has not failed.
abbrev pub IsUnfailed : Change → Type 0
IsUnfailed it = it.failed_after ≡ it.failed_before

-- It has failed once.
abbrev pub HasFailed : Change → Type 0
HasFailed it = it.failed_after ≡ it.failed_before + 1

-- The writer failed once, after exactly the first n bytes of the text.
pub record FailsAfter (n : ℕ) (text : List ℕ) (out : Change) : Type 0 where
  pub failed : HasFailed out
  pub within : n < length text
  pub written : Gains out (take n text)
