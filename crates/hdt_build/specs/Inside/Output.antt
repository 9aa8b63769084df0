-- What is written to a writer, in pieces.
use Rattle.std.specs.Prelude.{◌≡◌, ℕ, ◌+◌, List, length, take, Option}
use Rattle.std.specs.Io.KnownBytes.{Appends}
use Rattle.hdt_build.specs.declared.fault.BuildFault.{BuildFault}
use Rattle.hdt_build.specs.declared.fault.BuildFault.TheVariants.{Write}

-- what a writer has, if that is known; the number of bytes that it was given; and the number of its failures
abbrev pub OutputState : Type 0
OutputState = Option (List ℕ) × ℕ × ℕ

-- the bytes were written and counted, without a failure
pub record Puts (before after : OutputState) (bytes : List ℕ) : Type 0 where
  pub written : Appends before.0 after.0 bytes
  pub counted : after.1 ≡ before.1 + length bytes
  pub unfailed : after.2 ≡ before.2

-- writing failed after the first bytes, and the error has the number of all bytes that were written
pub record CutsPut (before after : OutputState) (bytes : List ℕ) (error : BuildFault) : Type 0 where
  pub count : ℕ
  pub written : Appends before.0 after.0 (take count bytes)
  pub counted : after.1 ≡ before.1 + count
  pub error_is : error ≡ Write after.1
