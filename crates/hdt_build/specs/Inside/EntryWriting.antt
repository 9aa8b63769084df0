-- Sequences whose entries are written in pieces.
use Rattle.std.specs.Prelude.{◌≡◌, ℕ, ◌*◌, ◌%◌, List, [], ◌∷◌, ◌++◌, length}
use Rattle.hdt_wire.specs.Crc.{crc8, crc32_register}
use Rattle.hdt_seq.specs.PackedBits.{EachFits, packed}
use Rattle.hdt_build.specs.Inside.Output.{OutputState, Puts}

-- a writer of entries: its output, the width of an entry in bits, the register of the CRC of what was written, and the
-- entries that were not
pub record EntryState : Type 0 where
  pub out : OutputState
  pub width : ℕ
  pub crc : ℕ
  pub pending : List ℕ

-- after `before`, the head of a sequence with its CRC was written, and the packed bytes of the first entries, which
-- take whole bytes; the others are pending
pub record IsWritingEntries (before : OutputState) (head : List ℕ) (width : ℕ) (xs : List ℕ) (w : EntryState)
    : Type 0 where
  pub done : List ℕ
  pub width_is : w.width ≡ width
  pub fits : EachFits width done
  pub whole : width * length done % 8 ≡ 0
  pub entries_are : done ++ w.pending ≡ xs
  pub puts : Puts before w.out (head ++ crc8 head ∷ packed width done)
  pub crc_is : w.crc ≡ crc32_register (packed width done)

-- the pending entries were written, and their bytes were added to the CRC
pub record Flushes (old new : EntryState) : Type 0 where
  pub width_is : new.width ≡ old.width
  pub none : new.pending ≡ []
  pub puts : Puts old.out new.out (packed old.width old.pending)
  pub crc_is : (bytes : List ℕ) → old.crc ≡ crc32_register bytes
      → new.crc ≡ crc32_register (bytes ++ packed old.width old.pending)
