-- Sections whose bytes are on scratch.
use Rattle.std.specs.Prelude.{◌≡◌, ℕ, ◌%◌, ◌≤◌, List, [], ◌∷◌, ◌++◌, false, Bool, length}
use Rattle.hdt_seq.specs.PackedBits.{EachFits}
use Rattle.hdt_front.specs.Canonical.{block_offsets, packed_of}
use Rattle.hdt_front.specs.WriterState.{SectionWriterState}
use Rattle.hdt_build.specs.Inside.EntryWriting.{EntryState, IsWritingEntries}
use Rattle.hdt_build.specs.Inside.Output.{OutputState}

-- the parts of the section of strings: the block offsets without the end, and the front-coded bytes
pub record AreParts (b : ℕ) (strings : List (List ℕ)) (starts packed : List ℕ) : Type 0 where
  pub starts_are : starts ++ length packed ∷ [] ≡ block_offsets b strings
  pub packed_are : packed ≡ packed_of b strings

-- the strings are those of whole blocks, whose parts these are, and then those of the writer
pub record AreMoved (strings : List (List ℕ)) (current : SectionWriterState) (starts packed : List ℕ) : Type 0 where
  pub done : List (List ℕ)
  pub all : strings ≡ done ++ current.strings
  pub whole : length done % current.block_size ≡ 0
  pub parts : AreParts current.block_size done starts packed

-- the fields of a section that is being written; what scratch has may be known
pub record IsSectionTape (known : Type 0) (failed : Bool) (b count : ℕ) (strings : List (List ℕ))
    (current : SectionWriterState) (starts packed : List ℕ) : Type 0 where
  pub some : 1 ≤ b
  pub block : current.block_size ≡ b
  pub counted : count ≡ length strings
  pub moved : failed ≡ false → known → AreMoved strings current starts packed

-- the fields of a section that was written
pub record IsFinishedSection (known : Type 0) (b count : ℕ) (strings : List (List ℕ)) (starts packed : List ℕ)
    : Type 0 where
  pub counted : count ≡ length strings
  pub parts : known → AreParts b strings starts packed

-- so many of the numbers were written as entries, and the others are left
pub record HavePushedEntries (all rest : List ℕ) (count : ℕ) (old new : EntryState) : Type 0 where
  pub done : List ℕ
  pub all_are : done ++ rest ≡ all
  pub counted : count ≡ length done
  pub entries : (before : OutputState) (head : List ℕ) (width : ℕ) → EachFits width all
      → IsWritingEntries before head width [] old → IsWritingEntries before head width done new
