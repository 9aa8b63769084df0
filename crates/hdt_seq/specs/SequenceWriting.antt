-- Sequences whose entries are written one after another.
use Rattle.std.specs.Prelude.{◌≡◌, ◌++◌, ◌∷◌, [], ℕ, List, length}
use Rattle.hdt_wire.specs.Crc.{crc8}
use Rattle.hdt_seq.specs.PackedBits.{EachFits}
use Rattle.hdt_seq.specs.Laws.Packing.{Packs}
use Rattle.hdt_seq.specs.declared.sequence_writer.SequenceWriter.{SequenceWriter}

-- After `before`, the output has the preamble of a sequence with its CRC, and all full words of the packed entries. The
-- writer has the remaining bits.
pub record IsWriting (before preamble : List ℕ) (width : ℕ) (xs : List ℕ) (w : SequenceWriter)
    (out : List ℕ) : Type 0 where
  pub width_is : w.width ≡ width
  pub start_is : w.start ≡ length (before ++ (preamble ++ crc8 preamble ∷ []))
  pub fits : EachFits width xs
  pub packs : Packs width xs w.rest.word w.rest.filled (before ++ (preamble ++ crc8 preamble ∷ [])) out
