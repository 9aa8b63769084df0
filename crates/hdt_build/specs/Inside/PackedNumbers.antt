-- Numbers as bytes: the VByte of each.
use Rattle.std.specs.Prelude.{◌≡◌, ℕ, zero, suc, ◌^◌, ◌<◌, List, [], ◌∷◌, ◌++◌}
use Rattle.std.specs.List.{All}
use Rattle.hdt_wire.specs.VByte.{vbyte}
use Rattle.hdt_seq.specs.Width.{greatest}
use Rattle.hdt_seq.specs.SequenceWriting.{IsWriting}
use Rattle.hdt_seq.specs.declared.sequence_writer.SequenceWriter.{SequenceWriter}
use Rattle.hdt_build.specs.Inside.PackedTriples.{split_number}

-- the bytes of numbers
unfoldable pub packed_numbers : List ℕ → List ℕ
packed_numbers [] = []
packed_numbers (x ∷ xs) = vbyte x ++ packed_numbers xs

-- the n numbers that the bytes begin with
unfoldable pub unpacked_numbers : ℕ → List ℕ → List ℕ
unpacked_numbers zero bytes = []
unpacked_numbers (suc n) bytes = let a = split_number bytes in a.0 ∷ unpacked_numbers n a.1

-- the bytes are those of the numbers, and this is the greatest of them
pub record ArePackedNumbers (bytes : List ℕ) (most : ℕ) (xs : List ℕ) : Type 0 where
  pub bytes_are : bytes ≡ packed_numbers xs
  pub most_is : most ≡ greatest xs
  pub fit : All (λ x. x < 2 ^ 64) xs

-- all entries but the remaining ones are written
pub record HaveWritten (before head : List ℕ) (width : ℕ) (all rest : List ℕ) (w : SequenceWriter)
    (out : List ℕ) : Type 0 where
  pub done : List ℕ
  pub writing : IsWriting before head width done w out
  pub all_are : done ++ rest ≡ all
