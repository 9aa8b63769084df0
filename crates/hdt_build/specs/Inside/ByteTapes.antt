-- Lists of bytes in chunks.
use Rattle.std.specs.Prelude.{◌≡◌, ℕ, List, ◌++◌}
use Rattle.std.specs.List.{flat_map}
use Rattle.hdt_wire.specs.Crc.{crc32_register}
use Rattle.hdt_build.specs.Inside.Chunks.{Chunk}
use Rattle.hdt_build.specs.Inside.Output.{OutputState, Puts}

-- the bytes of chunks, one chunk after another
abbrev pub chunk_bytes : List Chunk → List ℕ
chunk_bytes chunks = flat_map (λ c. c.0) chunks

-- bytes were written, and added to the CRC; if the scratch is known, they are all but those of the remaining chunks
pub record HaveCopied (IsKnown : Type 0) (before : OutputState) (all : List ℕ) (rest : List Chunk) (crc : ℕ)
    (out : OutputState) : Type 0 where
  pub done : List ℕ
  pub puts : Puts before out done
  pub crc_is : crc ≡ crc32_register done
  pub all_are : IsKnown → done ++ chunk_bytes rest ≡ all
