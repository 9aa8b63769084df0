-- Lists of bytes in chunks.
use Rattle.std.proofs.Common.{◌≡◌, ◌∙◌, ℕ, List, ◌∷◌, ◌++◌, ap, sym, append_assoc}
use Rattle.hdt_wire.specs.Crc.{crc32_register}
use Rattle.hdt_build.specs.Inside.ByteTapes.{HaveCopied, chunk_bytes}
use Rattle.hdt_build.specs.Inside.Chunks.{Chunk}
use Rattle.hdt_build.specs.Inside.Output.{OutputState, Puts}
use Rattle.hdt_build.proofs.Outputs.{puts_then}

module _ (IsKnown : Type 0) (before : OutputState) (all : List ℕ) where
  -- one chunk more
  pub copied_more : (old new : List Chunk) (chunk : Chunk) (crc crc2 : ℕ) (out out2 : OutputState)
      → (IsKnown → old ≡ chunk ∷ new)
      → Puts out out2 chunk.0
      → ((bytes : List ℕ) → crc ≡ crc32_register bytes → crc2 ≡ crc32_register (bytes ++ chunk.0))
      → HaveCopied IsKnown before all old crc out → HaveCopied IsKnown before all new crc2 out2
  copied_more old new chunk crc crc2 out out2 is put register h = record {
    done = h.done ++ chunk.0;
    puts = puts_then before out out2 h.done chunk.0 h.puts put;
    crc_is = register h.done h.crc_is;
    all_are = λ known.
        append_assoc h.done chunk.0 (chunk_bytes new)
        ∙ ap (λ (l : List Chunk). h.done ++ chunk_bytes l) (sym (is known)) ∙ h.all_are known;
  }
