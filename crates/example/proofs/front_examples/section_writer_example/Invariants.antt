use Rattle.std.proofs.Common.{◌≡◌, take}
use Rattle.hdt_front.specs.Canonical.{borrowed_texts}
use Rattle.example.proofs.front_examples.section_writer_example.Given as goal

-- the writer has the strings so far
abbrev pub invariant-loop-string : goal.invariant-loop-string
invariant-loop-string l =
    l.writer ≡ record { block_size = 16; strings = borrowed_texts (take l.string-index l.strings) }
