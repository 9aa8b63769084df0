use Rattle.std.proofs.Common.{◌≡◌, take}
use Rattle.hdt_front.specs.Canonical.{borrowed_texts}
use Rattle.hdt_front.proofs.writing.put_borrowed_section.Given as goal

abbrev pub invariant-loop-string : goal.invariant-loop-string
invariant-loop-string l =
    l.writer ≡ record { block_size = l.block_size; strings = borrowed_texts (take l.string-index l.strings) }
