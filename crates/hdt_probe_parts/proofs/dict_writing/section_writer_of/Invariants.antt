use Rattle.std.proofs.Common.{◌≡◌, take}
use Rattle.hdt_front.specs.Canonical.{borrowed_texts}
use Rattle.hdt_probe_parts.proofs.dict_writing.section_writer_of.Given as goal

abbrev pub invariant-loop-string : goal.invariant-loop-string
invariant-loop-string l = l.writer ≡ record { block_size = l.block_size; strings = borrowed_texts (take l.string-index l.strings) }
