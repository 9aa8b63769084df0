use Rattle.std.proofs.Common.{◌≡◌, take}
use Rattle.hdt_front.specs.Canonical.{texts, borrowed_texts}
use Rattle.hdt_front.proofs.writing.borrow_strings.Given as goal

abbrev pub invariant-loop-string : goal.invariant-loop-string
invariant-loop-string l = borrowed_texts l.slices.items ≡ texts (take l.string-index l.strings)
