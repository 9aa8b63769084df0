use Rattle.std.proofs.Common.{◌≡◌, take}
use Rattle.hdt_front.specs.Canonical.{texts, borrowed_texts}
use Rattle.hdt_dict.proofs.parts.borrow_strings.Given as goal

abbrev pub invariant-loop-string : goal.invariant-loop-string
invariant-loop-string l = borrowed_texts l.made.items ≡ texts (take l.string-index l.strings)
