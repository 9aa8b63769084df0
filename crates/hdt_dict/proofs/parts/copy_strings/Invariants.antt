use Rattle.std.proofs.Common.{◌≡◌, take}
use Rattle.hdt_front.specs.Canonical.{borrowed_texts, texts}
use Rattle.hdt_dict.proofs.parts.copy_strings.Given as goal

abbrev pub invariant-loop-text : goal.invariant-loop-text
invariant-loop-text l = texts l.made.items ≡ take l.text-index (borrowed_texts l.list)
