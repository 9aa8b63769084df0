use Rattle.std.proofs.Common.{◌≡◌, map, take, string_bytes}
use Rattle.hdt_tool.proofs.split_arguments.owned_texts.Given as goal

abbrev pub invariant-texts : goal.invariant-texts
invariant-texts l = map string_bytes l.strings.items ≡ map (λ text. text.now) (take l.text-index l.texts)
