use Rattle.std.proofs.Common.{◌≡◌, map, take, string_bytes}
use Rattle.hdt_tool.proofs.status.borrow_strings.Given as goal

abbrev pub invariant-words : goal.invariant-words
invariant-words l = map (λ text. text.now) l.texts.items ≡ map string_bytes (take l.word-index l.words)
