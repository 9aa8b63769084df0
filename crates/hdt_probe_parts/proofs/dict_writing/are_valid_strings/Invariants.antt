use Rattle.std.proofs.Common.{ℕ, ◌<◌, [], get_or}
use Rattle.hdt_front.specs.Canonical.{borrowed_texts}
use Rattle.hdt_dict.specs.Strings.{IsDictionaryString}
use Rattle.hdt_probe_parts.proofs.dict_writing.are_valid_strings.Given as goal

abbrev pub invariant-loop-text : goal.invariant-loop-text
invariant-loop-text l = (k : ℕ) → k < l.text-index → IsDictionaryString (get_or (borrowed_texts l.list) k [])
