use Rattle.std.proofs.Common.{subst}
use Rattle.std.specs.Prelude.{All}
use Rattle.hdt_front.specs.Canonical.{borrowed_texts}
use Rattle.hdt_dict.specs.Strings.{IsDictionaryString}
use Rattle.hdt_probe_parts.proofs.dict_writing.hold_valid_strings.Goals as goal

pub returns : goal.returns
returns c = λ held. subst (All IsDictionaryString) c.in_ok-slices.ensures (subst (λ l. All IsDictionaryString (borrowed_texts l)) c.as_slice.ensures.value (c.are_valid_strings.ensures held))
