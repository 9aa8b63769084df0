use Rattle.std.proofs.Common.{[], arith}
use Rattle.std.specs.List.Sorted.{IsStrictlySortedBy}
use Rattle.std.proofs.lemmas.List.Elements.{All-nil, All-push}
use Rattle.hdt_dict.specs.Laws.Split.{texts_ascend}
use Rattle.hdt_dict.specs.Strings.{IsDictionaryString}
use Rattle.hdt_build.proofs.grouped_sections.is_dictionary_string.Goals as goal

pub returns : goal.returns
unfolding IsStrictlySortedBy
returns c = (
  λ is. let h = c.are_section_strings.ensures.found is in
      record { utf8 = h.utf8 0 (omega arith); no_zero = h.no_zero 0 (omega arith) },
  λ h. c.are_section_strings.ensures.only
      (texts_ascend _ (All-push IsDictionaryString [] c.args.text.now (All-nil IsDictionaryString) h) (tt, tt)),
)
