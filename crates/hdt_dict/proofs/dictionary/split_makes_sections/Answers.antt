use Rattle.hdt_dict.specs.Laws.Split.{split_sections}
use Rattle.hdt_dict.proofs.dictionary.split_makes_sections.Goals as goal

pub returns : goal.returns
returns c = split_sections
