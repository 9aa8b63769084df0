use Rattle.hdt_dict.specs.Laws.Split.{split_sections}
use Rattle.example.proofs.dict_examples.split_example.Goals as goal

pub put_dictionary-requires-clause-sections : goal.put_dictionary-requires-clause-sections
put_dictionary-requires-clause-sections c =
    split_sections _ _ _ _ c.in_ok-parts.ensures c.requires.subjects c.requires.predicates c.requires.objects
