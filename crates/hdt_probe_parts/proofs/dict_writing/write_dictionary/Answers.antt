use Rattle.hdt_dict.specs.Laws.Split.{split_sections}
use Rattle.hdt_probe_parts.proofs.dict_writing.write_dictionary.Goals as goal

pub put_dictionary-requires-clause-sections : goal.put_dictionary-requires-clause-sections
put_dictionary-requires-clause-sections c =
    split_sections _ _ _ _ c.in_ok-parts.ensures (c.in_ok-hold_valid_strings.ensures c.if-not-branch.false) (c.in_ok-hold_valid_strings-2.ensures c.if-not-branch-2.false) (c.in_ok-hold_valid_strings-3.ensures c.if-not-branch-3.false)

pub put_one_by_one-requires-clause-sections : goal.put_one_by_one-requires-clause-sections
put_one_by_one-requires-clause-sections c =
    split_sections _ _ _ _ c.in_ok-parts.ensures (c.in_ok-hold_valid_strings.ensures c.if-not-branch.false) (c.in_ok-hold_valid_strings-2.ensures c.if-not-branch-2.false) (c.in_ok-hold_valid_strings-3.ensures c.if-not-branch-3.false)
