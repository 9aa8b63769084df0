use Rattle.std.proofs.Common.{ℕ, ◌≡◌, ◌≤◌, ◌+◌, ◌*◌, ◌++◌, ◌∷◌, length, take, max, slice_index, option_copied}
use Rattle.std.specs.List.{concat}
use Rattle.hdt_front.specs.Strings.{strings_of, block_size}
use Rattle.hdt_dict.specs.Inside.Seeking.{AreAtString}
use Rattle.hdt_dict.specs.RoleSections.{second_strings, second_block_size}
use Rattle.hdt_dict.specs.StringBatch.{AscendTo, ends_from, strings_by_id}
use Rattle.hdt_dict.proofs.SectionCursors.{second_or_first}
use Rattle.hdt_dict.proofs.string_batch.append_batch.Given as goal

abbrev pub invariant-loop-at : goal.invariant-loop-at
invariant-loop-at l = record {
  first : l.in_first.section ≡ l.sections.first.now;
  second : l.in_second.section ≡ second_or_first l.sections.first l.sections.second;
  size : max (block_size l.in_first.section) (block_size l.in_second.section)
      ≡ max (block_size l.sections.first.now) (second_block_size (option_copied l.sections.second));
  texts : l.out.items ≡ l.fn.out.items
      ++ concat (strings_by_id (strings_of l.sections.first.now ++ second_strings (option_copied l.sections.second))
      (take l.at l.ids));
  places : l.ends.items ≡ l.fn.ends.items
      ++ ends_from (length l.fn.out.items)
      (strings_by_id (strings_of l.sections.first.now ++ second_strings (option_copied l.sections.second))
      (take l.at l.ids));
  cost : l.steps ≤ l.fn.steps + l.at * max (block_size l.sections.first.now)
      (second_block_size (option_copied l.sections.second));
  once : (n : ℕ) → AscendTo l.ids n → AreAtString l.in_first l.in_second (slice_index (0 ∷ l.ids) l.at)
      × (l.steps ≤ l.fn.steps + slice_index (0 ∷ l.ids) l.at);
  more : l.fn.steps ≤ l.steps;
}
