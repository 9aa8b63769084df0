-- The cost of a search in a section.
use Rattle.std.specs.Prelude.{ℕ, ◌+◌, ◌-◌, cond, length, nat_eq}
use Rattle.hdt_seq.specs.Width.{digits}
use Rattle.hdt_front.specs.Decoding.{block_count}
use Rattle.hdt_front.specs.Section.{SectionParts}

-- The maximum number of steps of a search: a binary search over the blocks, then one step for each string of a block
-- but the first. None if there are no strings.
unfoldable pub section_search_cost : SectionParts → ℕ
section_search_cost s = cond (nat_eq (length s.strings) 0) 0
    (digits (block_count (length s.strings) s.block_size) + (s.block_size - 1))
