-- The sections of a role: one, or a first and a second one, whose IDs continue those of the first.
use Rattle.std.specs.Prelude.{ℕ, List, [], Option, Some, None}
use Rattle.hdt_front.specs.Cost.{section_search_cost}
use Rattle.hdt_front.specs.declared.section.Section.{Section}
use Rattle.hdt_front.specs.Strings.{strings_of, section_of, block_size}

-- the strings of the second section, if there is one
abbrev pub second_strings : Option Section → List (List ℕ)
second_strings None = []
second_strings (Some section) = strings_of section

-- the most steps of a search in it
abbrev pub second_search_cost : Option Section → ℕ
second_search_cost None = 0
second_search_cost (Some section) = section_search_cost (section_of section)

-- its block size
abbrev pub second_block_size : Option Section → ℕ
second_block_size None = 0
second_block_size (Some section) = block_size section
