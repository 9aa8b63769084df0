-- The state of a cursor with random access.
use Rattle.std.specs.Prelude.{ℕ, List, [], ◌-◌, ◌*◌, ◌/◌, get_or}
use Rattle.hdt_front.specs.declared.section.Section.{Section}
use Rattle.hdt_front.specs.Strings.{strings_of, block_size}

-- Its section, the ID of the current string, from 1, and that string. Before the first one the ID is 0.
pub record SeekerState : Type 0 where
  pub section : Section
  pub at : ℕ
  pub last : List ℕ

-- The state at the string with ID n, from 1.
abbrev pub seeker_at : Section → ℕ → SeekerState
seeker_at s n = record { section = s; at = n; last = get_or (strings_of s) (n - 1) [] }

-- The number of strings before the block of string n.
abbrev pub strings_before_block : Section → ℕ → ℕ
strings_before_block s n = (n - 1) / block_size s * block_size s
