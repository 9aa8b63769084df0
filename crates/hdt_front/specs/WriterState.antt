-- The state of a section writer.
use Rattle.std.specs.Prelude.{ℕ, List, length}
use Rattle.hdt_front.specs.Section.{before}

-- The view of a writer in contracts: the block size in strings, and the strings so far.
pub record SectionWriterState : Type 0 where
  pub block_size : ℕ
  pub strings : List (List ℕ)

-- The last string; empty if there is none yet.
abbrev pub last_string : SectionWriterState → List ℕ
last_string w = before w.strings (length w.strings)
