-- A buffer of the caller that something is written to.
use Rattle.std.specs.Prelude.{List, ◌++◌, take, drop, length}

-- the buffer with a list written over its start, as much of it as fits
abbrev pub overwritten_prefix : {X : Type 0} → List X → List X → List X
overwritten_prefix new buffer = take (length buffer) new ++ drop (length new) buffer
