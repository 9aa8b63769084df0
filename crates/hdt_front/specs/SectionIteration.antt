-- The strings that an iteration over a section returns.
use Rattle.std.specs.Prelude.{List, []}
use Rattle.hdt_front.specs.declared.section.Section.{Section}
use Rattle.hdt_front.specs.PackedView.{block_layout}
use Rattle.hdt_front.specs.Iteration.{LocatedString, located_from}

-- The strings of a section with their offsets.
unfoldable pub located_strings : Section → List LocatedString
located_strings s = located_from (block_layout s.packed) s.packed.count 0 [] s.packed.bytes.now
