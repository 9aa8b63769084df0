use Rattle.std.specs.List.{All}
use Rattle.hdt_file.specs.File.{GraphParts}
use Rattle.hdt_file.specs.CachedTerms.{CachesPredicate}
use Rattle.hdt_file.proofs.term_writing.empty_slots.Given as goal

abbrev pub invariant-slots : goal.invariant-slots
invariant-slots l = (g : GraphParts) → All (CachesPredicate g) l.slots.items
