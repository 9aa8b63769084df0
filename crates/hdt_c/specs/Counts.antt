-- The number of triples of each predicate.
use Rattle.std.specs.Prelude.{ℕ, List, map, length}
use Rattle.std.specs.List.{range_with_len}
use Rattle.hdt_wire.specs.declared.Role.TheVariants.{Predicate}
use Rattle.hdt_dict.specs.Dictionary.{role_strings}
use Rattle.hdt_triples.specs.Bounds.{of_predicate}
use Rattle.hdt_triples.specs.Patterns.{matches}
use Rattle.hdt_file.specs.File.{GraphParts}

-- the number of triples with the predicate of this ID
abbrev pub predicate_count : GraphParts → ℕ → ℕ
predicate_count g n = length (matches (of_predicate n) g.triples)

-- the number of predicates
abbrev pub predicate_len : GraphParts → ℕ
predicate_len g = length (role_strings g.dictionary Predicate)

-- the number of triples of each predicate, in the order of their IDs, which begin with 1
abbrev pub predicate_counts : GraphParts → List ℕ
predicate_counts g = map (predicate_count g) (range_with_len 1 (predicate_len g))
