-- The maximal number of steps of a search, by what the pattern gives. A search is a call of `find` and all of its items
-- together. A step is an access to a count of a rank/select index, to a word of a bitmap (64 bits or fewer), to an
-- entry of array Y or Z, or to an entry of an inverted index.
use Rattle.std.specs.Prelude.{ℕ, ◌+◌, ◌*◌, ◌≤◌, List, length, min, Option, Some, None}
use Rattle.hdt_seq.specs.Width.{digits}
use Rattle.hdt_seq.specs.Directory.{groups}
use Rattle.hdt_triples.specs.TripleSequences.{BitmapTriples, Triple, triples_of}
use Rattle.hdt_triples.specs.InvertedIndex.{positions_of}
use Rattle.hdt_triples.specs.Patterns.{matches}
use Rattle.hdt_triples.specs.declared.pattern.Pattern.{Pattern}

-- A bound on the steps: `base`, and `each` for every triple that is counted and for one more.
pub record CostBound : Type 0 where
  pub base : ℕ
  pub each : ℕ
  -- the pattern of the triples that are counted
  pub counted : Pattern

-- Finding a subject or a pair by rank and select: a binary search of the groups of each bitmap, and 20 more.
unfoldable pub lookup_cost : BitmapTriples → ℕ
lookup_cost f = digits (groups f.bitmap_y) + digits (groups f.bitmap_z) + 20

abbrev pub of_subject : ℕ → Pattern
of_subject s = record { s = Some s; p = None; o = None }

abbrev pub of_predicate : ℕ → Pattern
of_predicate p = record { s = None; p = Some p; o = None }

abbrev pub of_object : ℕ → Pattern
of_object o = record { s = None; p = None; o = Some o }

-- A subject and no predicate: one search by rank and select, and 4 for each triple of the subject.
unfoldable pub subject_cost : BitmapTriples → ℕ → CostBound
subject_cost f s = record { base = lookup_cost f; each = 4; counted = of_subject s }

-- A subject and a predicate: two searches by rank and select, a binary search among the pairs and one among the
-- triples, and 4 for each match.
unfoldable pub pair_cost : BitmapTriples → Pattern → CostBound
pair_cost f p = record {
  base = 2 * lookup_cost f + digits (length f.array_y) + digits (length f.array_z);
  each = 4;
  counted = p;
}

-- Only a predicate: a search by rank and select for each match.
unfoldable pub predicate_cost : BitmapTriples → ℕ → CostBound
predicate_cost f p = record { base = 0; each = lookup_cost f; counted = of_predicate p }

-- An object and no subject: 20 for each triple of the object.
unfoldable pub object_cost : ℕ → CostBound
object_cost o = record { base = 0; each = 20; counted = of_object o }

-- Nothing: 4 for each triple, whatever matches.
unfoldable pub scan_cost : BitmapTriples → Pattern → CostBound
scan_cost f m = record { base = 4 * length f.array_z; each = 0; counted = m }

-- Finding an object in a pair: two searches by rank and select, and a binary search among the triples.
unfoldable pub pair_search_cost : BitmapTriples → ℕ
pair_search_cost f = 2 * lookup_cost f + digits (length f.array_z)

-- The number of triples that match.
abbrev pub match_count : Pattern → BitmapTriples → ℕ
match_count p f = length (matches p (triples_of f))

-- The number of steps that a bound allows.
unfoldable pub step_bound : CostBound → BitmapTriples → ℕ
step_bound c f = c.base + c.each * (1 + match_count c.counted f)

-- The table of bounds of a search, by which of subject, predicate and object its pattern m gives.
abbrev pub cost_of_parts : BitmapTriples → Pattern → Option ℕ → Option ℕ → Option ℕ → CostBound
cost_of_parts f m (Some s) None o = subject_cost f s
cost_of_parts f m (Some s) (Some p) o = pair_cost f m
cost_of_parts f m None (Some p) None = predicate_cost f p
cost_of_parts f m None p (Some o) = object_cost o
cost_of_parts f m None None None = scan_cost f m

abbrev pub cost_of : BitmapTriples → Pattern → CostBound
cost_of f m = cost_of_parts f m m.s m.p m.o

-- The maximal number of steps of a search.
unfoldable pub most_steps : BitmapTriples → Pattern → ℕ
most_steps f m = step_bound (cost_of f m) f

-- Finding the next triple of an object in its list: a binary search, and 20 more.
unfoldable pub list_search_cost : BitmapTriples → ℕ → ℕ
list_search_cost f o = digits (match_count (of_object o) f) + 20

abbrev pub shorter_list_steps_by : BitmapTriples → Pattern → Option ℕ → Option ℕ → Option ℕ → ℕ
-- A predicate and an object: a search for the object in each pair of the predicate, and in one more.
shorter_list_steps_by f pattern None (Some p) (Some o) = pair_search_cost f * (1 + length (positions_of f.array_y p))
-- A subject and an object: one search by rank and select, and four searches in the object's list for each match and for
-- one more.
shorter_list_steps_by f pattern (Some s) None (Some o) =
    lookup_cost f + 4 * list_search_cost f o * (1 + match_count pattern f)
shorter_list_steps_by f pattern s p o = most_steps f pattern

-- The table of steps of a search that uses the shorter of two lists.
unfoldable pub shorter_list_steps : BitmapTriples → Pattern → ℕ
shorter_list_steps f p = shorter_list_steps_by f p p.s p.p p.o

abbrev pub counting_steps_by : BitmapTriples → Option ℕ → Option ℕ → Option ℕ → ℕ
-- Nothing: the number of triples is known.
counting_steps_by f None None None = 0
-- A subject: two searches by rank and select, for the start and the end of its triples; with an object one step more
-- for each of them.
counting_steps_by f (Some s) None None = 2 * lookup_cost f
counting_steps_by f (Some s) None (Some o) = 2 * lookup_cost f + match_count (of_subject s) f
-- A subject and a predicate: two searches by rank and select, a binary search among the pairs and one among the
-- triples.
counting_steps_by f (Some s) (Some p) o = 2 * lookup_cost f + digits (length f.array_y) + digits (length f.array_z)
-- Only a predicate: two searches by rank and select for each of its pairs, and for one more.
counting_steps_by f None (Some p) None = 2 * lookup_cost f * (1 + length (positions_of f.array_y p))
-- An object: the start and the end of its list; with a predicate 10 more for each triple of the object.
counting_steps_by f None None (Some o) = 2
counting_steps_by f None (Some p) (Some o) = 2 + 10 * match_count (of_object o) f

-- The table of steps of counting the matches.
unfoldable pub counting_steps : BitmapTriples → Pattern → ℕ
counting_steps f p = counting_steps_by f p.s p.p p.o

abbrev pub shorter_list_counting_steps_by : BitmapTriples → ℕ → Option ℕ → Option ℕ → Option ℕ → ℕ
-- A subject and an object: two searches by rank and select, and two binary searches in the object's list.
shorter_list_counting_steps_by f most (Some s) None (Some o) =
    2 * lookup_cost f + 2 * digits (match_count (of_object o) f)
-- Only a predicate: a scan of all triples, or two searches by rank and select for each pair that is read, and for one
-- more.
shorter_list_counting_steps_by f most None (Some p) None =
    min (2 + 4 * length f.array_z) (2 * lookup_cost f * (1 + min most (length (positions_of f.array_y p))))
shorter_list_counting_steps_by f most s p o = counting_steps_by f s p o

-- The same if the shorter of two lists is used and counting stops at `most` matches.
unfoldable pub shorter_list_counting_steps : BitmapTriples → ℕ → Pattern → ℕ
shorter_list_counting_steps f most p = shorter_list_counting_steps_by f most p.s p.p p.o

abbrev pub scan_steps_by : BitmapTriples → Option ℕ → Option ℕ → Option ℕ → ℕ
scan_steps_by f None None None = 0
scan_steps_by f s p o = 4 * length f.array_z

-- The same without indexes: all triples are scanned.
unfoldable pub scan_steps : BitmapTriples → Pattern → ℕ
scan_steps f p = scan_steps_by f p.s p.p p.o

-- Finding where a search from a triple on begins: three searches by rank and select, a binary search among the pairs
-- and one among the triples.
unfoldable pub start_cost : BitmapTriples → ℕ
start_cost f = 3 * lookup_cost f + digits (length f.array_y) + digits (length f.array_z)

-- The steps so far, and the bound for the remaining triples, are within the bound for the complete search.
abbrev pub IsWithinBudget : CostBound → BitmapTriples → ℕ → List Triple → Type 0
IsWithinBudget c f steps left = steps + c.each * length (matches c.counted left) ≤ step_bound c f
