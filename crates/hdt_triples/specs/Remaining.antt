-- Views of an iterator over matches: the remaining matches, the bounds on its steps by either table, and the steps so
-- far.
use Rattle.std.specs.Prelude.{ℕ, ◌+◌, ◌*◌, List, [], length, map, min}
use Rattle.hdt_triples.specs.Bounds.{lookup_cost, step_bound, object_cost, of_predicate, pair_search_cost, pair_cost}
use Rattle.hdt_triples.specs.Bounds.{predicate_cost, list_search_cost, subject_cost, match_count}
use Rattle.hdt_triples.specs.TripleSequences.{Triple, triple_at}
use Rattle.hdt_triples.specs.InvertedIndex.{positions_of}
use Rattle.hdt_triples.specs.Patterns.{matches}
use Rattle.hdt_triples.specs.Views.{triples_view}
use Rattle.hdt_triples.specs.Scanning.{triples_from}
use Rattle.hdt_triples.specs.declared.matches.Matches.{Matches}
use Rattle.hdt_triples.specs.declared.matches.Matches.TheVariants.{Empty, Scan, Subject, SubjectObject, Pair, Predicate}
use Rattle.hdt_triples.specs.declared.matches.Matches.TheVariants.{PredicateObject, Object}

-- The remaining matches: among the triples from the current one on, or among the remaining triples of an object. They
-- need not be read: `next` ties them to the triples that it returns.
unfoldable pub remaining_matches : Matches → List Triple
remaining_matches Empty = []
remaining_matches (Scan m) = matches m.pattern (triples_from (triples_view m.triples) m.position.at)
remaining_matches (Subject m) = matches m.pattern (triples_from (triples_view m.triples) m.position.at)
remaining_matches (SubjectObject m) =
    matches m.pattern (triples_from (triples_view m.indexed.now.triples) m.position.at)
remaining_matches (Pair m) = matches m.pattern (triples_from (triples_view m.triples) m.at)
remaining_matches (Predicate m) =
    matches (of_predicate m.predicate) (triples_from (triples_view m.indexed.now.triples) m.cursor.at)
remaining_matches (PredicateObject m) = matches m.pattern (triples_from (triples_view m.indexed.now.triples) m.at)
remaining_matches (Object m) = matches m.pattern (map (triple_at (triples_view m.indexed.now.triples)) m.rest.now)

unfoldable pub step_limit : Matches → ℕ
step_limit Empty = 0
step_limit (Scan m) = 4 * length (triples_view m.triples).array_z
step_limit (Subject m) = step_bound (subject_cost (triples_view m.triples) m.subject) (triples_view m.triples)
step_limit (SubjectObject m) =
    step_bound (subject_cost (triples_view m.indexed.now.triples) m.subject) (triples_view m.indexed.now.triples)
step_limit (Pair m) = step_bound (pair_cost (triples_view m.triples) m.pattern) (triples_view m.triples)
step_limit (Predicate m) =
    step_bound (predicate_cost (triples_view m.indexed.now.triples) m.predicate) (triples_view m.indexed.now.triples)
step_limit (PredicateObject m) = step_bound (object_cost m.object) (triples_view m.indexed.now.triples)
step_limit (Object m) = step_bound (object_cost m.object) (triples_view m.indexed.now.triples)

unfoldable pub shorter_list_step_limit : Matches → ℕ
shorter_list_step_limit (PredicateObject m) =
    pair_search_cost (triples_view m.indexed.now.triples) * (1 + length
    (positions_of (triples_view m.indexed.now.triples).array_y m.predicate))
shorter_list_step_limit (SubjectObject m) =
    min (step_bound (subject_cost (triples_view m.indexed.now.triples) m.subject) (triples_view m.indexed.now.triples))
    (lookup_cost (triples_view m.indexed.now.triples) + 4 * list_search_cost
    (triples_view m.indexed.now.triples) m.object * (1 + match_count m.pattern (triples_view m.indexed.now.triples)))
shorter_list_step_limit m = step_limit m

unfoldable pub steps_taken : Matches → ℕ
steps_taken Empty = 0
steps_taken (Scan m) = m.steps
steps_taken (Subject m) = m.steps
steps_taken (SubjectObject m) = m.steps
steps_taken (Pair m) = m.steps
steps_taken (Predicate m) = m.steps
steps_taken (PredicateObject m) = m.steps
steps_taken (Object m) = m.steps
