use Rattle.hdt_triples.specs.Views.{triples_view}
use Rattle.hdt_triples.proofs.InvertedIndexLaws.{keys_of, parts_of_lists}
use Rattle.hdt_triples.proofs.listed_triples.ListedTriples.pairs_of.Goals as goal

pub list_of_key-requires : goal.list_of_key-requires
list_of_key-requires c =
    let t = c.args.self.now in
    rw (
      c.deref.ensures.value,
      c.deref-2.ensures.value,
    ) (parts_of_lists
    (triples_view t.indexed.triples).array_y t.indexed.triples.counts.predicates t.pair_starts.items t.pairs.items
    t.by_predicate)

pub returns-clause-is : goal.returns-clause-is
unfolding triples_view
returns-clause-is c =
    let t = c.args.self.now in
    c.list_of_key.ensures.is (triples_view t.indexed.triples).array_y t.indexed.triples.counts.predicates
    (rw (c.deref.ensures.value, c.deref-2.ensures.value) t.by_predicate)
    (keys_of (triples_view t.indexed.triples).bitmap_y
    (triples_view t.indexed.triples).array_y t.indexed.triples.counts.predicates t.indexed.triples.valid.predicates)
