use Rattle.hdt_triples.specs.Views.{triples_view}
use Rattle.hdt_triples.proofs.InvertedIndexLaws.{keys_of, parts_of_lists}
use Rattle.hdt_triples.proofs.listed_triples.ListedTriples.positions_of.Goals as goal

pub list_of_key-requires : goal.list_of_key-requires
list_of_key-requires c =
    let t = c.args.self.now in
    rw (
      c.deref.ensures.value,
      c.deref-2.ensures.value,
    ) (parts_of_lists
    (triples_view t.indexed.triples).array_z t.indexed.triples.counts.objects t.triple_starts.items t.places.items
    t.by_object)

pub returns-clause-is : goal.returns-clause-is
unfolding triples_view
returns-clause-is c =
    let t = c.args.self.now in
    c.list_of_key.ensures.is (triples_view t.indexed.triples).array_z t.indexed.triples.counts.objects
    (rw (c.deref.ensures.value, c.deref-2.ensures.value) t.by_object)
    (keys_of (triples_view t.indexed.triples).bitmap_z
    (triples_view t.indexed.triples).array_z t.indexed.triples.counts.objects t.indexed.triples.valid.objects)
