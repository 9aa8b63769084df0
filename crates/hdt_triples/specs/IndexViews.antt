-- Views of triples with indexes, and the size of the indexes.
use Rattle.std.specs.Prelude.{ℕ, ◌+◌, length}
use Rattle.hdt_seq.specs.Directory.{groups}
use Rattle.hdt_triples.specs.TripleSequences.{BitmapTriples}
use Rattle.hdt_triples.specs.declared.pattern.Counts.{Counts}
use Rattle.hdt_triples.specs.declared.triples.Triples.{Triples}
use Rattle.hdt_triples.specs.declared.indexed.IndexedTriples.{IndexedTriples}
use Rattle.hdt_triples.specs.declared.listed_triples.ListedTriples.{ListedTriples}

-- The triples without the rank/select indexes.
abbrev pub triples_indexed : IndexedTriples → Triples
triples_indexed t = t.triples

-- The triples without any index.
abbrev pub triples_listed : ListedTriples → Triples
triples_listed t = triples_indexed t.indexed

-- The number of strings of each role, which the triples were checked against.
abbrev pub string_counts : Triples → Counts
string_counts t = t.counts

-- The rank/select indexes hold, for each bitmap, a count for each group and the total.
abbrev pub directories_held : BitmapTriples → ℕ
directories_held f = groups f.bitmap_y + 1 + (groups f.bitmap_z + 1)

-- The inverted indexes hold each pair, each triple, and the bounds of each list.
abbrev pub lists_held : Counts → BitmapTriples → ℕ
lists_held counts f = length f.array_y + counts.predicates + length f.array_z + counts.objects + 2
