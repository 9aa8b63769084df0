-- The entries of the four sequences of triples, one after another.
use Rattle.std.specs.Prelude.{ℕ, Bool, false, not, cond, nat_eq, List, ◌∷◌, Option, Some, None, map}
use Rattle.hdt_seq.specs.PackedBits.{bit_number}
use Rattle.hdt_triples.specs.TripleSequences.{Triple, BitmapTriples}
use Rattle.hdt_triples.specs.Writing.{pair_eq, sequences_of}
use Rattle.hdt_build.specs.declared.triple_entries.Sequence.{Sequence}
use Rattle.hdt_build.specs.declared.triple_entries.Sequence.TheVariants.{PairEnds, TripleEnds, Predicates, Objects}

-- the entries of a sequence; a bit counts as 0 or 1
abbrev pub entries_in : Sequence → BitmapTriples → List ℕ
entries_in PairEnds f = map bit_number f.bitmap_y
entries_in TripleEnds f = map bit_number f.bitmap_z
entries_in Predicates f = f.array_y
entries_in Objects f = f.array_z

-- the entries of a sequence of triples
unfoldable pub entries_of : Sequence → List Triple → List ℕ
entries_of q ts = entries_in q (sequences_of ts)

-- whether there is a next triple with the same subject
abbrev pub same_subject : Triple → Option Triple → Bool
same_subject t (Some u) = nat_eq u.0 t.0
same_subject t None = false

-- whether there is one with the same subject and the same predicate
abbrev pub same_pair : Triple → Option Triple → Bool
same_pair t (Some u) = pair_eq (u.0, u.1) (t.0, t.1)
same_pair t None = false

-- the entry of a triple, given the next one; a pair has that of its last triple
abbrev pub entry_at : Sequence → Triple → Option Triple → Option ℕ
entry_at PairEnds t next = cond (same_pair t next) None (Some (bit_number (not (same_subject t next))))
entry_at TripleEnds t next = Some (bit_number (not (same_pair t next)))
entry_at Predicates t next = cond (same_pair t next) None (Some t.1)
entry_at Objects t next = Some t.2

-- an entry, if there is one, before others
abbrev pub with_entry : Option ℕ → List ℕ → List ℕ
with_entry (Some n) ns = n ∷ ns
with_entry None ns = ns
