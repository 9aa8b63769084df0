-- The four sequences of triples that are pushed one after another.
use Rattle.std.specs.Prelude.{◌≡◌, ◌-◌, Bool, true, false, List, [], ◌∷◌, ◌++◌, map, length, set, cond, nat_eq}
use Rattle.hdt_triples.specs.Groups.{group_end_bits}
use Rattle.hdt_triples.specs.TripleSequences.{Triple, BitmapTriples}
use Rattle.hdt_triples.specs.Writing.{pair_eq, all_pairs, distinct_pairs}
use Rattle.hdt_build.specs.declared.triple_sequences.TripleSequences.{TripleSequences}

-- the last element, or k if there is none
abbrev pub last_or : {X : Type 0} → X → List X → X
last_or k [] = k
last_or k (x ∷ xs) = last_or x xs

-- The bits of groups with that of one more element, which ends its group so far. If it is of the group of the element
-- before it, that one no longer does.
abbrev pub with_bit : Bool → List Bool → List Bool
with_bit same bits = cond same (set bits (length bits - 1) false) bits ++ true ∷ []

-- the four sequences
abbrev pub sequences_in : TripleSequences → BitmapTriples
sequences_in made = record {
  bitmap_y = made.bitmap_y.items;
  bitmap_z = made.bitmap_z.items;
  array_y = made.array_y;
  array_z = made.array_z;
}

-- the sequences are those of the triples, and the last pair is that of the last triple
pub record AreSequencesOf (ts : List Triple) (made : TripleSequences) : Type 0 where
  pub bitmap_y : made.bitmap_y.items ≡ group_end_bits nat_eq (map (λ p. p.0) (distinct_pairs ts))
  pub bitmap_z : made.bitmap_z.items ≡ group_end_bits pair_eq (all_pairs ts)
  pub array_y : made.array_y ≡ map (λ p. p.1) (distinct_pairs ts)
  pub array_z : made.array_z ≡ map (λ t. t.2) ts
  pub last : made.last ≡ last_or (0, 0) (all_pairs ts)

-- the sequences have all triples but the remaining ones
pub record HavePushed (all : List Triple) (made : TripleSequences) (rest : List Triple) : Type 0 where
  pub done : List Triple
  pub pushed : AreSequencesOf done made
  pub all_are : done ++ rest ≡ all
