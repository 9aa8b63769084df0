-- The sequences of triples with one more triple.
use Rattle.std.proofs.Common.{◌≡◌, ◌∙◌, ℕ, suc, ◌-◌, ◌<◌, ◌&&◌, Bool, true, false, not, List, [], ◌∷◌, ◌++◌}
use Rattle.std.proofs.Common.{map, length}
use Rattle.std.proofs.Common.{append_assoc, append-nil, nat_eq, set, cond, refl, ap, sym, subst, arith}
use Rattle.std.specs.List.{dedup, dedup_from}
use Rattle.std.proofs.lemmas.Bool.{eqb-true}
use Rattle.std.proofs.lemmas.List.{length-map, map-append}
use Rattle.hdt_triples.specs.Groups.{group_end_bits, group_end_bits_from}
use Rattle.hdt_triples.specs.TripleSequences.{Triple, BitmapTriples}
use Rattle.hdt_triples.specs.Writing.{pair_eq, all_pairs, distinct_pairs, sequences_of}
use Rattle.hdt_build.specs.declared.triple_sequences.TripleSequences.{TripleSequences}
use Rattle.hdt_build.specs.Inside.Sequences.{AreSequencesOf, HavePushed, last_or, sequences_in, with_bit}

-- ---- the last element

last_pushed : {X : Type 0} (k x : X) (xs : List X) → last_or k (xs ++ x ∷ []) ≡ x
last_pushed k x [] = refl
last_pushed k x (y ∷ ys) = last_pushed y x ys

last_mapped : {X Y : Type 0} (f : X → Y) (k : X) (xs : List X) → last_or (f k) (map f xs) ≡ f (last_or k xs)
last_mapped f k [] = refl
last_mapped f k (x ∷ xs) = last_mapped f x xs

-- ---- bits of groups

length_bits : {X : Type 0} (same : X → X → Bool) (k : X) (xs : List X)
    → length (group_end_bits_from same k xs) ≡ suc (length xs)
length_bits same k [] = refl
length_bits same k (x ∷ xs) = ap suc (length_bits same x xs)

set_true : {X : Type 0} (same : X → X → Bool) (k : X) (xs : List X)
    → set (group_end_bits_from same k xs) (length xs) true ≡ group_end_bits_from same k xs
set_true same k [] = refl
set_true same k (x ∷ xs) = ap (λ (bs : List Bool). not (same x k) ∷ bs) (set_true same x xs)

bits_more : {X : Type 0} (same : X → X → Bool) (k x : X) (xs : List X)
    → group_end_bits_from same k (xs ++ x ∷ [])
    ≡ set (group_end_bits_from same k xs) (length xs) (not (same x (last_or k xs))) ++ true ∷ []
bits_more same k x [] = refl
bits_more same k x (y ∷ ys) = ap (λ (bs : List Bool). not (same y k) ∷ bs) (bits_more same y x ys)

bits_by : {X : Type 0} (same : X → X → Bool) (k x : X) (xs : List X) (b : Bool) → b ≡ same x (last_or k xs)
    → with_bit b (group_end_bits_from same k xs) ≡ group_end_bits_from same k (xs ++ x ∷ [])
bits_by same k x xs true is =
    let at : length (group_end_bits_from same k xs) - 1 ≡ length xs = omega (arith, length_bits same k xs) in
    ap (λ (n : ℕ). set (group_end_bits_from same k xs) n false ++ true ∷ []) at
    ∙ ap (λ (v : Bool). set (group_end_bits_from same k xs) (length xs) (not v) ++ true ∷ []) is
    ∙ sym (bits_more same k x xs)
bits_by same k x xs false is =
    ap (λ (bs : List Bool). bs ++ true ∷ []) (sym (set_true same k xs))
    ∙ ap (λ (v : Bool). set (group_end_bits_from same k xs) (length xs) (not v) ++ true ∷ []) is
    ∙ sym (bits_more same k x xs)

-- the bits of one more element
bits_pushed : {X : Type 0} (same : X → X → Bool) (k x : X) (xs : List X) (b : Bool) → 0 < length xs
    → b ≡ same x (last_or k xs) → with_bit b (group_end_bits same xs) ≡ group_end_bits same (xs ++ x ∷ [])
bits_pushed same k x [] b some is = absurd (omega arith)
bits_pushed same k x (y ∷ ys) b some is = bits_by same y x ys b is

-- ---- elements without their repetitions

module _ {X : Type 0} (same : X → X → Bool) (equal : (x y : X) → same x y ≡ true → x ≡ y) where
  apart : (k : X) (b : Bool) (xs ys : List X) → k ∷ cond b xs ys ≡ cond b (k ∷ xs) (k ∷ ys)
  apart k true xs ys = refl
  apart k false xs ys = refl

  distinct_by : (k y x : X) (ys : List X) (b : Bool) → same y k ≡ b
      → dedup_from same k (ys ++ x ∷ [])
      ≡ cond (same x (last_or k ys)) (dedup_from same k ys) (dedup_from same k ys ++ x ∷ [])
      → dedup_from same y (ys ++ x ∷ [])
      ≡ cond (same x (last_or y ys)) (dedup_from same y ys) (dedup_from same y ys ++ x ∷ [])
      → cond b (dedup_from same k (ys ++ x ∷ [])) (k ∷ dedup_from same y (ys ++ x ∷ []))
      ≡ cond (same x (last_or y ys)) (cond b (dedup_from same k ys) (k ∷ dedup_from same y ys))
      (cond b (dedup_from same k ys) (k ∷ dedup_from same y ys) ++ x ∷ [])
  distinct_by k y x ys true is one two =
      one ∙ ap (λ (z : X). cond (same x (last_or z ys)) (dedup_from same k ys) (dedup_from same k ys ++ x ∷ []))
      (sym (equal y k is))
  distinct_by k y x ys false is one two =
      ap (λ (zs : List X). k ∷ zs) two ∙ apart k (same x (last_or y ys)) (dedup_from same y ys)
      (dedup_from same y ys ++ x ∷ [])

  distinct_more : (k x : X) (xs : List X) → dedup_from same k (xs ++ x ∷ [])
      ≡ cond (same x (last_or k xs)) (dedup_from same k xs) (dedup_from same k xs ++ x ∷ [])
  distinct_more k x [] = refl
  distinct_more k x (y ∷ ys) =
      distinct_by k y x ys (same y k) refl (distinct_more k x ys) (distinct_more y x ys)

  -- the distinct elements of one more
  distinct_pushed : (k x : X) (xs : List X) (b : Bool) → 0 < length xs → b ≡ same x (last_or k xs)
      → dedup same (xs ++ x ∷ []) ≡ cond b (dedup same xs) (dedup same xs ++ x ∷ [])
  distinct_pushed k x [] b some is = absurd (omega arith)
  distinct_pushed k x (y ∷ ys) b some is =
      distinct_more y x ys ∙ ap (λ (v : Bool). cond v (dedup_from same y ys) (dedup_from same y ys ++ x ∷ []))
      (sym is)

  last_by : (d k y : X) (ys : List X) (b : Bool) → same y k ≡ b
      → last_or d (dedup_from same k ys) ≡ last_or k ys → last_or k (dedup_from same y ys) ≡ last_or y ys
      → last_or d (cond b (dedup_from same k ys) (k ∷ dedup_from same y ys)) ≡ last_or y ys
  last_by d k y ys true is one two = one ∙ ap (λ (z : X). last_or z ys) (sym (equal y k is))
  last_by d k y ys false is one two = two

  last_from : (d k : X) (xs : List X) → last_or d (dedup_from same k xs) ≡ last_or k xs
  last_from d k [] = refl
  last_from d k (y ∷ ys) = last_by d k y ys (same y k) refl (last_from d k ys) (last_from k y ys)

  -- the last of the distinct elements is the last of all
  last_distinct : (k : X) (xs : List X) → last_or k (dedup same xs) ≡ last_or k xs
  last_distinct k [] = refl
  last_distinct k (x ∷ xs) = last_from k x xs

  some_by : (k y : X) (ys : List X) (b : Bool) → 0 < length (dedup_from same k ys)
      → 0 < length (cond b (dedup_from same k ys) (k ∷ dedup_from same y ys))
  some_by k y ys true one = one
  some_by k y ys false one = omega arith

  some_from : (k : X) (xs : List X) → 0 < length (dedup_from same k xs)
  some_from k [] = omega arith
  some_from k (y ∷ ys) = some_by k y ys (same y k) (some_from k ys)

  -- there are such elements if there is one
  some_distinct : (xs : List X) → 0 < length xs → 0 < length (dedup same xs)
  some_distinct [] some = absurd (omega arith)
  some_distinct (x ∷ xs) some = some_from x xs

-- ---- pairs

both_equal : (a b c d : ℕ) → a ≡ b → c ≡ d → let l : ℕ × ℕ = (a, c) in let r : ℕ × ℕ = (b, d) in l ≡ r
both_equal a b c d p q = cc

both_true : (b c : Bool) → (b && c) ≡ true → (b ≡ true) × (c ≡ true)
both_true true c is = (refl, is)
both_true false c is = absurd cc

pair_equal : (x y : ℕ × ℕ) → pair_eq x y ≡ true → x ≡ y
pair_equal x y is =
    let r = both_true (nat_eq x.0 y.0) (nat_eq x.1 y.1) is in
    both_equal x.0 y.0 x.1 y.1 (eqb-true x.0 y.0 r.0) (eqb-true x.1 y.1 r.1)

abbrev pair_of : Triple → ℕ × ℕ
pair_of t = (t.0, t.1)

abbrev first : ℕ × ℕ → ℕ
first p = p.0

abbrev second : ℕ × ℕ → ℕ
second p = p.1

-- ---- one more triple

module _ (ts : List Triple) (t : Triple) (before after : TripleSequences) (pushed : AreSequencesOf ts before)
    (object : after.array_z ≡ before.array_z ++ t.2 ∷ []) (last : after.last ≡ (t.0, t.1)) where
  pairs_more : all_pairs (ts ++ t ∷ []) ≡ all_pairs ts ++ (t.0, t.1) ∷ []
  pairs_more = map-append pair_of ts (t ∷ [])

  objects_are : after.array_z ≡ map (λ t. t.2) (ts ++ t ∷ [])
  objects_are = object ∙ ap (λ (os : List ℕ). os ++ t.2 ∷ []) pushed.array_z
      ∙ sym (map-append (λ (u : Triple). u.2) ts (t ∷ []))

  last_is : after.last ≡ last_or (0, 0) (all_pairs (ts ++ t ∷ []))
  last_is = last ∙ sym (ap (last_or (0, 0)) pairs_more ∙ last_pushed (0, 0) (t.0, t.1) (all_pairs ts))

  module _ (some : 0 < length ts) where
    some_pairs : 0 < length (all_pairs ts)
    some_pairs = omega (arith, some, length-map ts pair_of)

    module _ (b : Bool) (is : b ≡ pair_eq (t.0, t.1) before.last)
        (bits : after.bitmap_z.items ≡ with_bit b before.bitmap_z.items) where
      same_pair : b ≡ pair_eq (t.0, t.1) (last_or (0, 0) (all_pairs ts))
      same_pair = is ∙ ap (pair_eq (t.0, t.1)) pushed.last

      z_bits : after.bitmap_z.items ≡ group_end_bits pair_eq (all_pairs (ts ++ t ∷ []))
      z_bits = bits ∙ ap (with_bit b) pushed.bitmap_z
          ∙ bits_pushed pair_eq (0, 0) (t.0, t.1) (all_pairs ts) b some_pairs same_pair
          ∙ sym (ap (group_end_bits pair_eq) pairs_more)

      distinct_are : distinct_pairs (ts ++ t ∷ []) ≡ cond b (distinct_pairs ts) (distinct_pairs ts ++ (t.0, t.1) ∷ [])
      distinct_are = ap (dedup pair_eq) pairs_more
          ∙ distinct_pushed pair_eq pair_equal (0, 0) (t.0, t.1) (all_pairs ts) b some_pairs same_pair

    -- a triple of the last pair
    pub same_pushed : true ≡ pair_eq (t.0, t.1) before.last
        → after.bitmap_z.items ≡ with_bit true before.bitmap_z.items
        → after.bitmap_y.items ≡ before.bitmap_y.items → after.array_y ≡ before.array_y
        → AreSequencesOf (ts ++ t ∷ []) after
    same_pushed is bits marks predicates =
        let d = distinct_are true is bits in
        record {
          bitmap_y = marks ∙ pushed.bitmap_y ∙ ap (λ ps. group_end_bits nat_eq (map first ps)) (sym d);
          bitmap_z = z_bits true is bits;
          array_y = predicates ∙ pushed.array_y ∙ ap (map second) (sym d);
          array_z = objects_are;
          last = last_is;
        }

    -- the first triple of a pair
    pub other_pushed : (s : Bool) → false ≡ pair_eq (t.0, t.1) before.last → s ≡ nat_eq t.0 before.last.0
        → after.bitmap_z.items ≡ with_bit false before.bitmap_z.items
        → after.bitmap_y.items ≡ with_bit s before.bitmap_y.items
        → after.array_y ≡ before.array_y ++ t.1 ∷ [] → AreSequencesOf (ts ++ t ∷ []) after
    other_pushed s is same bits marks predicates =
        let d = distinct_are false is bits in
        let ps = distinct_pairs ts in
        let before_it : last_or 0 (map first ps) ≡ before.last.0 =
        last_mapped first (0, 0) ps ∙ ap first (last_distinct pair_eq pair_equal (0, 0) (all_pairs ts)
        ∙ sym pushed.last) in
        let firsts = some_distinct pair_eq pair_equal (all_pairs ts) some_pairs in
        record {
          bitmap_y = marks ∙ ap (with_bit s) pushed.bitmap_y
              ∙ bits_pushed nat_eq 0 t.0 (map first ps) s (omega (arith, firsts, length-map ps first))
              (same ∙ ap (nat_eq t.0) (sym before_it))
              ∙ ap (group_end_bits nat_eq) (sym (map-append first ps ((t.0, t.1) ∷ [])))
              ∙ ap (λ qs. group_end_bits nat_eq (map first qs)) (sym d);
          bitmap_z = z_bits false is bits;
          array_y = predicates ∙ ap (λ qs. qs ++ t.1 ∷ []) pushed.array_y
              ∙ sym (map-append second ps ((t.0, t.1) ∷ [])) ∙ ap (map second) (sym d);
          array_z = objects_are;
          last = last_is;
        }

-- the first triple
pub first_pushed : (t : Triple) (before after : TripleSequences) → AreSequencesOf [] before
    → after.bitmap_z.items ≡ with_bit false before.bitmap_z.items
    → after.bitmap_y.items ≡ with_bit false before.bitmap_y.items
    → after.array_y ≡ before.array_y ++ t.1 ∷ []
    → after.array_z ≡ before.array_z ++ t.2 ∷ [] → after.last ≡ (t.0, t.1) → AreSequencesOf (t ∷ []) after
first_pushed t before after h bits marks predicates objects last = record {
  bitmap_y = marks ∙ ap (with_bit false) h.bitmap_y;
  bitmap_z = bits ∙ ap (with_bit false) h.bitmap_z;
  array_y = predicates ∙ ap (λ ps. ps ++ t.1 ∷ []) h.array_y;
  array_z = objects ∙ ap (λ os. os ++ t.2 ∷ []) h.array_z;
  last = last;
}

-- ---- all triples

one_more : (done rest all : List Triple) (t : Triple) → done ++ (t ∷ rest) ≡ all → (done ++ t ∷ []) ++ rest ≡ all
one_more done rest all t is = append_assoc done (t ∷ []) rest ∙ is

pub have_pushed_more : (all : List Triple) (before after : TripleSequences) (t : Triple) (rest : List Triple)
    → ((ts : List Triple) → AreSequencesOf ts before → AreSequencesOf (ts ++ t ∷ []) after)
    → HavePushed all before (t ∷ rest) → HavePushed all after rest
have_pushed_more all before after t rest more h = record {
  done = h.done ++ t ∷ [];
  pushed = more h.done h.pushed;
  all_are = one_more h.done rest all t h.all_are;
}

pub have_pushed_all : (all : List Triple) (made : TripleSequences) (rest : List Triple) → rest ≡ []
    → HavePushed all made rest → AreSequencesOf all made
have_pushed_all all made rest none h =
    subst (λ (ts : List Triple). AreSequencesOf ts made) (sym (append-nil h.done)
    ∙ ap (λ (us : List Triple). h.done ++ us) (sym none) ∙ h.all_are) h.pushed

sequences_by : (a c : List Bool) (b d : List ℕ) (e : BitmapTriples) → a ≡ e.bitmap_y → c ≡ e.bitmap_z
    → b ≡ e.array_y → d ≡ e.array_z
    → (let made : BitmapTriples = record { bitmap_y = a; bitmap_z = c; array_y = b; array_z = d } in made) ≡ e
sequences_by a c b d e p q r s = λ i. record { bitmap_y = p i; bitmap_z = q i; array_y = r i; array_z = s i }

pub sequences_are : (ts : List Triple) (made : TripleSequences) → AreSequencesOf ts made
    → sequences_in made ≡ sequences_of ts
unfolding sequences_of
sequences_are ts made h = sequences_by _ _ _ _ (sequences_of ts) h.bitmap_y h.bitmap_z h.array_y h.array_z

some_bits : {X : Type 0} (same : X → X → Bool) (xs : List X) → 0 < length xs → 0 < length (group_end_bits same xs)
some_bits same [] some = absurd (omega arith)
some_bits same (x ∷ xs) some = omega (arith, length_bits same x xs)

pub many : (ts : List Triple) (made : TripleSequences) → AreSequencesOf ts made → length ts ≡ length made.array_z
many ts made h = sym (ap (λ (os : List ℕ). length os) h.array_z ∙ length-map ts (λ (t : Triple). t.2))

pub some_z : (ts : List Triple) (made : TripleSequences) → AreSequencesOf ts made → 0 < length ts
    → 0 < length made.bitmap_z.items
some_z ts made h some =
    subst (λ (bs : List Bool). 0 < length bs) (sym h.bitmap_z)
    (some_bits pair_eq (all_pairs ts) (omega (arith, some, length-map ts pair_of)))

pub some_y : (ts : List Triple) (made : TripleSequences) → AreSequencesOf ts made → 0 < length ts
    → 0 < length made.bitmap_y.items
some_y ts made h some =
    let firsts = some_distinct pair_eq pair_equal (all_pairs ts) (omega (arith, some, length-map ts pair_of)) in
    subst (λ (bs : List Bool). 0 < length bs) (sym h.bitmap_y)
    (some_bits nat_eq (map first (distinct_pairs ts)) (omega (arith, firsts, length-map (distinct_pairs ts) first)))

-- ---- what `push` does

some_before : (u : Triple) (us : List Triple) (before : TripleSequences) → AreSequencesOf (u ∷ us) before
    → 0 < length before.array_z
some_before u us before h = omega (arith, ap (λ (os : List ℕ). length os) h.array_z)

none_before : (before : TripleSequences) → AreSequencesOf [] before → length before.array_z ≡ 0
none_before before h = ap (λ (os : List ℕ). length os) h.array_z

pub pushed_same : (ts : List Triple) (t : Triple) (before after : TripleSequences) (b : Bool) → b ≡ true
    → (length before.array_z ≡ 0 → b ≡ false)
    → (0 < length before.array_z → b ≡ pair_eq (t.0, t.1) before.last)
    → after.array_z ≡ before.array_z ++ t.2 ∷ [] → after.last ≡ (t.0, t.1)
    → after.bitmap_z.items ≡ with_bit b before.bitmap_z.items
    → after.bitmap_y.items ≡ before.bitmap_y.items → after.array_y ≡ before.array_y
    → AreSequencesOf ts before → AreSequencesOf (ts ++ t ∷ []) after
pushed_same ts t before after false is none some objects last bits marks predicates h = absurd cc
pushed_same [] t before after true is none some objects last bits marks predicates h =
    let e = none (none_before before h) in absurd cc
pushed_same (u ∷ us) t before after true is none some objects last bits marks predicates h =
    same_pushed (u ∷ us) t before after h objects last (omega arith) (some (some_before u us before h)) bits marks
    predicates

first_by : (t : Triple) (before after : TripleSequences) (s : Bool) → s ≡ false → AreSequencesOf [] before
    → after.bitmap_z.items ≡ with_bit false before.bitmap_z.items
    → after.bitmap_y.items ≡ with_bit s before.bitmap_y.items
    → after.array_y ≡ before.array_y ++ t.1 ∷ []
    → after.array_z ≡ before.array_z ++ t.2 ∷ [] → after.last ≡ (t.0, t.1) → AreSequencesOf (t ∷ []) after
first_by t before after true is h bits marks predicates objects last = absurd cc
first_by t before after false is h bits marks predicates objects last =
    first_pushed t before after h bits marks predicates objects last

pub pushed_other : (ts : List Triple) (t : Triple) (before after : TripleSequences) (b s : Bool) → b ≡ false
    → (0 < length before.array_z → b ≡ pair_eq (t.0, t.1) before.last)
    → (length before.array_z ≡ 0 → s ≡ false)
    → (0 < length before.array_z → s ≡ nat_eq t.0 before.last.0)
    → after.array_z ≡ before.array_z ++ t.2 ∷ [] → after.last ≡ (t.0, t.1)
    → after.bitmap_z.items ≡ with_bit b before.bitmap_z.items
    → after.bitmap_y.items ≡ with_bit s before.bitmap_y.items
    → after.array_y ≡ before.array_y ++ t.1 ∷ []
    → AreSequencesOf ts before → AreSequencesOf (ts ++ t ∷ []) after
pushed_other ts t before after true s is some none same objects last bits marks predicates h = absurd cc
pushed_other [] t before after false s is some none same objects last bits marks predicates h =
    first_by t before after s (none (none_before before h)) h bits marks predicates objects last
pushed_other (u ∷ us) t before after false s is some none same objects last bits marks predicates h =
    let there = some_before u us before h in
    other_pushed (u ∷ us) t before after h objects last (omega arith) s (some there) (same there) bits marks predicates
