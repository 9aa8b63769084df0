-- Triples as indices into a list of strings, and the string triples that they stand for.
use Rattle.std.proofs.Common.{◌≡◌, ◌∙◌, ℕ, ◌+◌, ◌<◌, List, [], ◌∷◌, ◌++◌, map, length, get_or, take, refl, ap, sym}
use Rattle.std.proofs.Common.{append_assoc, arith}
use Rattle.std.specs.List.{All}
use Rattle.std.specs.Prelude.{slice_index}
use Rattle.std.proofs.lemmas.List.{get_or_default, same_lists, length-map, get_or-map, map-append, map_push}
use Rattle.std.proofs.lemmas.List.{take-append-le, take_all, take_more}
use Rattle.std.proofs.lemmas.List.Elements.{All-append, All-head, All-map, All-nil, All-push, All-tail, All-weaker}
use Rattle.std.proofs.lemmas.Simd.{map-map}
use Rattle.hdt_triples.specs.TripleSequences.{Triple}
use Rattle.hdt_file.specs.Denoted.{StringTriple}
use Rattle.hdt_build.specs.Graph.{mapped_triple, string_triple_at, string_triples_of}
use Rattle.hdt_build.specs.Inside.Collecting.{AreBelow}
use Rattle.hdt_build.specs.Inside.SortedEntries.{ExtendsList, AreIndicesOf}
use Rattle.hdt_build.proofs.StringsOfIds.{same_strings}

-- two functions that are equal on a list have the same map
map_same : {X Y : Type 0} (f g : X → Y) (xs : List X) → All (λ x. f x ≡ g x) xs → map f xs ≡ map g xs
map_same f g [] h = refl
map_same f g (x ∷ xs) h =
    let e = All-head (λ x. f x ≡ g x) x xs h in
    let r = map_same f g xs (All-tail (λ x. f x ≡ g x) x xs h) in
    λ i. e i ∷ r i

-- two functions whose composition equals a third one on a list
pub map_along : {X Y Z : Type 0} (f : Y → Z) (g : X → Y) (h : X → Z) (xs : List X) → All (λ x. f (g x) ≡ h x) xs
    → map f (map g xs) ≡ map h xs
map_along f g h xs all = map-map f g xs ∙ map_same (λ x. f (g x)) h xs all

-- if there are no string triples, there are no index triples
pub no_ids : (xs : List (List ℕ)) (ids : List Triple) (rest : List StringTriple) → string_triples_of xs ids ++ rest ≡ []
    → ids ≡ []
no_ids xs [] rest e = refl
no_ids xs (t ∷ ids) rest e = absurd cc

-- ---- a list to which strings are appended

pub goes_on : (xs ys zs : List (List ℕ)) → ExtendsList xs ys → ExtendsList ys zs → ExtendsList xs zs
goes_on xs ys zs a b = record {
  longer = omega (arith, a.longer, b.longer);
  kept =
      λ k lt. b.kept k (omega (arith, lt, a.longer)) ∙ a.kept k lt;
}

-- triples appended to others, whose strings are unchanged
module _ (xs ys : List (List ℕ)) (g : ExtendsList xs ys) (ids : List Triple) (h : AreBelow (length xs) ids) where
  kept : string_triples_of ys ids ≡ string_triples_of xs ids
  kept = map_same (string_triple_at ys) (string_triple_at xs) ids
      (λ n d below. same_strings _ _ _ _ _ _ (g.kept _ (h.subjects n d below)) (g.kept _ (h.predicates n d below))
      (g.kept _ (h.objects n d below)))

  pub joined_is : (more : List Triple)
      → string_triples_of ys (ids ++ more) ≡ string_triples_of xs ids ++ string_triples_of ys more
  joined_is more = map-append (string_triple_at ys) ids more ∙ ap (λ ts. ts ++ string_triples_of ys more) kept

  pub joined_within : (more : List Triple) → AreBelow (length ys) more → AreBelow (length ys) (ids ++ more)
  joined_within more m = record {
    subjects = both (λ t. t.0) h.subjects m.subjects;
    predicates = both (λ t. t.1) h.predicates m.predicates;
    objects = both (λ t. t.2) h.objects m.objects;
  }
    where
      both : (f : Triple → ℕ) → All (λ t. f t < length xs) ids → All (λ t. f t < length ys) more
          → All (λ t. f t < length ys) (ids ++ more)
      both f old new = All-append (λ (t : Triple). f t
          < length ys) ids more (All-weaker (λ (t : Triple). f t < length xs) (λ (t : Triple). f t
          < length ys) (λ t below. omega (arith, below, g.longer)) ids old) new

  -- one more triple
  module _ (t : Triple) where
    pub sound_more : t.0 < length ys → t.1 < length ys → t.2 < length ys → AreBelow (length ys) (ids ++ t ∷ [])
    sound_more s p o = joined_within (t
        ∷ []) (record { subjects = one (λ t. t.0) s; predicates = one (λ t. t.1) p; objects = one (λ t. t.2) o })
      where
        one : (f : Triple → ℕ) → f t < length ys → All (λ t. f t < length ys) (t ∷ [])
        one f below = All-push (λ (t : Triple). f t < length ys) [] t (All-nil (λ (t : Triple). f t < length ys)) below

    pub graph_more : (s p o : List ℕ) → get_or ys t.0 [] ≡ s → get_or ys t.1 [] ≡ p → get_or ys t.2 [] ≡ o
        → string_triples_of ys (ids ++ t ∷ []) ≡ string_triples_of xs ids ++ (s, p, o) ∷ []
    graph_more s p o a b c =
        let new : string_triple_at ys t ≡ (s, p, o) = same_strings _ _ _ _ _ _ a b c in
        joined_is (t ∷ []) ∙ ap (λ (x : StringTriple). string_triples_of xs ids ++ x ∷ []) new

-- ---- mapped indices

-- one more element is mapped and appended
pub mapped_more : {X Y : Type 0} (f : X → Y) (d : X) (ts : List X) (i : ℕ) (old out : List Y) → i < length ts
    → out ≡ old ++ map f (take i ts) → out ++ f (get_or ts i d) ∷ [] ≡ old ++ map f (take (i + 1) ts)
mapped_more {X} {Y} f d ts i old out lt h =
    let t : X = get_or ts i d in
    let more : map f (take (i + 1) ts) ≡ map f (take i ts) ++ f t ∷ [] =
    ap (map f) (take_more ts i d lt) ∙ map_push f (take i ts) t in
    ap (λ (l : List Y). l ++ f t ∷ []) h
    ∙ (append_assoc old (map f (take i ts)) (f t ∷ []) ∙ ap (λ (l : List Y). old ++ l) (sym more))

-- a vector after all of its triples were mapped in place
pub all_replaced : (sn pn on : List ℕ) (len : ℕ) (old new rest : List Triple) → len ≡ length old
    → length new ≡ length old
    → ((k : ℕ) → k < length old → get_or new k (0, 0, 0) ≡ mapped_triple sn pn on (get_or old k (0, 0, 0)))
    → take len (new ++ rest) ≡ map (mapped_triple sn pn on) old
all_replaced sn pn on len old new rest is long each =
    take-append-le len new rest (omega arith) ∙ take_all len new (omega arith)
    ∙ same_lists new (map (mapped_triple sn pn on) old) (omega (arith, length-map old (mapped_triple sn pn on)))
    (λ k d below.
    let in' : k < length old = omega arith in
    get_or_default new k d (0, 0, 0) below ∙ each k in'
    ∙ sym (get_or-map (mapped_triple sn pn on) old k (0, 0, 0) d in'))

-- indices mapped to those of equal strings
module _ (xs ys : List (List ℕ)) (ns : List ℕ) (r : AreIndicesOf xs ys ns) (ids : List Triple)
    (h : AreBelow (length xs) ids) where
  pub moved_is : string_triples_of ys (map (mapped_triple ns ns ns) ids) ≡ string_triples_of xs ids
  moved_is = map_along (string_triple_at ys) (mapped_triple ns ns ns) (string_triple_at xs) ids
      (λ k d lt. same_strings _ _ _ _ _ _ (r.is _ (h.subjects k d lt)) (r.is _ (h.predicates k d lt))
      (r.is _ (h.objects k d lt)))

  pub moved_within : AreBelow (length ys) (map (mapped_triple ns ns ns) ids)
  moved_within = record {
    subjects = All-map (λ (t : Triple). t.0 < length ys) (mapped_triple ns ns ns) ids
        (λ k t lt. r.within _ (h.subjects k t lt));
    predicates = All-map (λ (t : Triple). t.1 < length ys) (mapped_triple ns ns ns) ids
        (λ k t lt. r.within _ (h.predicates k t lt));
    objects = All-map (λ (t : Triple). t.2 < length ys) (mapped_triple ns ns ns) ids
        (λ k t lt. r.within _ (h.objects k t lt));
  }

-- indices mapped to ranks, and these to IDs
module _ (ranks nodes names : List ℕ) (ids : List Triple) (h : AreBelow (length ranks) ids) where
  along : (list : List ℕ) (k : ℕ) → k < length ranks
      → get_or list (get_or ranks k 0) 0 ≡ get_or (map (λ (n : ℕ). get_or list n 0) ranks) k 0
  along list k lt = sym (get_or-map (λ (n : ℕ). get_or list n 0) ranks k 0 0 lt)

  pub mapped_twice : map (mapped_triple nodes names nodes) (map (mapped_triple ranks ranks ranks) ids)
      ≡ map (mapped_triple (map (slice_index nodes) ranks) (map (slice_index names) ranks)
      (map (slice_index nodes) ranks)) ids
  mapped_twice = map_along (mapped_triple nodes names nodes) (mapped_triple ranks ranks ranks)
      (mapped_triple (map (slice_index nodes) ranks) (map (slice_index names) ranks)
      (map (slice_index nodes) ranks)) ids
      (λ k d lt.
      let a = along nodes _ (h.subjects k d lt) in
      let b = along names _ (h.predicates k d lt) in
      let c = along nodes _ (h.objects k d lt) in
      λ i. (a i, b i, c i))
