-- Which IDs occur in triples, by the sequences that encode them.
use Rattle.std.proofs.Common.{◌≡◌, ◌∙◌, ℕ, zero, suc, ◌+◌, ◌-◌, ◌<◌, ◌≤◌, Bool, true, false, not, eqb, leb, List, []}
use Rattle.std.proofs.Common.{◌∷◌, length, slice_index, slice_index_or, ap, sym, subst, arith}
use Rattle.std.proofs.lemmas.Bool.{leb-true, le-leb, ne_eqb}
use Rattle.std.proofs.lemmas.Bool.Decides.{same_from_decides}
use Rattle.std.proofs.lemmas.List.{get_or-map, length-map}
use Rattle.hdt_wire.specs.declared.Role.{Role}
use Rattle.hdt_wire.specs.declared.Role.TheVariants.{Subject, Predicate, Object}
use Rattle.hdt_seq.specs.RankSelect.{ones_before}
use Rattle.hdt_seq.specs.Laws.RankSelect.{ones_before_at_0, some_select, ones_through_select, less_by_ones}
use Rattle.hdt_seq.specs.Laws.RankSelect.{ones_before_le}
use Rattle.hdt_triples.specs.TripleSequences.{Triple, BitmapTriples, AreConsistentSequences, pair_of, subject_at}
use Rattle.hdt_triples.specs.TripleSequences.{triple_at, triples_of}
use Rattle.hdt_triples.specs.Laws.TripleSequences.{length-triples, triple_is}
use Rattle.hdt_triples.specs.Laws.Order.{pair_within}
use Rattle.hdt_triples.specs.InvertedIndex.{positions_of}
use Rattle.hdt_triples.specs.Uses.{AreUseFlags, role_component, Uses, uses}
use Rattle.hdt_triples.specs.Laws.Uses.{uses_decides}
use Rattle.hdt_triples.proofs.InvertedIndexLaws.{first_position, no_position, positions_from_start}
use Rattle.hdt_triples.proofs.SubjectLaws.{subject_above}

-- For each number of 1-bits below the total, some index has that many before it.
some_at : (bits : List Bool) (k : ℕ) → k < ones_before bits (length bits) → (j : ℕ) × (j < length bits)
    × (ones_before bits j ≡ k)
some_at bits zero h = (zero, omega (arith, h, ones_before_le bits (length bits)), ones_before_at_0 bits)
some_at bits (suc k) h =
    let position = some_select bits (suc k) (omega arith) (omega (arith, h)) in
    let through = ones_through_select bits (suc k) position.0 position.2 in
    (position.0 + 1, less_by_ones bits (position.0 + 1) (length bits) (omega (arith, through, h)), through)

-- Each pair has a triple.
pub pair_used : (f : BitmapTriples) (q : ℕ) → AreConsistentSequences f → q < length f.array_y
    → (j : ℕ) × (j < length f.array_z) × (pair_of f j ≡ q)
pair_used f q marked lt =
    let some = some_at f.bitmap_z q (omega (arith, lt, marked.each_pair)) in
    (some.0, omega (arith, some.1, marked.triples), some.2)

pub used_at : (f : BitmapTriples) (role : Role) (j : ℕ) → j < length f.array_z
    → Uses (triples_of f) role (role_component role (triple_at f j))
used_at f role j lt =
    let long = length-triples f in
    let n = role_component role (triple_at f j) in (
      j,
      omega (arith, lt, long, length-map (triples_of f) (role_component role)),
      get_or-map (role_component role) (triples_of f) j (0, 0, 0) n (omega (arith, lt, long))
          ∙ ap (role_component role) (triple_is f j lt),
    )

pub used_by : (f : BitmapTriples) (role : Role) (n : ℕ) → Uses (triples_of f) role n → (j : ℕ) × (j < length f.array_z)
    × (role_component role (triple_at f j) ≡ n)
used_by f role n h =
    let lt : h.0 < length f.array_z =
    omega (arith, h.1, length-triples f, length-map (triples_of f) (role_component role)) in (
      h.0,
      lt,
      sym (ap (role_component role) (triple_is f h.0 lt))
          ∙ (sym (get_or-map (role_component role) (triples_of f) h.0 (0, 0, 0) n (omega (arith, lt, length-triples f)))
          ∙ h.2),
    )

-- ---- subjects: an ID occurs if it is from 1 to the number of subjects

subject_used : (f : BitmapTriples) (s : ℕ) → AreConsistentSequences f → 1 ≤ s
    → s ≤ ones_before f.bitmap_y (length f.bitmap_y) → Uses (triples_of f) Subject s
subject_used f s marked from to =
    let q = some_at f.bitmap_y (s - 1) (omega (arith, from, to)) in
    let j = pair_used f q.0 marked (omega (arith, q.1, marked.pairs)) in
    let is : subject_at f (pair_of f j.0) ≡ s = omega (arith, ap (ones_before f.bitmap_y) j.2, q.2, from) in
    subst (λ (n : ℕ). Uses (triples_of f) Subject n) is (used_at f Subject j.0 j.1)

pub subject_is : (f : BitmapTriples) (s : ℕ) → AreConsistentSequences f → 1 ≤ s
    → leb s (ones_before f.bitmap_y (length f.bitmap_y)) ≡ uses (triples_of f) Subject s
subject_is f s marked from =
    same_from_decides (leb s (ones_before f.bitmap_y (length f.bitmap_y))) (uses (triples_of f) Subject s) (
      λ h. subject_used f s marked from (leb-true _ _ h),
      λ h. let j = used_by f Subject s h in
          le-leb _ _ (omega (arith, j.2, subject_above f j.0 marked j.1)),
    )
    (uses_decides (triples_of f) Subject s)

pub no_subject : (f : BitmapTriples) (s : ℕ) → s < 1 → leb 1 s ≡ uses (triples_of f) Subject s
no_subject f s none =
    same_from_decides (leb 1 s) (uses (triples_of f) Subject s) (
      λ h. absurd (omega (arith, none, leb-true 1 s h)),
      λ h. let j = used_by f Subject s h in
          absurd (omega (arith, none, j.2)),
    )
    (uses_decides (triples_of f) Subject s)

-- ---- predicates and objects: an ID occurs if its list is not empty

some_of : (xs : List ℕ) (k : ℕ) (qs : List ℕ) → qs ≡ positions_of xs k → not (eqb (length qs) 0) ≡ true
    → (q : ℕ) × (q < length xs) × (slice_index xs q ≡ k)
some_of xs k [] is some = absurd (cc)
some_of xs k (q ∷ qs) is some = let first = first_position xs k 0 q qs (is ∙ positions_from_start xs k) in
    (q, first.within, first.key)

one_of : (xs : List ℕ) (k : ℕ) (qs : List ℕ) → qs ≡ positions_of xs k → (q : ℕ) → q < length xs → slice_index xs q ≡ k
    → not (eqb (length qs) 0) ≡ true
one_of xs k [] is q lt key = absurd (no_position xs k 0 (is ∙ positions_from_start xs k) q (omega arith) lt key)
one_of xs k (p ∷ qs) is q lt key =
    ap not (ne_eqb (length (p ∷ qs)) 0 (λ (e : length (p ∷ qs) ≡ 0). absurd (omega (arith, e))))

pub predicate_is : (f : BitmapTriples) (p : ℕ) (qs : List ℕ) → AreConsistentSequences f → qs ≡ positions_of f.array_y p
    → not (eqb (length qs) 0) ≡ uses (triples_of f) Predicate p
predicate_is f p qs marked is =
    same_from_decides (not (eqb (length qs) 0)) (uses (triples_of f) Predicate p) (
      λ h.
          let q = some_of f.array_y p qs is h in
          let j = pair_used f q.0 marked q.1 in
          subst (λ (n : ℕ). Uses (triples_of f) Predicate n) (ap (slice_index f.array_y) j.2
          ∙ q.2) (used_at f Predicate j.0 j.1),
      λ h. let j = used_by f Predicate p h in
          one_of f.array_y p qs is (pair_of f j.0) (pair_within f marked j.0 j.1) j.2,
    )
    (uses_decides (triples_of f) Predicate p)

pub object_is : (f : BitmapTriples) (o : ℕ) (qs : List ℕ) → qs ≡ positions_of f.array_z o
    → not (eqb (length qs) 0) ≡ uses (triples_of f) Object o
object_is f o qs is =
    same_from_decides (not (eqb (length qs) 0)) (uses (triples_of f) Object o) (
      λ h. let j = some_of f.array_z o qs is h in
          subst (λ (n : ℕ). Uses (triples_of f) Object n) j.2 (used_at f Object j.0 j.1),
      λ h. let j = used_by f Object o h in one_of f.array_z o qs is j.0 j.1 j.2,
    )
    (uses_decides (triples_of f) Object o)

-- ---- flags of the IDs in use

module _ (ts : List Triple) (role : Role) where
  abbrev id_at : ℕ → ℕ
  id_at m = role_component role (slice_index_or ts m (0, 0, 0))

  -- the flags are true exactly for the IDs of the first i triples
  pub record AreUseFlagsBefore (i : ℕ) (flags : List Bool) : Type 0 where
    pub sound : (n : ℕ) → slice_index_or flags n false ≡ true → (m : ℕ) × (m < i) × (id_at m ≡ n)
    pub complete : (m : ℕ) → m < i → id_at m < length flags → slice_index_or flags (id_at m) false ≡ true

  pub use_flags_at_end : (i : ℕ) (flags : List Bool) → i ≤ length ts → length ts ≤ i → AreUseFlagsBefore i flags
      → AreUseFlags ts role flags
  use_flags_at_end i flags within end h n lt = (
    λ yes. let r = h.sound n yes in (
      r.0,
      omega (arith, r.1, within, length-map ts (role_component role)),
      get_or-map (role_component role) ts r.0 (0, 0, 0) n (omega (arith, r.1, within)) ∙ r.2,
    ),
    λ used. let inside : used.0 < length ts = omega (arith, used.1, length-map ts (role_component role)) in
        let at : id_at used.0 ≡ n = sym (get_or-map (role_component role) ts used.0 (0, 0, 0) n inside) ∙ used.2 in
        subst (λ (k : ℕ). slice_index_or flags k false
        ≡ true) at (h.complete used.0 (omega (arith, inside, end)) (omega (arith, at, lt))),
  )
