-- The matches of the pattern of given strings denote exactly the triples that have these strings.
use Rattle.std.proofs.Common.{◌≡◌, ◌∙◌, ◌⊎◌, inl, inr, ℕ, zero, suc, ◌+◌, ◌-◌, ◌<◌, ◌==◌, ◌&&◌, ◌++◌, Bool, true, false}
use Rattle.std.proofs.Common.{cond, List, [], ◌∷◌, length, map, Option, Some, None, slice_get, get_or, refl, sym, ap}
use Rattle.std.proofs.Common.{subst, arith}
use Rattle.std.specs.Option.{unwrap_or}
use Rattle.std.specs.List.{Contains, filter}
use Rattle.std.specs.Str.{bytes_eq}
use Rattle.std.specs.Ordering.{nat_cmp}
use Rattle.std.specs.Cmp.Lexicographic.{slice_cmp}
use Rattle.std.specs.declared.cmp.Ordering.TheVariants.{Less, Equal}
use Rattle.std.proofs.lemmas.Bool.{and_parts, cases_lt, eqb-true, false_from_ne_true}
use Rattle.std.proofs.lemmas.Bool.Decides.{Decides-eqb}
use Rattle.std.proofs.lemmas.Cmp.{nat_list_cmp_total, tied_itself}
use Rattle.std.proofs.lemmas.Option.{same_Some, slice_get_within, slice_get-get_or, get_or_from_slice_get}
use Rattle.std.proofs.lemmas.Slice.Eq.{bytes_eq-Decides}
use Rattle.std.proofs.lemmas.Map.Keys.{Less-from_sorted}
use Rattle.hdt_front.specs.Order.{string_cmp}
use Rattle.hdt_wire.specs.declared.Role.{Role}
use Rattle.hdt_wire.specs.declared.Role.TheVariants.{Subject, Predicate, Object}
use Rattle.hdt_front.specs.Section.{AreSectionStrings}
use Rattle.hdt_dict.specs.Dictionary.{AreDisjoint, role_strings}
use Rattle.hdt_dict.specs.Ids.{string_at_id}
use Rattle.hdt_dict.specs.Strings.{BorrowedString}
use Rattle.hdt_triples.specs.TripleSequences.{Triple}
use Rattle.hdt_triples.specs.Order.{TripleLess, AreAscending, IsValidId, IsInRange}
use Rattle.hdt_triples.specs.Patterns.{admits, agrees, matches}
use Rattle.hdt_triples.specs.declared.pattern.Pattern.{Pattern}
use Rattle.hdt_file.specs.Denoted.{StringTriple, string_of, denoted_triple, denoted}
use Rattle.hdt_file.specs.File.{GraphParts, role_counts}
use Rattle.hdt_file.specs.Graph.{IsGraph}
use Rattle.hdt_file.specs.Search.{IsPatternPart, IsPattern, string_given}
use Rattle.hdt_file.specs.StringTriples.{AreDistinctTriples, admits_string, has_given_strings}

-- ---- lists without duplicates

abbrev AllDistinct : {X : Type 0} → List X → Type 0
AllDistinct {X} xs = (i j : ℕ) (x : X) → slice_get xs i ≡ Some x → slice_get xs j ≡ Some x → i ≡ j

module _ {X : Type 0} (Below : X → X → Type 0) (joined : (a b c : X) → Below a b → Below b c
    → Below a c) (never : (a : X) → Below a a → ⊥) where
  later : (xs : List X) (d : X) → ((i : ℕ) → i + 1 < length xs → Below (get_or xs i d) (get_or xs (i + 1) d))
      → (i k : ℕ) → i + suc k < length xs → Below (get_or xs i d) (get_or xs (i + suc k) d)
  later xs d next i zero h =
      let one : i + 1 ≡ i + suc zero = omega arith in
      subst (λ (m : ℕ). Below (get_or xs i d) (get_or xs m d)) one (next i (omega (arith, h)))
  later xs d next i (suc k) h =
      let up : i + suc k + 1 ≡ i + suc (suc k) = omega arith in
      joined (get_or xs i d) (get_or xs (i + suc k) d) (get_or xs (i + suc (suc k)) d)
      (later xs d next i k (omega (arith, h)))
      (subst (λ (m : ℕ). Below (get_or xs (i + suc k) d) (get_or xs m d)) up (next (i + suc k) (omega (arith, h))))

  not_before : (xs : List X) (d : X) → ((i : ℕ) → i + 1 < length xs → Below (get_or xs i d) (get_or xs (i + 1) d))
      → (i j : ℕ) (x : X) → slice_get xs i ≡ Some x → slice_get xs j ≡ Some x → i < j → ⊥
  not_before xs d next i j x hi hj lt =
      let same : i + suc (j - i - 1) ≡ j = omega (arith, lt) in
      let below = later xs d next i (j - i - 1) (omega (arith, lt, slice_get_within xs j x hj)) in
      let there = subst (λ (m : ℕ). Below (get_or xs i d) (get_or xs m d)) same below in
      never x (subst (λ (y : X). Below y x) (get_or_from_slice_get xs i x d hi)
      (subst (λ (y : X). Below (get_or xs i d) y) (get_or_from_slice_get xs j x d hj) there))

  ascending_once : (xs : List X) (d : X) → ((i : ℕ) → i + 1 < length xs → Below (get_or xs i d) (get_or xs (i + 1) d))
      → AllDistinct xs
  ascending_once xs d next i j x hi hj = elim (cases_lt i j) [
    | inl lt ↦ absurd (not_before xs d next i j x hi hj lt)
    | inr ge ↦ elim (cases_lt j i) [
      | inl lt ↦ absurd (not_before xs d next j i x hj hi lt)
      | inr le ↦ omega (arith, ge, le)
    ]
  ]

in_list : (xs : List (List ℕ)) (x : List ℕ) (i : ℕ) → slice_get xs i ≡ Some x → Contains xs x
in_list xs x i e = (i, slice_get_within xs i x e, get_or_from_slice_get xs i x x e)

-- a member of two concatenated lists is a member of the first or of the second
abbrev IsInSecondList : List (List ℕ) → List (List ℕ) → ℕ → List ℕ → Type 0
IsInSecondList xs ys i x = (k : ℕ) × (i ≡ length xs + k) × (slice_get ys k ≡ Some x)

in_two : (xs ys : List (List ℕ)) (i : ℕ) (x : List ℕ) → slice_get (xs ++ ys) i ≡ Some x → (slice_get xs i ≡ Some x)
    ⊎ IsInSecondList xs ys i x
in_two [] ys i x h = inr (i, omega arith, h)
in_two (y ∷ xs) ys zero x h = inl h
in_two (y ∷ xs) ys (suc i) x h = elim (in_two xs ys i x h) [
  | inl e ↦ inl e
  | inr b ↦ inr (b.0, omega (arith, b.1), b.2)
]

once-append : (xs ys : List (List ℕ)) → AllDistinct xs → AllDistinct ys → AreDisjoint xs ys → AllDistinct (xs ++ ys)
once-append xs ys ox oy apart i j x hi hj = elim (in_two xs ys i x hi) [
  | inl a ↦ elim (in_two xs ys j x hj) [
    | inl b ↦ ox i j x a b
    | inr b ↦ absurd (apart x (in_list xs x i a) (in_list ys x b.0 b.2))
  ]
  | inr a ↦ elim (in_two xs ys j x hj) [
    | inl b ↦ absurd (apart x (in_list xs x j b) (in_list ys x a.0 a.2))
    | inr b ↦ omega (arith, a.1, b.1, oy a.0 b.0 x a.2 b.2)
  ]
]

-- ---- strings of a role

abbrev IsStringLess : List ℕ → List ℕ → Type 0
IsStringLess x y = slice_cmp nat_cmp x y ≡ Less

not_under : (x : List ℕ) → IsStringLess x x → ⊥
not_under x h = let e : slice_cmp nat_cmp x x ≡ Equal = tied_itself nat_list_cmp_total x in absurd (cc)

section_strings_distinct : (xs : List (List ℕ)) → AreSectionStrings xs → AllDistinct xs
section_strings_distinct xs are =
    ascending_once IsStringLess nat_list_cmp_total.trans not_under xs []
    (λ i lt. Less-from_sorted string_cmp xs i (i + 1) [] are.ascend (omega arith) lt)

pub role_strings_distinct : (g : GraphParts) → IsGraph g → (role : Role) → AllDistinct (role_strings g.dictionary role)
role_strings_distinct g is Subject =
    once-append g.dictionary.shared g.dictionary.subjects (section_strings_distinct g.dictionary.shared is.shared)
    (section_strings_distinct g.dictionary.subjects is.subjects) is.shared_subjects
role_strings_distinct g is Predicate = section_strings_distinct g.dictionary.predicates is.predicates
role_strings_distinct g is Object =
    once-append g.dictionary.shared g.dictionary.objects (section_strings_distinct g.dictionary.shared is.shared)
    (section_strings_distinct g.dictionary.objects is.objects) is.shared_objects

ids_distinct : (xs : List (List ℕ)) → AllDistinct xs → (m n : ℕ) (x : List ℕ) → string_at_id xs m ≡ Some x
    → string_at_id xs n ≡ Some x → m ≡ n
ids_distinct xs once zero n x h k = absurd (cc)
ids_distinct xs once (suc m) zero x h k = absurd (cc)
ids_distinct xs once (suc m) (suc n) x h k = ap suc (once m n x h k)

-- each ID, from 1 to the number of strings, has a string
has_string : (xs : List (List ℕ)) (n : ℕ) → IsValidId n (length xs)
    → string_at_id xs n ≡ Some (unwrap_or (string_at_id xs n) [])
has_string xs zero within = absurd (omega (arith, within.0))
has_string xs (suc i) within =
    let e = slice_get-get_or xs i [] (omega (arith, within.1)) in
    e ∙ ap (λ (o : Option (List ℕ)). Some (unwrap_or o [])) (sym e)

-- ---- one role of a pattern

both_ways : (a b : Bool) → (a ≡ true → b ≡ true) → (b ≡ true → a ≡ true) → a ≡ b
both_ways true b to from = sym (to refl)
both_ways false true to from = from refl
both_ways false false to from = refl

part_agrees : (xs : List (List ℕ)) → AllDistinct xs → (given : Option BorrowedString) (n : Option ℕ) (k : ℕ)
    → IsPatternPart xs given n → IsValidId k (length xs)
    → admits n k ≡ admits_string given (unwrap_or (string_at_id xs k) [])
part_agrees xs once None None k is within = refl
part_agrees xs once None (Some n) k is within = absurd is
part_agrees xs once (Some x) None k is within = absurd is
part_agrees xs once (Some x) (Some n) k is within =
    let y = unwrap_or (string_at_id xs k) [] in
    let there : string_at_id xs k ≡ Some y = has_string xs k within in
    both_ways (n == k) (bytes_eq x.now y)
    (λ h. (bytes_eq-Decides x.now y).1 (same_Some x.now y (sym is ∙ ap (string_at_id xs) (eqb-true n k h) ∙ there)))
    (λ h. (Decides-eqb n k).1 (ids_distinct xs once n k y (is ∙ ap Some ((bytes_eq-Decides x.now y).0 h)) there))

-- the ID of a given string
abbrev number_for : Option BorrowedString → ℕ → Option ℕ
number_for None n = None
number_for (Some x) n = Some n

is_part : (xs : List (List ℕ)) (given : Option BorrowedString) (n : ℕ) → IsValidId n (length xs)
    → admits_string given (unwrap_or (string_at_id xs n) []) ≡ true → IsPatternPart xs given (number_for given n)
is_part xs None n within h = tt
is_part xs (Some x) n within h = has_string xs n within
    ∙ ap Some (sym ((bytes_eq-Decides x.now (unwrap_or (string_at_id xs n) [])).0 h))

-- ---- a triple

triple_agrees : (g : GraphParts) → IsGraph g → (given : List (Option BorrowedString)) (p : Pattern)
    → IsPattern g given p → (t : Triple) → IsInRange (role_counts g.dictionary) t
    → agrees p t ≡ has_given_strings given (denoted_triple g t)
triple_agrees g is given p wants t range =
    let s = part_agrees (role_strings g.dictionary Subject) (role_strings_distinct g is Subject)
    (string_given given 0) p.s t.0 wants.subject range.0 in
    let q = part_agrees (role_strings g.dictionary Predicate) (role_strings_distinct g is Predicate)
    (string_given given 1) p.p t.1 wants.predicate range.1 in
    let o = part_agrees (role_strings g.dictionary Object) (role_strings_distinct g is Object)
    (string_given given 2) p.o t.2 wants.object range.2 in
    rw (s, q, o) refl

in_range : (g : GraphParts) → IsGraph g → (t : Triple) (i : ℕ) → slice_get g.triples i ≡ Some t
    → IsInRange (role_counts g.dictionary) t
in_range g is t i h = subst (IsInRange (role_counts g.dictionary)) (get_or_from_slice_get g.triples i t (0, 0, 0) h)
    (is.range i (slice_get_within g.triples i t h))

-- ---- all triples

module _ {X Y : Type 0} (f : X → Y) (p : X → Bool) (q : Y → Bool) where
  filter_by : (x : X) (a b : Bool) → a ≡ b → (xs : List X) (ys : List Y) → map f xs ≡ ys
      → map f (cond a (x ∷ xs) xs) ≡ cond b (f x ∷ ys) ys
  filter_by x true true e xs ys h = ap (λ l. f x ∷ l) h
  filter_by x true false e xs ys h = absurd (cc)
  filter_by x false true e xs ys h = absurd (cc)
  filter_by x false false e xs ys h = h

  map-filter : (xs : List X) → ((x : X) (i : ℕ) → slice_get xs i ≡ Some x → p x ≡ q (f x))
      → map f (filter p xs) ≡ filter q (map f xs)
  map-filter [] h = refl
  map-filter (x ∷ xs) h = filter_by x (p x) (q (f x)) (h x 0 refl) (filter p xs) (filter q (map f xs))
      (map-filter xs (λ y i e. h y (suc i) e))

  filter_no : (y : Y) (b : Bool) → b ≡ false → (ys : List Y) → ys ≡ [] → cond b (y ∷ ys) ys ≡ []
  filter_no y true e ys h = absurd (cc)
  filter_no y false e ys h = h

  filter_none : (xs : List X) → ((x : X) (i : ℕ) → slice_get xs i ≡ Some x → q (f x) ≡ false) → filter q (map f xs) ≡ []
  filter_none [] h = refl
  filter_none (x ∷ xs) h = filter_no (f x) (q (f x)) (h x 0 refl) (filter q (map f xs))
      (filter_none xs (λ y i e. h y (suc i) e))

pub matches_denoted : (g : GraphParts) (given : List (Option BorrowedString)) (p : Pattern) → IsGraph g
    → IsPattern g given p → denoted g (matches p g.triples) ≡ filter (has_given_strings given) (denoted g g.triples)
unfolding matches
matches_denoted g given p is wants =
    map-filter (denoted_triple g) (agrees p) (has_given_strings given) g.triples
    (λ t i h. triple_agrees g is given p wants t (in_range g is t i h))

pattern_for : List (Option BorrowedString) → Triple → Pattern
pattern_for given t = record {
  s = number_for (string_given given 0) t.0;
  p = number_for (string_given given 1) t.1;
  o =
      number_for (string_given given 2) t.2;
}

is_pattern : (g : GraphParts) (given : List (Option BorrowedString)) (t : Triple)
    → IsInRange (role_counts g.dictionary) t → has_given_strings given (denoted_triple g t) ≡ true
    → IsPattern g given (pattern_for given t)
unfolding pattern_for
is_pattern g given t range h =
    let s = admits_string (string_given given 0) (string_of g Subject t.0) in
    let p = admits_string (string_given given 1) (string_of g Predicate t.1) in
    let o = admits_string (string_given given 2) (string_of g Object t.2) in
    let all = and_parts (s && p) o h in
    let both = and_parts s p all.0 in
    record {
      subject = is_part (role_strings g.dictionary Subject) (string_given given 0) t.0 range.0 both.0;
      predicate = is_part (role_strings g.dictionary Predicate) (string_given given 1) t.1 range.1 both.1;
      object = is_part (role_strings g.dictionary Object) (string_given given 2) t.2 range.2 all.1;
    }

pub none_denoted : (g : GraphParts) (given : List (Option BorrowedString)) → IsGraph g
    → ((p : Pattern) → IsPattern g given p → ⊥) → filter (has_given_strings given) (denoted g g.triples) ≡ []
none_denoted g given is none =
    filter_none (denoted_triple g) (λ _. true) (has_given_strings given) g.triples
    (λ t i h. false_from_ne_true (has_given_strings given (denoted_triple g t))
    (λ has. none (pattern_for given t) (is_pattern g given t (in_range g is t i h) has)))

-- ---- no triple of strings occurs twice

second_joined : (a b c : Triple) → (a.1 < b.1) ⊎ ((a.1 ≡ b.1) × (a.2 < b.2)) → (b.1 < c.1) ⊎ ((b.1 ≡ c.1) × (b.2 < c.2))
    → (a.1 < c.1) ⊎ ((a.1 ≡ c.1) × (a.2 < c.2))
second_joined a b c (inl x) (inl y) = inl (omega (arith, x, y))
second_joined a b c (inl x) (inr y) = inl (omega (arith, x, y.0))
second_joined a b c (inr x) (inl y) = inl (omega (arith, x.0, y))
second_joined a b c (inr x) (inr y) = inr (x.0 ∙ y.0, omega (arith, x.1, y.1))

less_joined : (a b c : Triple) → TripleLess a b → TripleLess b c → TripleLess a c
less_joined a b c (inl x) (inl y) = inl (omega (arith, x, y))
less_joined a b c (inl x) (inr y) = inl (omega (arith, x, y.0))
less_joined a b c (inr x) (inl y) = inl (omega (arith, x.0, y))
less_joined a b c (inr x) (inr y) = inr (x.0 ∙ y.0, second_joined a b c x.1 y.1)

never_less : (a : Triple) → TripleLess a a → ⊥
never_less a (inl x) = omega (arith, x)
never_less a (inr (e, inl x)) = omega (arith, x)
never_less a (inr (e, inr x)) = omega (arith, x.1)

triples_once : (ts : List Triple) → AreAscending ts → AllDistinct ts
triples_once ts ascend = ascending_once TripleLess less_joined never_less ts (0, 0, 0) ascend

same_number : (xs : List (List ℕ)) → AllDistinct xs → (m n : ℕ) → IsValidId m (length xs) → IsValidId n (length xs)
    → unwrap_or (string_at_id xs m) [] ≡ unwrap_or (string_at_id xs n) [] → m ≡ n
same_number xs once m n hm hn same =
    ids_distinct xs once m n (unwrap_or (string_at_id xs m) []) (has_string xs m hm) (has_string xs n hn
    ∙ ap Some (sym same))

triple_is : (t u : Triple) → t.0 ≡ u.0 → t.1 ≡ u.1 → t.2 ≡ u.2 → t ≡ u
triple_is (a, b, c) (d, e, f) s p o = cc

same_triple : (g : GraphParts) → IsGraph g → (t u : Triple) → IsInRange (role_counts g.dictionary) t
    → IsInRange (role_counts g.dictionary) u → denoted_triple g t ≡ denoted_triple g u → t ≡ u
same_triple g is t u ht hu same =
    let s = same_number (role_strings g.dictionary Subject) (role_strings_distinct g is Subject) t.0 u.0 ht.0 hu.0
    (ap (λ (x : StringTriple). x.0) same) in
    let p = same_number (role_strings g.dictionary Predicate) (role_strings_distinct g is Predicate) t.1 u.1 ht.1 hu.1
    (ap (λ (x : StringTriple). x.1) same) in
    let o = same_number (role_strings g.dictionary Object) (role_strings_distinct g is Object) t.2 u.2 ht.2 hu.2
    (ap (λ (x : StringTriple). x.2) same) in
    triple_is t u s p o

-- a denoted triple is that of the triple with the same index
mapped : (g : GraphParts) (ts : List Triple) (i : ℕ) (x : StringTriple) → slice_get (denoted g ts) i ≡ Some x
    → (t : Triple) × (slice_get ts i ≡ Some t) × (denoted_triple g t ≡ x)
mapped g [] i x h = absurd (cc)
mapped g (t ∷ ts) zero x h = (t, refl, same_Some (denoted_triple g t) x h)
mapped g (t ∷ ts) (suc i) x h = mapped g ts i x h

strings_once : (g : GraphParts) → IsGraph g → AllDistinct (denoted g g.triples)
strings_once g is i j x hi hj =
    let a = mapped g g.triples i x hi in
    let b = mapped g g.triples j x hj in
    let same = same_triple g is a.0 b.0 (in_range g is a.0 i a.1) (in_range g is b.0 j b.1) (a.2 ∙ sym b.2) in
    triples_once g.triples is.ascend i j a.0 a.1 (b.1 ∙ ap Some (sym same))

pub denoted_triples_are_distinct : (g : GraphParts) → IsGraph g → AreDistinctTriples (denoted g g.triples)
denoted_triples_are_distinct g is i j x lt below same =
    let ts = denoted g g.triples in
    let here = slice_get-get_or ts i x (omega (arith, lt, below)) in
    let there = slice_get-get_or ts j x below in
    omega (arith, lt, strings_once g is i j (get_or ts i x) here (there ∙ ap Some (sym same)))
