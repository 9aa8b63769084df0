-- The union of graphs.
use Rattle.std.proofs.Common.{◌≡◌, ◌∙◌, ℕ, ◌+◌, ◌<◌, List, [], ◌∷◌, ◌++◌, length, map, get_or, take, ap, sym, subst}
use Rattle.std.proofs.Common.{inl, inr}
use Rattle.std.specs.List.{All, Contains, flat_map}
use Rattle.std.proofs.lemmas.List.{flat_map_more, map-append, map_push, take_more}
use Rattle.std.proofs.lemmas.List.Elements.{All-append, Contains-append_cases, Contains-append_left}
use Rattle.std.proofs.lemmas.List.Elements.{Contains-append_right}
use Rattle.hdt_dict.specs.Laws.Members.{Contains-cons_cases, Contains-here, Contains-later, Contains-map, Contains-nil}
use Rattle.hdt_dict.specs.Strings.{IsDictionaryString, SameMembers}
use Rattle.hdt_file.specs.Denoted.{StringTriple}
use Rattle.hdt_file.specs.File.{GraphParts}
use Rattle.hdt_build.specs.Layouts.{denoted_by, union_of}
use Rattle.hdt_build.specs.Reading.{HasDictionaryStrings}

-- one more graph
pub union_more : {X : Type 0} (view : X → GraphParts) (xs : List X) (i : ℕ) (x : X) (old : List StringTriple)
    → i < length xs → x ≡ get_or xs i x → old ≡ union_of (map view (take i xs))
    → old ++ denoted_by (view x) ≡ union_of (map view (take (i + 1) xs))
union_more view xs i x old lt at is =
    let more : map view (take (i + 1) xs) ≡ map view (take i xs) ++ view x ∷ [] =
    ap (map view) (take_more xs i x lt)
    ∙ (map_push view (take i xs) (get_or xs i x)
    ∙ ap (λ y. map view (take i xs) ++ view y ∷ []) (sym at)) in
    ap (λ (ts : List StringTriple). ts ++ denoted_by (view x)) is
    ∙ (flat_map_more denoted_by [] (map view (take i xs)) (view x) ∙ ap union_of (sym more))

-- the strings of two lists of triples
pub joined_texts : (g h : List StringTriple) → HasDictionaryStrings g → HasDictionaryStrings h
    → HasDictionaryStrings (g ++ h)
joined_texts g h a b = record {
  subjects_are = both (λ t. t.0) a.subjects_are b.subjects_are;
  predicates_are = both (λ t. t.1) a.predicates_are b.predicates_are;
  objects_are = both (λ t. t.2) a.objects_are b.objects_are;
}
  where
    both : (f : StringTriple → List ℕ) → All IsDictionaryString (map f g) → All IsDictionaryString (map f h)
        → All IsDictionaryString (map f (g ++ h))
    both f old new = subst (All IsDictionaryString) (sym (map-append f g h))
        (All-append IsDictionaryString (map f g) (map f h) old new)

-- ---- members

module _ {X A : Type 0} where
  -- a member of a union is one of some list
  contains_some : (f : X → List A) (xs : List X) (a : A) → Contains (flat_map f xs) a
      → (x : X) × Contains xs x × Contains (f x) a
  contains_some f [] a h = absurd (Contains-nil a h)
  contains_some f (x ∷ xs) a h =
      elim (Contains-append_cases (f x) (flat_map f xs) a h) as
      (λ _. (y : X) × Contains (x ∷ xs) y × Contains (f y) a) [
        | inl here ↦ (x, Contains-here x xs, here)
        | inr later ↦ let some = contains_some f xs a later in (some.0, Contains-later x some.0 xs some.1, some.2)
      ]

  -- and a member of each list is one of the union
  contains_each : (f : X → List A) (xs : List X) (a : A) (x : X) → Contains xs x → Contains (f x) a
      → Contains (flat_map f xs) a
  contains_each f [] a x at h = absurd (Contains-nil x at)
  contains_each f (y ∷ ys) a x at h =
      elim (Contains-cons_cases y x ys at) as (λ _. Contains (flat_map f (y ∷ ys)) a) [
        | inl same ↦ Contains-append_left (f y) (flat_map f ys) a
            (subst (λ (z : X). Contains (f z) a) (sym same) h)
        | inr later ↦ Contains-append_right (f y) (flat_map f ys) a (contains_each f ys a x later h)
      ]

  -- unions of the same lists, in any order and any number of times
  pub same_union : (f : X → List A) (xs ys : List X) → SameMembers xs ys
      → SameMembers (flat_map f xs) (flat_map f ys)
  same_union f xs ys same a = (
    λ h. let some = contains_some f xs a h in contains_each f ys a some.0 ((same some.0).0 some.1) some.2,
    λ h. let some = contains_some f ys a h in contains_each f xs a some.0 ((same some.0).1 some.1) some.2,
  )

  -- unions of lists that have the same members in turn
  pub same_unions : (f g : X → List A) (xs : List X) → ((x : X) → SameMembers (f x) (g x))
      → SameMembers (flat_map f xs) (flat_map g xs)
  same_unions f g xs same a = (
    λ h. let some = contains_some f xs a h in contains_each g xs a some.0 some.1 ((same some.0 a).0 some.2),
    λ h. let some = contains_some g xs a h in contains_each f xs a some.0 some.1 ((same some.0 a).1 some.2),
  )

-- images of the same members
module _ {X Y : Type 0} (f : X → Y) where
  image_of : (xs : List X) (y : Y) → Contains (map f xs) y → (x : X) × Contains xs x × (f x ≡ y)
  image_of [] y h = absurd (Contains-nil y h)
  image_of (x ∷ xs) y h =
      elim (Contains-cons_cases (f x) y (map f xs) h) as (λ _. (z : X) × Contains (x ∷ xs) z × (f z ≡ y)) [
        | inl same ↦ (x, Contains-here x xs, same)
        | inr later ↦ let some = image_of xs y later in (some.0, Contains-later x some.0 xs some.1, some.2)
      ]

  image_in : (xs ys : List X) → ((x : X) → Contains xs x → Contains ys x) → (y : Y) → Contains (map f xs) y
      → Contains (map f ys) y
  image_in xs ys more y h =
      let some = image_of xs y h in
      subst (Contains (map f ys)) some.2 (Contains-map f ys some.0 (more some.0 some.1))

  pub same_mapped : (xs ys : List X) → SameMembers xs ys → SameMembers (map f xs) (map f ys)
  same_mapped xs ys same y = (image_in xs ys (λ x. (same x).0) y, image_in ys xs (λ x. (same x).1) y)

module _ {X : Type 0} where
  pub same_if_equal : (xs ys : List X) → xs ≡ ys → SameMembers xs ys
  same_if_equal xs ys is x = (
    subst (λ (zs : List X). Contains zs x) is,
    subst (λ (zs : List X). Contains zs x) (sym is),
  )

  pub same_joined : (xs ys zs : List X) → SameMembers xs ys → SameMembers (xs ++ zs) (ys ++ zs)
  same_joined xs ys zs same x = (
    λ h. elim (Contains-append_cases xs zs x h) as (λ _. Contains (ys ++ zs) x) [
      | inl here ↦ Contains-append_left ys zs x ((same x).0 here)
      | inr later ↦ Contains-append_right ys zs x later
    ],
    λ h. elim (Contains-append_cases ys zs x h) as (λ _. Contains (xs ++ zs) x) [
      | inl here ↦ Contains-append_left xs zs x ((same x).1 here)
      | inr later ↦ Contains-append_right xs zs x later
    ],
  )

  pub same_same : (xs ys zs : List X) → SameMembers xs ys → SameMembers ys zs → SameMembers xs zs
  same_same xs ys zs a b x = (λ h. (b x).0 ((a x).0 h), λ h. (a x).1 ((b x).1 h))
