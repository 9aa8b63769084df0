-- Merging the ascending lists divides them into the sections.
use Rattle.std.proofs.Common.{◌≡◌, ℕ, List, Bool, not}
use Rattle.std.specs.List.{Contains, filter}
use Rattle.std.proofs.lemmas.List.Kept.{IsStrictlySortedBy-filter}
use Rattle.hdt_dict.specs.Strings.{has, SameMembers}
use Rattle.hdt_front.specs.Order.{string_cmp, IsAscending}
use Rattle.hdt_dict.specs.Laws.Members.{Contains-from_filter, Contains-filter}
use Rattle.hdt_dict.specs.Laws.Strings.{has-Contains, Contains-has}
use Rattle.hdt_dict.specs.Laws.Merge.{lacks, lacks-back}
use Rattle.hdt_dict.specs.Split.{IsSplit}
use Rattle.hdt_dict.specs.Dictionary.{SectionLists}

-- a filter of an ascending list ascends
pub filter_ascends : (p : List ℕ → Bool) (xs r : List (List ℕ)) → r ≡ filter p xs → IsAscending xs → IsAscending r
filter_ascends p xs r is up = rw is (IsStrictlySortedBy-filter string_cmp _ _ up)

module _ (ss os s o : List (List ℕ)) (same_s : SameMembers s ss) (same_o : SameMembers o os) (sh : List (List ℕ))
    (is : sh ≡ filter (has o) s) where
  -- the strings of s that are in o
  shared_of : (x : List ℕ) → (Contains sh x → Contains ss x × Contains os x)
      × (Contains ss x × Contains os x → Contains sh x)
  shared_of x = rw is (
    λ h. let g = Contains-from_filter (has o) s x h in ((same_s x).0 g.0, (same_o x).0 (has-Contains o x g.1)),
    λ h. Contains-filter (has o) s x ((same_s x).1 h.0) (Contains-has o x ((same_o x).1 h.1)),
  )

-- the strings of s that are not in o
rest_of : (ss os s o r : List (List ℕ)) → SameMembers s ss → SameMembers o os → r ≡ filter (λ x. not (has o x)) s
    → (x : List ℕ) → (Contains r x → Contains ss x × ¬ Contains os x) × (Contains ss x × ¬ Contains os x → Contains r x)
rest_of ss os s o r same_s same_o is x = rw is (
  λ h. let g = Contains-from_filter (λ y. not (has o y)) s x h in
      ((same_s x).0 g.0, λ there. lacks-back o x g.1 ((same_o x).1 there)),
  λ h. Contains-filter (λ y. not (has o y)) s x ((same_s x).1 h.0) (lacks o x (λ there. h.1 ((same_o x).0 there))),
)

pub are_split : (ss ps os s p o : List (List ℕ)) (d : SectionLists)
    → SameMembers s ss → SameMembers p ps → SameMembers o os → IsAscending s → IsAscending p → IsAscending o
    → d.shared ≡ filter (has o) s → d.subjects ≡ filter (λ x. not (has o x)) s
    → d.objects ≡ filter (λ x. not (has s x)) o → d.predicates ≡ p
    → IsSplit ss ps os d
are_split ss ps os s p o d same_s same_p same_o up_s up_p up_o sh su ob pr = record {
  shared_ascend = filter_ascends _ s d.shared sh up_s;
  subjects_ascend = filter_ascends _ s d.subjects su up_s;
  predicates_ascend = rw pr up_p;
  objects_ascend = filter_ascends _ o d.objects ob up_o;
  shared = shared_of ss os s o same_s same_o d.shared sh;
  subjects = rest_of ss os s o d.subjects same_s same_o su;
  predicates = rw pr same_p;
  objects = rest_of os ss o s d.objects same_o same_s ob;
}
