-- The encoding of batches.
use Rattle.std.proofs.Common.{◌≡◌, ◌∙◌, ℕ, zero, suc, ◌+◌, ◌-◌, ◌<◌, List, [], ◌∷◌, ◌++◌, map, length, get_or, drop}
use Rattle.std.proofs.Common.{take}
use Rattle.std.specs.Prelude.{IfSome}
use Rattle.std.proofs.Common.{Option, Some, None, inl, inr, refl, ap, sym, subst, append_assoc, append-nil, arith}
use Rattle.std.proofs.Common.{length-append}
use Rattle.std.specs.List.{All, Contains}
use Rattle.std.proofs.Math.Seq.{take-append_seam}
use Rattle.std.proofs.lemmas.Bool.{cases_lt}
use Rattle.std.proofs.lemmas.List.{get_or-append-add, get_or_append_left, get_or_push, length_push, map-append}
use Rattle.std.proofs.lemmas.List.Elements.{All-contains, Contains-append_cases, Contains-append_left}
use Rattle.std.proofs.lemmas.List.Elements.{Contains-append_right}
use Rattle.std.proofs.lemmas.Simd.{map-map}
use Rattle.hdt_wire.specs.declared.Role.{Role}
use Rattle.hdt_wire.specs.declared.Role.TheVariants.{Subject, Predicate, Object}
use Rattle.hdt_dict.specs.Dictionary.{SectionLists, role_strings}
use Rattle.hdt_dict.specs.Laws.Members.{Contains-from_map, Contains-nil, Contains-map, SameMembers-trans}
use Rattle.hdt_dict.specs.Strings.{SameMembers}
use Rattle.hdt_file.specs.Denoted.{StringTriple}
use Rattle.hdt_triples.specs.Order.{AreAscending}
use Rattle.hdt_triples.specs.TripleSequences.{Triple}
use Rattle.hdt_dict.specs.Split.{IsSplit}
use Rattle.hdt_build.specs.Graph.{IsEncodedGraph, mapped_triple, string_triple_at, string_triples_of, subjects_of}
use Rattle.hdt_build.specs.Graph.{predicates_of, objects_of}
use Rattle.hdt_build.specs.Inside.Batches.{AreBatches, AreIdLists, batch_triples, grouped, joined_mapped, plain}
use Rattle.hdt_build.specs.Inside.Batches.{record_triple, strings_in_role}
use Rattle.hdt_build.specs.Inside.Collecting.{AreBelow}
use Rattle.hdt_build.specs.Inside.Groups.{AreRoleStrings}
use Rattle.hdt_build.specs.Inside.RecordMerging.{AreMergedRecords}
use Rattle.hdt_build.specs.Inside.Records.{AreRecordRuns, IsRecord, record_of, record_with}
use Rattle.hdt_build.specs.Inside.Groups.{lists_of_states, SectionStates}
use Rattle.hdt_build.specs.Inside.Rewriting.{IsIdOf}
use Rattle.hdt_build.specs.Inside.TripleRuns.{joined_runs}
use Rattle.hdt_build.proofs.Denoting.{AreIdsOf, encoded_form}
use Rattle.hdt_build.proofs.RecordIds.{record_count, record_id}
use Rattle.hdt_build.proofs.TripleRuns.{same_both, same_lists, same_self}

-- ---- runs of mapped triples

drop_suc : {X : Type 0} (xs : List X) (i : ℕ) (x : X) → i < length xs → get_or xs i x ≡ x
    → drop i xs ≡ x ∷ drop (suc i) xs
drop_suc [] i x lt is = absurd (omega (arith, lt))
drop_suc (y ∷ ys) zero x lt is = ap (λ z. z ∷ ys) is
drop_suc (y ∷ ys) (suc i) x lt is = drop_suc ys i x (omega (arith, lt)) is

drop_one : {X : Type 0} (xs : List X) (i : ℕ) (x : X) → i < length xs → get_or xs i x ≡ x
    → drop i xs ≡ x ∷ drop (i + 1) xs
drop_one xs i x lt is =
    let e : suc i ≡ i + 1 = omega arith in
    drop_suc xs i x lt is ∙ ap (λ (n : ℕ). x ∷ drop n xs) e

pub runs_more : (made more tss : List (List Triple)) (at : ℕ) (ts : List Triple) (ns : List ℕ) (n : ℕ)
    (lists later : List (List ℕ)) (ids : List ℕ) (all : List Triple) → at < length tss → get_or tss at ts ≡ ts
    → at < length ns → get_or ns at n ≡ n → ids ≡ joined_runs (take n lists) → later ≡ drop n lists
    → SameMembers (joined_runs more) (joined_runs made ++ map (mapped_triple ids ids ids) ts)
    → SameMembers (joined_runs made ++ joined_mapped (drop at tss) (grouped (drop at ns) lists)) all
    → SameMembers (joined_runs more ++ joined_mapped (drop (at + 1) tss) (grouped (drop (at + 1) ns) later)) all
unfolding joined_mapped grouped
runs_more made more tss at ts ns n lists later ids all lt is below count own past same before =
    let mapped = map (mapped_triple ids ids ids) ts in
    let rest = grouped (drop (at + 1) ns) later in
    let after = joined_mapped (drop (at + 1) tss) rest in
    let groups : grouped (drop at ns) lists ≡ ids ∷ rest =
    ap (λ (l : List ℕ). grouped l lists) (drop_one ns at n below count)
    ∙ (λ i. sym own i ∷ grouped (drop (at + 1) ns) (sym past i)) in
    let here : joined_mapped (drop at tss) (grouped (drop at ns) lists) ≡ mapped ++ after =
    (λ i. joined_mapped (drop_one tss at ts lt is i) (groups i)) in
    SameMembers-trans (joined_runs more ++ after) ((joined_runs made ++ mapped) ++ after) all
    (same_both (joined_runs more) after (joined_runs made ++ mapped) after same (same_self after))
    (SameMembers-trans ((joined_runs made ++ mapped) ++ after)
    (joined_runs made ++ joined_mapped (drop at tss) (grouped (drop at ns) lists)) all
    (same_lists _ _ (append_assoc (joined_runs made) mapped after
    ∙ ap (λ (l : List Triple). joined_runs made ++ l) (sym here)))
    before)

none_mapped : (tss : List (List Triple)) (lists : List (List ℕ)) → joined_mapped tss (grouped [] lists) ≡ []
unfolding joined_mapped grouped
none_mapped [] lists = refl
none_mapped (ts ∷ tss) lists = refl

pub runs_done : (made tss : List (List Triple)) (ns : List ℕ) (lists : List (List ℕ)) (all : List Triple) → ns ≡ []
    → SameMembers (joined_runs made ++ joined_mapped tss (grouped ns lists)) all → SameMembers (joined_runs made) all
runs_done made tss ns lists all e h =
    subst (λ (l : List Triple). SameMembers l all)
    (ap (λ (l : List ℕ). joined_runs made ++ joined_mapped tss (grouped l lists)) e
    ∙ (ap (λ (l : List Triple). joined_runs made ++ l) (none_mapped tss lists) ∙ append-nil (joined_runs made))) h

-- ---- the string triples and the ID triples of batches

abbrev Pair : Type 0
Pair = StringTriple × Triple

abbrev plain_triple : StringTriple → StringTriple
plain_triple t = (plain t.0, plain t.1, plain t.2)

abbrev pair_of : List (List ℕ) → List ℕ → Triple → Pair
pair_of xs ids t = (plain_triple (string_triple_at xs t), mapped_triple ids ids ids t)

paired : List (List (List ℕ)) → List (List Triple) → List (List ℕ) → List Pair
paired [] tss idss = []
paired (xs ∷ xss) [] idss = []
paired (xs ∷ xss) (ts ∷ tss) [] = []
paired (xs ∷ xss) (ts ∷ tss) (ids ∷ idss) = map (pair_of xs ids) ts ++ paired xss tss idss

cut : (x : List ℕ) (n : ℕ) → length (record_with n x) - 2 ≡ length x
cut x n = let long = length-append x (0 ∷ n ∷ []) in omega (arith, long)

module _ where
  pub plain_of : (role : Role) (x : List ℕ) → plain (record_of role x) ≡ x
  plain_of Subject x = ap (λ (n : ℕ). take n (record_of Subject x)) (cut x 3) ∙ take-append_seam x (0 ∷ 3 ∷ [])
  plain_of Predicate x = ap (λ (n : ℕ). take n (record_of Predicate x)) (cut x 1) ∙ take-append_seam x (0 ∷ 1 ∷ [])
  plain_of Object x = ap (λ (n : ℕ). take n (record_of Object x)) (cut x 2) ∙ take-append_seam x (0 ∷ 2 ∷ [])

module _ (d : SectionLists) where
  -- the strings of the pairs
  first_parts : (xss : List (List (List ℕ))) (tss : List (List Triple)) (idss : List (List ℕ))
      → length tss ≡ length xss → length idss ≡ length xss
      → map (λ (p : Pair). p.0) (paired xss tss idss) ≡ map plain_triple (batch_triples xss tss)
  unfolding paired batch_triples
  first_parts [] tss idss a b = refl
  first_parts (xs ∷ xss) [] idss a b = refl
  first_parts (xs ∷ xss) (ts ∷ tss) [] a b = absurd (omega (arith, b))
  first_parts (xs ∷ xss) (ts ∷ tss) (ids ∷ idss) a b =
      map-append (λ (p : Pair). p.0) (map (pair_of xs ids) ts) (paired xss tss idss)
      ∙ ((λ i. (map-map (λ (p : Pair). p.0) (pair_of xs ids) ts
      ∙ sym (map-map plain_triple (string_triple_at xs) ts)) i
      ++ first_parts xss tss idss (omega (arith, a)) (omega (arith, b)) i)
      ∙ sym (map-append plain_triple (string_triples_of xs ts) (batch_triples xss tss)))

  -- their IDs
  second_parts : (xss : List (List (List ℕ))) (tss : List (List Triple)) (idss : List (List ℕ))
      → length tss ≡ length xss → length idss ≡ length xss
      → map (λ (p : Pair). p.1) (paired xss tss idss) ≡ joined_mapped tss idss
  unfolding paired joined_mapped
  second_parts [] [] idss a b = refl
  second_parts [] (ts ∷ tss) idss a b = absurd (omega (arith, a))
  second_parts (xs ∷ xss) [] idss a b = refl
  second_parts (xs ∷ xss) (ts ∷ tss) [] a b = refl
  second_parts (xs ∷ xss) (ts ∷ tss) (ids ∷ idss) a b =
      map-append (λ (p : Pair). p.1) (map (pair_of xs ids) ts) (paired xss tss idss)
      ∙ (λ i. map-map (λ (p : Pair). p.1) (pair_of xs ids) ts i
      ++ second_parts xss tss idss (omega (arith, a)) (omega (arith, b)) i)

  -- the IDs of the records of each batch
  abbrev HaveRecordIds : List (List (List ℕ)) → List (List ℕ) → Type 0
  HaveRecordIds xss idss = (b i : ℕ) → b < length xss → i < length (get_or xss b []) → (role : Role) (x : List ℕ)
      → get_or (get_or xss b []) i [] ≡ record_of role x
      → IsIdOf (role_strings d role) x (get_or (get_or idss b []) i 0)

  -- the IDs of some records
  abbrev AreRecordIds : List (List ℕ) → List ℕ → Type 0
  AreRecordIds xs ids = (length ids ≡ length xs) × ((i : ℕ) → i < length xs → (role : Role) (x : List ℕ)
      → get_or xs i [] ≡ record_of role x → IsIdOf (role_strings d role) x (get_or ids i 0))

  abbrev EachIds : List (List (List ℕ)) → List (List ℕ) → Type 0
  EachIds xss idss = (b : ℕ) → b < length xss → AreRecordIds (get_or xss b []) (get_or idss b [])

  ids_both : (xs ys : List (List ℕ)) (ids more : List ℕ) → AreRecordIds xs ids → AreRecordIds ys more
      → AreRecordIds (xs ++ ys) (ids ++ more)
  ids_both xs ys ids more a b = (omega (arith, length-append xs ys, length-append ids more, a.0, b.0), each)
    where
      each : (i : ℕ) → i < length (xs ++ ys) → (role : Role) (x : List ℕ) → get_or (xs ++ ys) i [] ≡ record_of role x
          → IsIdOf (role_strings d role) x (get_or (ids ++ more) i 0)
      each i lt role x is = elim (cases_lt i (length xs)) [
        | inl before ↦
            subst (IsIdOf (role_strings d role) x)
            (sym (get_or_append_left ids more 0 i (omega (arith, before, a.0))))
            (a.1 i before role x (sym (get_or_append_left xs ys [] i before) ∙ is))
        | inr le ↦
            let j = i - length xs in
            let at : length xs + j ≡ i = omega (arith, le) in
            let from : get_or ys j [] ≡ record_of role x =
            sym (get_or-append-add xs ys j []) ∙ (ap (λ (k : ℕ). get_or (xs ++ ys) k []) at ∙ is) in
            let to : get_or (ids ++ more) i 0 ≡ get_or more j 0 =
            ap (λ (k : ℕ). get_or (ids ++ more) k 0) (sym at ∙ ap (λ (k : ℕ). k + j) (sym a.0))
            ∙ get_or-append-add ids more j 0 in
            subst (IsIdOf (role_strings d role) x) (sym to)
            (b.1 j (omega (arith, lt, le, length-append xs ys)) role x from)
      ]

  joined_ids : (n : ℕ) (xss : List (List (List ℕ))) (idss : List (List ℕ)) → length idss ≡ length xss
      → EachIds xss idss → AreRecordIds (joined_runs (take n xss)) (joined_runs (take n idss))
  unfolding joined_runs
  joined_ids zero xss idss e h = (refl, λ i lt role x is. absurd (omega (arith, lt)))
  joined_ids (suc n) [] [] e h = (refl, λ i lt role x is. absurd (omega (arith, lt)))
  joined_ids (suc n) [] (ids ∷ idss) e h = absurd (omega (arith, e))
  joined_ids (suc n) (xs ∷ xss) [] e h = absurd (omega (arith, e))
  joined_ids (suc n) (xs ∷ xss) (ids ∷ idss) e h =
      ids_both xs (joined_runs (take n xss)) ids (joined_runs (take n idss)) (h 0 (omega arith))
      (joined_ids n xss idss (omega (arith, e)) (λ b lt. h (suc b) (omega (arith, lt))))

  later_ids : (n : ℕ) (xss : List (List (List ℕ))) (idss : List (List ℕ)) → length idss ≡ length xss
      → EachIds xss idss → (length (drop n idss) ≡ length (drop n xss)) × EachIds (drop n xss) (drop n idss)
  later_ids zero xss idss e h = (e, h)
  later_ids (suc n) [] [] e h = (refl, λ b lt. absurd (omega (arith, lt)))
  later_ids (suc n) [] (ids ∷ idss) e h = absurd (omega (arith, e))
  later_ids (suc n) (xs ∷ xss) [] e h = absurd (omega (arith, e))
  later_ids (suc n) (xs ∷ xss) (ids ∷ idss) e h =
      later_ids n xss idss (omega (arith, e)) (λ b lt. h (suc b) (omega (arith, lt)))

  grouped_ids : (ns : List ℕ) (xss : List (List (List ℕ))) (idss : List (List ℕ)) → length idss ≡ length xss
      → EachIds xss idss
      → (length (grouped ns idss) ≡ length (grouped ns xss)) × EachIds (grouped ns xss) (grouped ns idss)
  unfolding grouped
  grouped_ids [] xss idss e h = (refl, λ b lt. absurd (omega (arith, lt)))
  grouped_ids (n ∷ ns) xss idss e h =
      let l = later_ids n xss idss e h in
      let r = grouped_ids ns (drop n xss) (drop n idss) l.0 l.1 in
      (omega (arith, r.0), λ b lt. each r.1 b lt)
    where
      each : EachIds (grouped ns (drop n xss)) (grouped ns (drop n idss)) → (b : ℕ)
          → b < length (grouped (n ∷ ns) xss)
          → AreRecordIds (get_or (grouped (n ∷ ns) xss) b []) (get_or (grouped (n ∷ ns) idss) b [])
      each r zero lt = joined_ids n xss idss e h
      each r (suc b) lt = r b (omega (arith, lt))

  abbrev AllBelow : List (List (List ℕ)) → List (List Triple) → Type 0
  AllBelow xss tss = (b : ℕ) → b < length xss → AreBelow (length (get_or xss b [])) (get_or tss b [])

  each_pair : (xss : List (List (List ℕ))) (tss : List (List Triple)) (idss : List (List ℕ))
      → length tss ≡ length xss → length idss ≡ length xss → HaveRecordIds xss idss → AllBelow xss tss
      → ((t : StringTriple) → Contains (batch_triples xss tss) t → (s : StringTriple) × (t ≡ record_triple s))
      → (p : Pair) → Contains (paired xss tss idss) p → AreIdsOf d p.0 p.1
  unfolding paired batch_triples
  each_pair [] tss idss a b have below are p there = absurd (Contains-nil p there)
  each_pair (xs ∷ xss) [] idss a b have below are p there = absurd (Contains-nil p there)
  each_pair (xs ∷ xss) (ts ∷ tss) [] a b have below are p there = absurd (Contains-nil p there)
  each_pair (xs ∷ xss) (ts ∷ tss) (ids ∷ idss) a b have below are p there =
      elim (Contains-append_cases (map (pair_of xs ids) ts) (paired xss tss idss) p there) [
        | inl here ↦ own here
        | inr later ↦ each_pair xss tss idss (omega (arith, a)) (omega (arith, b))
            (λ k i lt in' role x is. have (suc k) i (omega (arith, lt)) in' role x is)
            (λ k lt. below (suc k) (omega (arith, lt)))
            (λ t h. are t (Contains-append_right (string_triples_of xs ts) (batch_triples xss tss) t h)) p later
      ]
    where
      one : (t : Triple) → Contains ts t → AreIdsOf d (plain_triple (string_triple_at xs t))
          (mapped_triple ids ids ids t)
      one t h =
          let s = are (string_triple_at xs t) (Contains-append_left (string_triples_of xs ts) (batch_triples xss tss)
          (string_triple_at xs t) (Contains-map (string_triple_at xs) ts t h)) in
          let w = below 0 (omega arith) in
          let id : (role : Role) (i : ℕ) (x : List ℕ) → i < length xs → get_or xs i [] ≡ record_of role x
          → IsIdOf (role_strings d role) (plain (get_or xs i [])) (get_or ids i 0) =
          λ role i x lt is. subst (λ (y : List ℕ). IsIdOf (role_strings d role) y (get_or ids i 0))
          (sym (ap plain is ∙ plain_of role x)) (have 0 i (omega arith) lt role x is) in (
            id Subject t.0 s.0.0 (All-contains (λ (u : Triple). u.0 < length xs) ts t w.subjects h)
                (ap (λ (u : StringTriple). u.0) s.1),
            id Predicate t.1 s.0.1 (All-contains (λ (u : Triple). u.1 < length xs) ts t w.predicates h)
                (ap (λ (u : StringTriple). u.1) s.1),
            id Object t.2 s.0.2 (All-contains (λ (u : Triple). u.2 < length xs) ts t w.objects h)
                (ap (λ (u : StringTriple). u.2) s.1),
          )

      own : Contains (map (pair_of xs ids) ts) p → AreIdsOf d p.0 p.1
      own h =
          let t = Contains-from_map (pair_of xs ids) ts p h in
          subst (λ (q : Pair). AreIdsOf d q.0 q.1) t.2 (one t.0 t.1)

-- ---- the graph

plain_records : (g : List StringTriple) → map plain_triple (map record_triple g) ≡ g
plain_records [] = refl
plain_records (t ∷ g) =
    λ i. (plain_of Subject t.0 i, plain_of Predicate t.1 i, plain_of Object t.2 i) ∷ plain_records g i

module _ (known : Type 0) (n : ℕ) (flat runs : List (List (List ℕ))) (counts : List ℕ)
    (groups : grouped counts flat ≡ runs) (joined : joined_runs flat ≡ joined_runs runs) (tss : List (List Triple))
    (sections : SectionStates) (numbers events : List ℕ) (flat_lists : List (List ℕ))
    (m : AreMergedRecords known n flat sections numbers events)
    (ids : AreIdLists known (length flat) (length (lists_of_states sections).shared) numbers events flat_lists)
    (made : List Triple) (k : known) (up : AreAscending made)
    (same : SameMembers made (joined_mapped tss (grouped counts flat_lists)))
    (g : List StringTriple) (are : AreBatches runs tss g) where
  abbrev d : SectionLists
  d = lists_of_states sections

  lists : List (List ℕ)
  lists = grouped counts flat_lists

  records : AreRecordRuns flat
  records = subst (All IsRecord) (sym joined) are.records

  have_ids : (length lists ≡ length runs) × EachIds d runs lists
  unfolding lists
  have_ids =
      let r = grouped_ids d counts flat flat_lists ids.long
      (λ b lt. subst (AreRecordIds d (get_or flat b [])) (sym (ids.ids k b lt)) (
        record_count known n flat sections numbers events m k records b lt,
        λ i in' role x is. record_id known n flat sections numbers events m k records b i lt in' role x is,
      )) in (
        r.0 ∙ ap length groups,
        subst (λ (l : List (List (List ℕ))). EachIds d l (grouped counts flat_lists)) groups r.1,
      )

  pairs : List Pair
  pairs = paired runs tss lists

  strings_are : map (λ (p : Pair). p.0) pairs ≡ g
  unfolding pairs
  strings_are = first_parts d runs tss lists are.long have_ids.0
      ∙ (ap (map plain_triple) are.triples ∙ plain_records g)

  roles : (role : Role) → AreRoleStrings m.groups role (strings_in_role role g)
  roles role x =
      let r = (m.groups_are k records).roles role x in
      let s = are.members role x in
      let to = subst (λ (l : List (List ℕ)). Contains l (record_of role x)) joined in
      let back = subst (λ (l : List (List ℕ)). Contains l (record_of role x)) (sym joined) in
      (λ had. s.0 (to (r.0 had)), λ there. r.1 (back (s.1 there)))

  pub batches_form : IsEncodedGraph g d made
  unfolding pairs lists
  batches_form =
      subst (λ (h : List StringTriple). IsEncodedGraph h d made) strings_are
      (encoded_form d pairs (λ (p : Pair). p.1) (λ (p : Pair). p.0)
      (each_pair d runs tss lists are.long have_ids.0
      (λ b i lt in' role x is. (have_ids.1 b lt).1 i in' role x is)
      are.below
      (λ t h. let s = Contains-from_map record_triple g t
      (subst (λ (l : List StringTriple). Contains l t) are.triples h) in
      (s.0, sym s.2)))
      (subst (λ (h : List StringTriple). IsSplit (subjects_of h) (predicates_of h) (objects_of h) d) (sym strings_are)
      (m.finished.split (subjects_of g) (predicates_of g) (objects_of g)
      (roles Subject) (roles Predicate) (roles Object)))
      made up (subst (SameMembers made) (sym (second_parts d runs tss lists are.long have_ids.0)) same))

-- ---- empty lists

pub one_list : (old new : List (List ℕ)) (n : ℕ) (x : List ℕ) → new ≡ old ++ x ∷ [] → x ≡ [] → length old ≡ n
    → ((b : ℕ) → b < n → get_or old b [] ≡ [])
    → (length new ≡ n + 1) × ((b : ℕ) → b < n + 1 → get_or new b [] ≡ [])
one_list old new n x e none long h = (ap length e ∙ omega (arith, length_push old x, long), each)
  where
    each : (b : ℕ) → b < n + 1 → get_or new b [] ≡ []
    each b lt = elim (cases_lt b n) [
      | inl before ↦ ap (λ (l : List (List ℕ)). get_or l b []) e
          ∙ (get_or_append_left old (x ∷ []) [] b (omega (arith, before, long)) ∙ h b before)
      | inr le ↦ ap (λ (l : List (List ℕ)). get_or l b []) e ∙
          (get_or_push old x [] b (omega (arith, lt, le, long)) ∙ none)
    ]

pub no_items : {X : Type 0} (xs : List X) → length xs ≡ 0 → xs ≡ []
no_items [] e = refl
no_items (x ∷ xs) e = absurd (omega (arith, e))

pub some_weaker : {X : Type 0} (P Q : X → Type 0) (found : Option X) → ((x : X) → P x → Q x) → IfSome found P
    → IfSome found Q
some_weaker P Q None f h = tt
some_weaker P Q (Some x) f h = f x h
