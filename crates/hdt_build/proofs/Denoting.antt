-- The ID triples of a document: the string triples that they denote, and that their subjects have no gap.
use Rattle.std.proofs.Common.{◌≡◌, ◌≢◌, ℕ, ◌+◌, ◌<◌, ◌≤◌, List, [], map, length, get_or, refl, ap, sym, ◌∙◌, subst, inl}
use Rattle.std.proofs.Common.{inr, arith}
use Rattle.std.specs.declared.cmp.Ordering.TheVariants.{Less, Equal}
use Rattle.std.specs.List.{Contains}
use Rattle.std.proofs.lemmas.Bool.{cases_lt}
use Rattle.std.proofs.lemmas.Cmp.{tied_itself}
use Rattle.std.proofs.lemmas.List.{get_or-map, length-map, get_or_default}
use Rattle.std.proofs.lemmas.List.Elements.{All-contains, All-map, Contains-append_cases, Contains-get_or}
use Rattle.std.proofs.lemmas.Map.Keys.{Less-from_sorted}
use Rattle.hdt_dict.specs.Strings.{SameMembers}
use Rattle.hdt_dict.specs.Split.{IsSplit}
use Rattle.hdt_dict.specs.Laws.Members.{SameMembers-map, Contains-map, Contains-from_map, All-from_members}
use Rattle.hdt_dict.specs.Laws.Members.{All-same_members}
use Rattle.hdt_build.specs.Inside.Rewriting.{IsIdOf, string_of_id}
use Rattle.hdt_build.specs.Inside.Filtering.{AreSectionsOf}
use Rattle.hdt_triples.specs.TripleSequences.{Triple}
use Rattle.hdt_triples.specs.Uses.{role_component, Uses}
use Rattle.hdt_wire.specs.declared.Role.{Role}
use Rattle.hdt_wire.specs.declared.Role.TheVariants.{Subject, Predicate, Object}
use Rattle.hdt_build.proofs.IndexTriples.{map_along}
use Rattle.hdt_file.specs.Denoted.{StringTriple}
use Rattle.hdt_file.specs.Tight.{IsTight}
use Rattle.hdt_build.specs.Layouts.{graph_parts_of}
use Rattle.hdt_build.specs.Graph.{IsEncodedGraph, string_triple_at, string_triples_of, mapped_triple, subjects_of}
use Rattle.hdt_build.specs.Graph.{predicates_of, objects_of}
use Rattle.hdt_build.proofs.StringsOfIds.{in_role, string_triple, same_strings, term_in}
use Rattle.hdt_build.proofs.Distinct.{Distinct, number_unique, subjects_distinct, predicates_distinct, objects_distinct}
use Rattle.hdt_triples.specs.Order.{nth_triple, AreWritable, IsInRange, AreAscending}
use Rattle.hdt_build.proofs.Order.{triple_total, first_le, triple_cmp, sorted_triples}
use Rattle.hdt_build.proofs.Unique.{triple_unique}
use Rattle.hdt_dict.specs.Dictionary.{SectionLists, role_strings}
use Rattle.hdt_file.specs.File.{role_counts}

-- the IDs of a triple are those of the strings
abbrev pub AreIdsOf : SectionLists → StringTriple → Triple → Type 0
AreIdsOf d x t = IsIdOf (role_strings d Subject) x.0 t.0 × IsIdOf (role_strings d Predicate) x.1 t.1
    × IsIdOf (role_strings d Object) x.2 t.2

-- triples that stand for string triples, and their IDs in the sections
module _ {X : Type 0} (d : SectionLists) (ids : List X) (new : X → Triple) (strings : X → StringTriple)
    (are : (t : X) → Contains ids t → AreIdsOf d (strings t) (new t)) where
  one_denoted : (t : X) → Contains ids t → string_triple d (new t) ≡ strings t
  one_denoted t there = let r = are t there in same_strings _ _ _ _ _ _ r.0.is r.1.is r.2.is

  one_in_range : (t : X) → Contains ids t → IsInRange (role_counts d) (new t)
  one_in_range t there = let r = are t there in
      ((r.0.from_one, r.0.within), (r.1.from_one, r.1.within), (r.2.from_one, r.2.within))

  pub encoded_form : IsSplit (subjects_of (map strings ids)) (predicates_of (map strings ids))
      (objects_of (map strings ids)) d → (ts : List Triple) → AreAscending ts → SameMembers ts (map new ids)
      → IsEncodedGraph (map strings ids) d ts
  encoded_form sections ts up same = record {
    sections = sections;
    ascending = up;
    in_range = All-same_members (IsInRange (role_counts d)) (map new ids) ts same
        (All-map (IsInRange (role_counts d)) new ids
        (All-from_members (λ t. IsInRange (role_counts d) (new t)) ids one_in_range));
    denotes = subst (SameMembers (map (string_triple d) ts))
        (map_along (string_triple d) new strings ids
        (All-from_members (λ t. string_triple d (new t) ≡ strings t) ids one_denoted))
        (SameMembers-map (string_triple d) ts (map new ids) same);
  }

pub parts_form : (xs : List (List ℕ)) (ids : List Triple) (d : SectionLists) (nodes names : List ℕ)
    → AreSectionsOf xs ids d nodes names
    → (ts : List Triple) → AreAscending ts → SameMembers ts (map (mapped_triple nodes names nodes) ids)
    → IsEncodedGraph (string_triples_of xs ids) d ts
parts_form xs ids d nodes names h =
    encoded_form d ids (mapped_triple nodes names nodes) (string_triple_at xs) (λ t there. (
      h.subjects_are t.0 (Contains-map (role_component Subject) ids t there),
      h.predicates_are t.1 (Contains-map (role_component Predicate) ids t there),
      h.objects_are t.2 (Contains-map (role_component Object) ids t there),
    )) h.sections

module _ {g : List StringTriple} (d : SectionLists) (ts : List Triple) (h : IsEncodedGraph g d ts) where
  subject_le : (i j : ℕ) (e : Triple) → i ≤ j → j < length ts → (get_or ts i e).0 ≤ (get_or ts j e).0
  subject_le i j e le below =
      elim (cases_lt i j) as (λ _. (get_or ts i e).0 ≤ (get_or ts j e).0) [
        | inl before ↦ first_le (get_or ts i e) (get_or ts j e)
            (Less-from_sorted triple_cmp ts i j e (sorted_triples ts h.ascending) before below)
        | inr behind ↦ let same : i ≡ j = omega arith in let f = ap (λ k. (get_or ts k e).0) same in omega arith
      ]

  -- the strings of a role are those of its sections
  members : (role : Role) (x : List ℕ) → Contains (role_strings d role) x → Contains (map (role_component role) g) x
  members Subject x a = elim (Contains-append_cases d.shared d.subjects x a) as (λ _. Contains (map (λ t. t.0) g) x) [
    | inl b ↦ ((h.sections.shared x).0 b).0
    | inr b ↦ ((h.sections.subjects x).0 b).0
  ]
  members Predicate x a = (h.sections.predicates x).0 a
  members Object x a = elim (Contains-append_cases d.shared d.objects x a) as (λ _. Contains (map (λ t. t.2) g) x) [
    | inl b ↦ ((h.sections.shared x).0 b).1
    | inr b ↦ ((h.sections.objects x).0 b).0
  ]

  distinct : (role : Role) → Distinct (role_strings d role)
  distinct Subject = subjects_distinct d h.sections
  distinct Predicate = predicates_distinct d h.sections
  distinct Object = objects_distinct d h.sections

  string_is : (role : Role) (t : Triple) → string_of_id (role_strings d role) (role_component role t)
      ≡ role_component role (string_triple d t)
  string_is Subject t = refl
  string_is Predicate t = refl
  string_is Object t = refl

  -- each ID of a role occurs in a triple
  occurs : (role : Role) (n : ℕ) → 0 < n → n ≤ length (role_strings d role) → (t : Triple) × Contains ts t
      × (role_component role t ≡ n)
  occurs role n a b =
      let x = string_of_id (role_strings d role) n in
      let r = Contains-from_map (role_component role) g x (members role x (term_in (role_strings d role) n a b)) in
      let s = Contains-from_map (string_triple d) ts r.0 ((h.denotes r.0).1 r.1) in
      let range = in_role d role s.0 (All-contains (IsInRange (role_counts d)) ts s.0 h.in_range s.1) in (
        s.0,
        s.1,
        number_unique (role_strings d role) (distinct role) (role_component role s.0) n range.0 range.1 a b
            (string_is role s.0 ∙ ap (role_component role) s.2 ∙ r.2),
      )

  pub form_tight : (header : List ℕ) → IsTight (graph_parts_of header d ts)
  form_tight header role n from to = let t = occurs role n from to in
      subst (Uses ts role) t.2 (Contains-map (role_component role) ts t.0 t.1)

  -- the same by index
  at_place : (n : ℕ) (e : Triple) → 0 < n → n ≤ length (role_strings d Subject) → (j : ℕ) × (j < length ts)
      × ((get_or ts j e).0 ≡ n)
  at_place n e a b =
      let r = occurs Subject n a b in
      let j = r.1.0 in
      (j, r.1.1, ap (λ (t : Triple). t.0) (get_or_default ts j e r.0 r.1.1 ∙ r.1.2) ∙ r.2)

  -- the first subject is 1
  first_subject : 0 < length ts → (nth_triple ts 0).0 ≡ 1
  first_subject some =
      let e : Triple = (0, 0, 0) in
      let range = h.in_range 0 e some in
      let low : 0 < (get_or ts 0 e).0 = range.0.0 in
      let high : (get_or ts 0 e).0 ≤ length (role_strings d Subject) = range.0.1 in
      let r = at_place 1 e (omega arith) (omega arith) in
      let le = subject_le 0 r.0 e (omega arith) r.1 in
      omega (arith, le, r.2)

  -- no subject is skipped
  next_subject : (k : ℕ) → k + 1 < length ts → (nth_triple ts (k + 1)).0 ≤ (nth_triple ts k).0 + 1
  next_subject k below =
      let e : Triple = (0, 0, 0) in
      let range = h.in_range (k + 1) e below in
      let high : (get_or ts (k + 1) e).0 ≤ length (role_strings d Subject) = range.0.1 in
      elim (cases_lt ((get_or ts k e).0 + 1) (get_or ts (k + 1) e).0) as (λ _. (get_or ts (k + 1) e).0
      ≤ (get_or ts k e).0 + 1) [
        | inl wide ↦
            let r = at_place ((get_or ts k e).0 + 1) e (omega arith) (omega (arith, high, wide)) in
            elim (cases_lt k r.0) as (λ _. (get_or ts (k + 1) e).0 ≤ (get_or ts k e).0 + 1) [
              | inl after ↦ let le = subject_le (k + 1) r.0 e (omega arith) r.1 in omega (arith, le, r.2)
              | inr before ↦ let le = subject_le r.0 k e before (omega arith) in absurd (omega (arith, le, r.2))
            ]
        | inr close ↦ close
      ]

  -- the triples can be written
  pub writable : 0 < length ts → AreWritable ts
  writable some = record {
    some = some;
    ascend = h.ascending;
    first = first_subject some;
    next = next_subject;
    predicates = λ i below. (h.in_range i (0, 0, 0) below).1.0;
    objects = λ i below. (h.in_range i (0, 0, 0) below).2.0;
  }

  pub once : (i j : ℕ) (x : StringTriple) → i < j → j < length (map (string_triple d) ts)
      → get_or (map (string_triple d) ts) i x ≢ get_or (map (string_triple d) ts) j x
  once i j x lt below = λ same.
      let e : Triple = (0, 0, 0) in
      let size = length-map ts (string_triple d) in
      let in_j : j < length ts = omega arith in
      let in_i : i < length ts = omega arith in
      let is : string_triple d (get_or ts i e) ≡ string_triple d (get_or ts j e) =
      sym (get_or-map (string_triple d) ts i e x in_i) ∙ same ∙ get_or-map (string_triple d) ts j e x in_j in
      let one = triple_unique d h.sections (get_or ts i e) (get_or ts j e) (h.in_range i e in_i)
      (h.in_range j e in_j) is in
      let less = Less-from_sorted triple_cmp ts i j e (sorted_triples ts h.ascending) lt in_j in
      let tied = tied_itself triple_total (get_or ts j e) in
      absurd (differ (sym less ∙ ap (λ t. triple_cmp t (get_or ts j e)) one ∙ tied))
    where
      differ : Less ≡ Equal → ⊥
      differ e = cc

pub some_triple : (g : List StringTriple) (d : SectionLists) (ts : List Triple) → IsEncodedGraph g d ts → 0 < length g
    → 0 < length ts
some_triple g d ts h some =
    let e : StringTriple = ([], [], []) in
    let r = Contains-from_map (string_triple d) ts (get_or g 0 e)
    ((h.denotes (get_or g 0 e)).1 (Contains-get_or g 0 e some)) in
    omega (arith, r.1.1)
