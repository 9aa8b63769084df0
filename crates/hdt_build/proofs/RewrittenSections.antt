-- The sections of a graph that is rewritten, and the new IDs of its triples.
use Rattle.std.proofs.Common.{◌≡◌, ◌∙◌, ◌⊎◌, inl, inr, ℕ, ◌+◌, ◌-◌, ◌<◌, ◌≤◌, List, [], ◌++◌, map, length, get_or, refl}
use Rattle.std.proofs.Common.{ap, sym, subst, arith}
use Rattle.std.specs.List.{Contains}
use Rattle.std.proofs.lemmas.Bool.{cases_lt}
use Rattle.std.proofs.lemmas.List.{get_or_append_left, get_or-append_right, length-append}
use Rattle.std.proofs.lemmas.List.Elements.{Contains-get_or}
use Rattle.hdt_wire.specs.declared.Role.{Role}
use Rattle.hdt_wire.specs.declared.Role.TheVariants.{Subject, Predicate, Object}
use Rattle.hdt_dict.specs.Laws.Members.{Contains-map, Contains-from_map}
use Rattle.hdt_dict.specs.Split.{IsSplit}
use Rattle.hdt_dict.specs.Strings.{SameMembers}
use Rattle.hdt_dict.specs.Laws.Strings.{member_cases}
use Rattle.hdt_triples.specs.TripleSequences.{Triple}
use Rattle.hdt_triples.specs.Uses.{role_component, Uses}
use Rattle.hdt_file.specs.Denoted.{string_of, denoted_triple}
use Rattle.hdt_file.specs.File.{GraphParts}
use Rattle.hdt_file.specs.Graph.{IsGraph}
use Rattle.hdt_dict.specs.Dictionary.{role_strings, SectionLists}
use Rattle.hdt_dict.specs.declared.dictionary.SectionId.{SectionId}
use Rattle.hdt_dict.specs.declared.dictionary.SectionId.TheVariants as sections
use Rattle.hdt_build.specs.declared.sections.NewIds.{NewIds}
use Rattle.hdt_build.specs.Graph.{IsEncodedGraph, subjects_of, predicates_of, objects_of}
use Rattle.hdt_build.specs.Inside.Rewriting.{section_role, IsUsedInBoth, RetainsId, IsIdAfter, IsRewrittenSection}
use Rattle.hdt_build.specs.Inside.Rewriting.{AreRewrittenSections, with_new_ids, new_id, IsIdOf, string_of_id}
use Rattle.hdt_build.specs.Layouts.{denoted_by}
use Rattle.hdt_build.proofs.Denoting.{encoded_form}
use Rattle.hdt_build.proofs.Distinct.{Distinct-ascending}
use Rattle.hdt_build.proofs.RunMerging.{id_in_longer, id_after, has_id}
use Rattle.hdt_build.proofs.StringsOfIds.{term_is}
use Rattle.hdt_build.proofs.RunOrder.{used_range, kept_used}
use Rattle.hdt_triples.specs.Order.{AreAscending}

-- the position of a string in two concatenated lists
pub side : (xs ys : List (List ℕ)) (n : ℕ) → 1 ≤ n → n ≤ length (xs ++ ys)
    → ((n ≤ length xs) × (get_or xs (n - 1) [] ≡ string_of_id (xs ++ ys) n)) ⊎ Contains ys (string_of_id (xs ++ ys) n)
side xs ys n from to = elim (cases_lt (n - 1) (length xs)) [
  | inl front ↦ inl (
    omega (arith, from, front),
    sym (term_is (xs ++ ys) n from ∙ get_or_append_left xs ys [] (n - 1) front),
  )
  | inr back ↦ inr (subst (Contains ys)
      (sym (term_is (xs ++ ys) n from ∙ get_or-append_right xs ys (length xs) (n - 1) [] refl back))
      (Contains-get_or ys (n - 1 - length xs) [] (omega (arith, from, to, back, length-append xs ys))))
]

part_of : (g : GraphParts) (role : Role) (t : Triple)
    → role_component role (denoted_triple g t) ≡ string_of g role (role_component role t)
part_of g Subject t = refl
part_of g Predicate t = refl
part_of g Object t = refl

module _ (g : GraphParts) (h : IsGraph g) where
  -- ---- the strings used in a role are those of the denoted graph

  pub named : (role : Role) (x : List ℕ) (n : ℕ) → Uses g.triples role n → string_of g role n ≡ x
      → Contains (map (role_component role) (denoted_by g)) x
  named role x n used is =
      let t = Contains-from_map (role_component role) g.triples n used in
      subst (Contains (map (role_component role) (denoted_by g))) (part_of g role t.0
      ∙ (ap (string_of g role) t.2 ∙ is))
      (Contains-map (role_component role) (denoted_by g) (denoted_triple g t.0)
      (Contains-map (denoted_triple g) g.triples t.0 t.1))

  pub numbered : (role : Role) (x : List ℕ) → Contains (map (role_component role) (denoted_by g)) x
      → (n : ℕ) × Uses g.triples role n × (string_of g role n ≡ x)
  numbered role x there =
      let s = Contains-from_map (role_component role) (denoted_by g) x there in
      let t = Contains-from_map (denoted_triple g) g.triples s.0 s.1 in (
        role_component role t.0,
        Contains-map (role_component role) g.triples t.0 t.1,
        sym (part_of g role t.0)
            ∙ (ap (role_component role) t.2 ∙ s.2),
      )

  -- ---- a string that is both a subject and an object is shared

  pub at_shared : (n : ℕ) → 1 ≤ n → n ≤ length g.dictionary.shared → string_of g Subject n ≡ string_of g Object n
  at_shared n from to =
      let lt : n - 1 < length g.dictionary.shared = omega (arith, from, to) in
      term_is (role_strings g.dictionary Subject) n from
      ∙ (get_or_append_left g.dictionary.shared g.dictionary.subjects [] (n - 1) lt
      ∙ sym (term_is (role_strings g.dictionary Object) n from
      ∙ get_or_append_left g.dictionary.shared g.dictionary.objects [] (n - 1) lt))

  pub meet : (n m : ℕ) → Uses g.triples Subject n → Uses g.triples Object m
      → string_of g Subject n ≡ string_of g Object m → (n ≡ m) × (n ≤ length g.dictionary.shared)
  meet n m s o same =
      let d = g.dictionary in
      let a = used_range g h Subject n s in
      let b = used_range g h Object m o in
      elim (side d.shared d.subjects n a.0 a.1) [
        | inl one ↦ elim (side d.shared d.objects m b.0 b.1) [
          | inl two ↦
              let e = (Distinct-ascending d.shared h.shared.ascend).one (n - 1) (m - 1) (omega (arith, a.0, one.0))
              (omega (arith, b.0, two.0)) (one.1 ∙ (same ∙ sym two.1)) in
              (omega (arith, e, a.0, b.0), one.0)
          | inr two ↦ absurd (h.shared_objects (string_of g Object m)
              (subst (Contains d.shared) (one.1
              ∙ same) (Contains-get_or d.shared (n - 1) [] (omega (arith, a.0, one.0)))) two)
        ]
        | inr one ↦ elim (side d.shared d.objects m b.0 b.1) [
          | inl two ↦ absurd (h.shared_subjects (string_of g Subject n)
              (subst (Contains d.shared) (two.1
              ∙ sym same) (Contains-get_or d.shared (m - 1) [] (omega (arith, b.0, two.0)))) one)
          | inr two ↦ absurd (h.subjects_objects (string_of g Object m) (subst (Contains d.subjects) same one) two)
        ]
      ]

  met_both : (n m : ℕ) → Uses g.triples Subject n → Uses g.triples Object m
      → string_of g Subject n ≡ string_of g Object m → IsUsedInBoth g n × IsUsedInBoth g m
  met_both n m s o same =
      let e = meet n m s o same in
      let n_both : IsUsedInBoth g n = (e.1, s, subst (Uses g.triples Object) (sym e.0) o) in
      (n_both, subst (IsUsedInBoth g) e.0 n_both)

  subject_both : (n : ℕ) → Uses g.triples Subject n → IsUsedInBoth g n ⊎ (IsUsedInBoth g n → ⊥)
  subject_both n used = elim (member_cases (objects_of (denoted_by g)) (string_of g Subject n)) [
    | inl there ↦ let m = numbered Object (string_of g Subject n) there in inl (met_both n m.0 used m.1 (sym m.2)).0
    | inr absent ↦ inr (λ both. absent
        (named Object (string_of g Subject n) n both.2 (sym (at_shared n (used_range g h Subject n used).0 both.0))))
  ]

  object_both : (m : ℕ) → Uses g.triples Object m → IsUsedInBoth g m ⊎ (IsUsedInBoth g m → ⊥)
  object_both m used = elim (member_cases (subjects_of (denoted_by g)) (string_of g Object m)) [
    | inl there ↦ let n = numbered Subject (string_of g Object m) there in inl (met_both n.0 m n.1 used n.2).1
    | inr absent ↦ inr (λ both. absent
        (named Subject (string_of g Object m) m both.1 (at_shared m (used_range g h Object m used).0 both.0)))
  ]

  -- ---- the written sections

  module _ (p : SectionId) (count : ℕ) (strings : List (List ℕ)) (before after : List ℕ)
      (put : IsRewrittenSection g p count strings before after) where
    back : (n : ℕ) → Uses g.triples (section_role p) n → n - 1 + 1 ≡ n
    back n used = omega (arith, (used_range g h (section_role p) n used).0)

    put_number : (n : ℕ) → RetainsId g p n
        → IsIdAfter count strings (string_of g (section_role p) n) (get_or after (n - 1) 0)
    put_number n keep =
        let e = back n (kept_used g h p n keep) in
        subst (λ (m : ℕ). IsIdAfter count strings (string_of g (section_role p) m) (get_or after (n - 1) 0)) e
        (put.ids (n - 1) (subst (RetainsId g p) (sym e) keep))

    put_other : (n : ℕ) → Uses g.triples (section_role p) n → (RetainsId g p n → ⊥)
        → get_or after (n - 1) 0 ≡ get_or before (n - 1) 0
    put_other n used none = put.others (n - 1) (λ keep. none (subst (RetainsId g p) (back n used) keep))

    put_has : (n : ℕ) (x : List ℕ) → RetainsId g p n → string_of g (section_role p) n ≡ x → Contains strings x
    put_has n x keep is = has_id (put_number n keep) is

  module _ (sh su pr ob : List (List ℕ)) (s0 s1 s2 p0 p1 o0 o1 : List ℕ)
      (a : IsRewrittenSection g sections.Shared 0 sh s0 s1)
      (b : IsRewrittenSection g sections.Subjects (length sh) su s1 s2)
      (c : IsRewrittenSection g sections.Predicates 0 pr p0 p1)
      (e : IsRewrittenSection g sections.Objects (length sh) ob o0 o1) where
    both_strings : (x : List ℕ) → Contains sh x → Contains (subjects_of (denoted_by g)) x
        × Contains (objects_of (denoted_by g)) x
    both_strings x there =
        let r = a.each x there in
        let same = at_shared (r.0 + 1) (omega arith) r.1.0 in
        (named Subject x (r.0 + 1) r.1.1 r.2, named Object x (r.0 + 1) r.1.2 (sym same ∙ r.2))

    is_split : IsSplit (subjects_of (denoted_by g)) (predicates_of (denoted_by g)) (objects_of (denoted_by g))
        (record { shared = sh; subjects = su; predicates = pr; objects = ob })
    is_split = record {
      shared_ascend = a.ascend;
      subjects_ascend = b.ascend;
      predicates_ascend = c.ascend;
      objects_ascend = e.ascend;
      shared = λ x. (
        both_strings x,
        λ both. let n = numbered Subject x both.0 in
            let m = numbered Object x both.1 in
            put_has sections.Shared 0 sh s0 s1 a n.0 x (met_both n.0 m.0 n.1 m.1 (n.2 ∙ sym m.2)).0 n.2,
      );
      subjects = λ x. (
        λ there. let r = b.each x there in (
          named Subject x (r.0 + 1) r.1.0 r.2,
          λ other. let m = numbered Object x other in r.1.1 (met_both (r.0 + 1) m.0 r.1.0 m.1 (r.2 ∙ sym m.2)).0,
        ),
        λ own. let n = numbered Subject x own.0 in
            put_has sections.Subjects (length sh) su s1 s2 b n.0 x (
              n.1,
              λ both. own.1 (named Object x n.0 both.2 (sym (at_shared n.0 (used_range g h Subject n.0 n.1).0 both.0)
                  ∙ n.2)),
            ) n.2,
      );
      predicates = λ x. (
        λ there. let r = c.each x there in named Predicate x (r.0 + 1) r.1 r.2,
        λ there. let n = numbered Predicate x there in put_has sections.Predicates 0 pr p0 p1 c n.0 x n.1 n.2,
      );
      objects = λ x. (
        λ there. let r = e.each x there in (
          named Object x (r.0 + 1) r.1.0 r.2,
          λ other. let n = numbered Subject x other in r.1.1 (met_both n.0 (r.0 + 1) n.1 r.1.0 (n.2 ∙ sym r.2)).1,
        ),
        λ own. let m = numbered Object x own.0 in
            put_has sections.Objects (length sh) ob o0 o1 e m.0 x (
              m.1,
              λ both. own.1 (named Subject x m.0 both.1 (at_shared m.0 (used_range g h Object m.0 m.1).0 both.0
                  ∙ m.2)),
            ) m.2,
      );
    }

    shared_number : (n : ℕ) → IsUsedInBoth g n → IsIdOf sh (string_of g Subject n) (get_or s1 (n - 1) 0)
    shared_number n both = id_after [] sh (string_of g Subject n) (get_or s1 (n - 1) 0)
        (put_number sections.Shared 0 sh s0 s1 a n both)

    subject_number : (n : ℕ) → Uses g.triples Subject n
        → IsIdOf (sh ++ su) (string_of g Subject n) (get_or s2 (n - 1) 0)
    subject_number n used = elim (subject_both n used) [
      | inl both ↦
          id_in_longer sh su (string_of g Subject n) (get_or s2 (n - 1) 0)
          (subst (IsIdOf sh (string_of g Subject n))
          (sym (put_other sections.Subjects (length sh) su s1 s2 b n used (λ keep. keep.1 both)))
          (shared_number n both))
      | inr alone ↦ id_after sh su (string_of g Subject n) (get_or s2 (n - 1) 0)
          (put_number sections.Subjects (length sh) su s1 s2 b n (used, alone))
    ]

    module _ (copied : (k : ℕ) → k < length g.dictionary.shared → get_or o0 k 0 ≡ get_or s1 k 0) where
      object_number : (n : ℕ) → Uses g.triples Object n → IsIdOf (sh ++ ob) (string_of g Object n) (get_or o1 (n - 1) 0)
      object_number n used = elim (object_both n used) [
        | inl both ↦
            let from = (used_range g h Object n used).0 in
            let same = put_other sections.Objects (length sh) ob o0 o1 e n used (λ keep. keep.1 both)
            ∙ copied (n - 1) (omega (arith, from, both.0)) in
            id_in_longer sh ob (string_of g Object n) (get_or o1 (n - 1) 0)
            (subst (IsIdOf sh (string_of g Object n)) (sym same)
            (subst (λ (x : List ℕ). IsIdOf sh x (get_or s1 (n - 1) 0)) (at_shared n from both.0)
            (shared_number n both)))
        | inr alone ↦ id_after sh ob (string_of g Object n) (get_or o1 (n - 1) 0)
            (put_number sections.Objects (length sh) ob o0 o1 e n (used, alone))
      ]

      pub are_rewritten : (new : NewIds) → length s2 ≡ length (role_strings g.dictionary Subject)
          → length p1 ≡ length (role_strings g.dictionary Predicate)
          → length o1 ≡ length (role_strings g.dictionary Object)
          → ((n : ℕ) → 1 ≤ n → n ≤ length s2 → new_id new.subjects n ≡ get_or s2 (n - 1) 0)
          → ((n : ℕ) → 1 ≤ n → n ≤ length p1 → new_id new.predicates n ≡ get_or p1 (n - 1) 0)
          → ((n : ℕ) → 1 ≤ n → n ≤ length o1 → new_id new.objects n ≡ get_or o1 (n - 1) 0)
          → AreRewrittenSections g (record { shared = sh; subjects = su; predicates = pr; objects = ob }) new
      are_rewritten new s_long p_long o_long s p o = record {
        sections = is_split;
        subjects_are = λ n used. let r = used_range g h Subject n used in
            subst (IsIdOf (sh ++ su) (string_of g Subject n)) (sym (s n r.0 (omega (arith, r.1, s_long))))
            (subject_number n used);
        predicates_are = λ n used. let r = used_range g h Predicate n used in
            subst (IsIdOf pr (string_of g Predicate n)) (sym (p n r.0 (omega (arith, r.1, p_long))))
            (id_after [] pr (string_of g Predicate n) (get_or p1 (n - 1) 0)
            (put_number sections.Predicates 0 pr p0 p1 c n used));
        objects_are = λ n used. let r = used_range g h Object n used in
            subst (IsIdOf (sh ++ ob) (string_of g Object n)) (sym (o n r.0 (omega (arith, r.1, o_long))))
            (object_number n used);
      }

  -- ---- the triples with new IDs

  pub rewritten_form : (d : SectionLists) (new : NewIds) → AreRewrittenSections g d new
      → (ts : List Triple) → AreAscending ts → SameMembers ts (map (with_new_ids new) g.triples)
      → IsEncodedGraph (denoted_by g) d ts
  rewritten_form d new r =
      encoded_form d g.triples (with_new_ids new) (denoted_triple g) (λ t there. (
        r.subjects_are t.0 (Contains-map (role_component Subject) g.triples t there),
        r.predicates_are t.1 (Contains-map (role_component Predicate) g.triples t there),
        r.objects_are t.2 (Contains-map (role_component Object) g.triples t there),
      )) r.sections
