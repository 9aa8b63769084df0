-- The sections of triples, and the IDs of their strings.
use Rattle.std.proofs.Common.{◌≡◌, ◌↔◌, ◌∙◌, inl, inr, ℕ, ◌<◌, Bool, true, false, List, [], ◌++◌, map, length, get_or}
use Rattle.std.proofs.Common.{refl, ap, sym, subst, arith}
use Rattle.std.specs.List.{All, Contains}
use Rattle.std.proofs.lemmas.List.Elements.{All-contains}
use Rattle.hdt_wire.specs.declared.Role.{Role}
use Rattle.hdt_wire.specs.declared.Role.TheVariants.{Subject, Predicate, Object}
use Rattle.hdt_dict.specs.Laws.Members.{Contains-map, Contains-from_map}
use Rattle.hdt_dict.specs.Split.{IsSplit}
use Rattle.hdt_front.specs.Order.{IsAscending}
use Rattle.hdt_dict.specs.Strings.{IsDictionaryString}
use Rattle.hdt_triples.specs.TripleSequences.{Triple}
use Rattle.hdt_triples.specs.Uses.{AreUseFlags, role_component, Uses}
use Rattle.hdt_build.specs.Inside.Collecting.{AreBelow}
use Rattle.hdt_build.specs.Graph.{subjects_of, predicates_of, objects_of, string_triple_at, string_triples_of}
use Rattle.hdt_build.specs.Inside.Rewriting.{IsIdOf}
use Rattle.hdt_build.specs.Inside.Filtering.{flag_at, HaveIds, HaveTexts, AreSectionsOf, IsFilteredSection, IsInFilter}
use Rattle.hdt_build.specs.Reading.{HasDictionaryStrings}
use Rattle.hdt_build.proofs.Distinct.{Distinct-ascending}
use Rattle.hdt_build.proofs.SectionFilling.{flag_before}
use Rattle.hdt_build.proofs.RunMerging.{id_in_longer, id_after, has_id}
use Rattle.hdt_build.proofs.DocumentReading.{either}

module _ (xs : List (List ℕ)) (ids : List Triple) where
  -- ---- the indices that triples use in a role, and the strings of their graph in it

  part_at : (role : Role) (t : Triple)
      → role_component role (string_triple_at xs t) ≡ get_or xs (role_component role t) []
  part_at Subject t = refl
  part_at Predicate t = refl
  part_at Object t = refl

  named : (role : Role) (x : List ℕ) (k : ℕ) → Uses ids role k → get_or xs k [] ≡ x
      → Contains (map (role_component role) (string_triples_of xs ids)) x
  named role x k used is =
      let t = Contains-from_map (role_component role) ids k used in
      subst (Contains (map (role_component role) (string_triples_of xs ids))) (part_at role t.0
      ∙ (ap (λ (n : ℕ). get_or xs n []) t.2 ∙ is))
      (Contains-map (role_component role) (string_triples_of xs ids) (string_triple_at xs t.0)
      (Contains-map (string_triple_at xs) ids t.0 t.1))

  placed : (role : Role) (x : List ℕ) → Contains (map (role_component role) (string_triples_of xs ids)) x
      → (k : ℕ) × Uses ids role k × (get_or xs k [] ≡ x)
  placed role x there =
      let s = Contains-from_map (role_component role) (string_triples_of xs ids) x there in
      let t = Contains-from_map (string_triple_at xs) ids s.0 s.1 in (
        role_component role t.0,
        Contains-map (role_component role) ids t.0 t.1,
        sym (part_at role t.0)
            ∙ (ap (role_component role) t.2 ∙ s.2),
      )

  role_texts : HasDictionaryStrings (string_triples_of xs ids) → (role : Role)
      → All IsDictionaryString (map (role_component role) (string_triples_of xs ids))
  role_texts h Subject = h.subjects_are
  role_texts h Predicate = h.predicates_are
  role_texts h Object = h.objects_are

  pub have_texts : HasDictionaryStrings (string_triples_of xs ids) → (role : Role) (flags : List Bool)
      → AreUseFlags ids role flags → HaveTexts xs flags
  have_texts h role flags u k on =
      (All-contains IsDictionaryString (map (role_component role) (string_triples_of xs ids)) (get_or xs k [])
      (role_texts h role) (named role (get_or xs k []) k ((u k (flag_before flags k on)).0 on) refl)).no_zero

  role_within : AreBelow (length xs) ids → (role : Role) → All (λ t. role_component role t < length xs) ids
  role_within h Subject = h.subjects
  role_within h Predicate = h.predicates
  role_within h Object = h.objects

  module _ (up : IsAscending xs) (within : AreBelow (length xs) ids) where
    used_within : (role : Role) (k : ℕ) → Uses ids role k → k < length xs
    used_within role k used = let t = Contains-from_map (role_component role) ids k used in
        subst (λ (n : ℕ). n < length xs) t.2
        (All-contains (λ t. role_component role t < length xs) ids t.0 (role_within within role) t.1)

    -- a string that is used in two roles has one index
    meet : (a b : Role) (n m : ℕ) → Uses ids a n → Uses ids b m → get_or xs n [] ≡ get_or xs m [] → n ≡ m
    meet a b n m u v same = (Distinct-ascending xs up).one n m (used_within a n u) (used_within b m v) same

    -- the flags are true exactly at the indices that triples use in the role
    abbrev MarkUses : Role → List Bool → Type 0
    MarkUses role flags = (k : ℕ) → (flag_at flags k ≡ true) ↔ Uses ids role k

    pub mark_uses : (role : Role) (flags : List Bool) → length flags ≡ length xs → AreUseFlags ids role flags
        → MarkUses role flags
    mark_uses role flags long u k =
        (λ on. (u k (flag_before flags k on)).0 on, λ used. (u k (omega (arith, used_within role k used, long))).1 used)

    module _ (s p o : List Bool) (us : MarkUses Subject s) (up' : MarkUses Predicate p) (uo : MarkUses Object o) where
      off : (role : Role) (flags : List Bool) → MarkUses role flags → (k : ℕ) → flag_at flags k ≡ false
          → Uses ids role k → ⊥
      off role flags u k no' used = let e = (u k).1 used in absurd cc

      module _ (sh su pr ob : List (List ℕ)) (n0 n1 n2 n3 m0 m1 : List ℕ)
          (a : IsFilteredSection xs (IsInFilter s o true) 0 sh n0 n1)
          (b : IsFilteredSection xs (IsInFilter s o false) (length sh) su n1 n2)
          (c : IsFilteredSection xs (IsInFilter p p true) 0 pr m0 m1)
          (e : IsFilteredSection xs (IsInFilter o s false) (length sh) ob n2 n3) where
        is_split : IsSplit (subjects_of (string_triples_of xs ids)) (predicates_of (string_triples_of xs ids))
            (objects_of (string_triples_of xs ids))
            (record { shared = sh; subjects = su; predicates = pr; objects = ob })
        is_split = record {
          shared_ascend = a.ascend;
          subjects_ascend = b.ascend;
          predicates_ascend = c.ascend;
          objects_ascend = e.ascend;
          shared = λ x. (
            λ there. let r = a.each x there in
                (named Subject x r.0 ((us r.0).0 r.1.0) r.2, named Object x r.0 ((uo r.0).0 r.1.1) r.2),
            λ both. let n = placed Subject x both.0 in
                let m = placed Object x both.1 in
                let one = meet Subject Object n.0 m.0 n.1 m.1 (n.2 ∙ sym m.2) in
                has_id (a.ids n.0 ((us n.0).1 n.1, subst (λ (k : ℕ). flag_at o k ≡ true) (sym one) ((uo m.0).1 m.1)))
                n.2,
          );
          subjects = λ x. (
            λ there. let r = b.each x there in (
              named Subject x r.0 ((us r.0).0 r.1.0) r.2,
              λ other. let m = placed Object x other in
                  off Object o uo r.0 r.1.1
                  (subst (Uses ids Object) (sym
                  (meet Subject Object r.0 m.0 ((us r.0).0 r.1.0) m.1 (r.2 ∙ sym m.2))) m.1),
            ),
            λ own. let n = placed Subject x own.0 in
                elim (either (flag_at o n.0)) [
                  | inl on ↦ absurd (own.1 (named Object x n.0 ((uo n.0).0 on) n.2))
                  | inr alone ↦ has_id (b.ids n.0 ((us n.0).1 n.1, alone)) n.2
                ],
          );
          predicates = λ x. (
            λ there. let r = c.each x there in named Predicate x r.0 ((up' r.0).0 r.1.0) r.2,
            λ there. let n = placed Predicate x there in let on = (up' n.0).1 n.1 in has_id (c.ids n.0 (on, on)) n.2,
          );
          objects = λ x. (
            λ there. let r = e.each x there in (
              named Object x r.0 ((uo r.0).0 r.1.0) r.2,
              λ other. let n = placed Subject x other in
                  off Subject s us r.0 r.1.1
                  (subst (Uses ids Subject)
                  (sym (meet Object Subject r.0 n.0 ((uo r.0).0 r.1.0) n.1 (r.2 ∙ sym n.2))) n.1),
            ),
            λ own. let m = placed Object x own.0 in
                elim (either (flag_at s m.0)) [
                  | inl on ↦ absurd (own.1 (named Subject x m.0 ((us m.0).0 on) m.2))
                  | inr alone ↦ has_id (e.ids m.0 ((uo m.0).1 m.1, alone)) m.2
                ],
          );
        }

        -- writing the other sections leaves the ID of a shared string unchanged
        shared_number : (k : ℕ) → flag_at s k ≡ true → flag_at o k ≡ true → (back : List (List ℕ))
            → IsIdOf (sh ++ back) (get_or xs k []) (get_or n3 k 0)
        shared_number k on both back =
            let same : get_or n3 k 0 ≡ get_or n1 k 0 = e.others k (λ keep. let f = keep.1 in absurd cc)
            ∙ b.others k (λ keep. let f = keep.1 in absurd cc) in
            subst (IsIdOf (sh ++ back) (get_or xs k [])) (sym same)
            (id_in_longer sh back (get_or xs k []) (get_or n1 k 0)
            (id_after [] sh (get_or xs k []) (get_or n1 k 0) (a.ids k (on, both))))

        subject_number : HaveIds xs ids Subject (sh ++ su) n3
        subject_number k used =
            let on = (us k).1 used in
            elim (either (flag_at o k)) [
              | inl both ↦ shared_number k on both su
              | inr alone ↦ subst (IsIdOf (sh ++ su) (get_or xs k []))
                  (sym (e.others k (λ keep. let f = keep.1 in absurd cc)))
                  (id_after sh su (get_or xs k []) (get_or n2 k 0) (b.ids k (on, alone)))
            ]

        object_number : HaveIds xs ids Object (sh ++ ob) n3
        object_number k used =
            let on = (uo k).1 used in
            elim (either (flag_at s k)) [
              | inl both ↦ shared_number k both on ob
              | inr alone ↦ id_after sh ob (get_or xs k []) (get_or n3 k 0) (e.ids k (on, alone))
            ]

        pub are_parts : length n0 ≡ length xs → length m0 ≡ length xs
            → AreSectionsOf xs ids (record { shared = sh; subjects = su; predicates = pr; objects = ob }) n3 m1
        are_parts nodes names = record {
          sections = is_split;
          subjects_are = subject_number;
          predicates_are = λ k used. let on = (up' k).1 used in
              id_after [] pr (get_or xs k []) (get_or m1 k 0) (c.ids k (on, on));
          objects_are = object_number;
          nodes_long = e.long ∙ (b.long ∙ (a.long ∙ nodes));
          predicates_long = c.long ∙ names;
        }
