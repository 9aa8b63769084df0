-- The sections of groups, and the codes of their strings.
use Rattle.std.proofs.Common.{◌≡◌, ◌↔◌, ◌∙◌, ◌⊎◌, inl, inr, ℕ, ◌+◌, ◌/◌, ◌%◌, Bool, true, false, ◌&&◌, not, cond}
use Rattle.std.proofs.Common.{List, [], ◌∷◌, ◌++◌, length, get_or, refl, ap, sym, subst, arith}
use Rattle.std.specs.List.{All, AllByRecursion, Contains, filter}
use Rattle.std.specs.List.Sorted.{IsStrictlySortedBy}
use Rattle.std.proofs.lemmas.List.{get_or-map, get_or_default, length-map, map-append}
use Rattle.std.proofs.lemmas.List.Elements.{All-filter, All-map, filter-append}
use Rattle.hdt_wire.specs.declared.Role.{Role}
use Rattle.hdt_wire.specs.declared.Role.TheVariants.{Subject, Predicate, Object}
use Rattle.hdt_front.specs.Order.{IsAscending}
use Rattle.hdt_dict.specs.Dictionary.{SectionLists, role_strings}
use Rattle.hdt_dict.specs.Split.{IsSplit}
use Rattle.hdt_dict.specs.Strings.{IsDictionaryString}
use Rattle.hdt_dict.specs.Writing.{AreSections}
use Rattle.hdt_dict.specs.Laws.Split.{split_sections}
use Rattle.hdt_dict.specs.Laws.Members.{Contains-filter, Contains-from_filter, Contains-map, Contains-from_map}
use Rattle.hdt_build.specs.Inside.Groups.{lists_of_states, SectionStates}
use Rattle.hdt_build.specs.Inside.Rewriting.{IsIdOf}
use Rattle.hdt_build.specs.Inside.Groups.{AreFinished, AreGroups, AreRoleStrings, AreWritten, Group}
use Rattle.hdt_build.specs.Inside.Groups.{HasPassing, has_role, HaveCodes, id_in_role, id_of_code, IsGroup}
use Rattle.hdt_build.specs.Inside.Groups.{IsGroupWritten, IsNodeCode, IsPredicateId, joined_lists, lists_of_groups}
use Rattle.hdt_build.specs.Inside.Groups.{passing_texts, texts_of_groups}
use Rattle.hdt_build.proofs.Distinct.{Distinct-ascending}
use Rattle.hdt_build.proofs.RunMerging.{id_after, id_in_longer}

either : (b : Bool) → (b ≡ true) ⊎ (b ≡ false)
either true = inl refl
either false = inr refl

-- ---- one more group

passing_append : (test : Group → Bool) (gs hs : List Group)
    → passing_texts test (gs ++ hs) ≡ passing_texts test gs ++ passing_texts test hs
passing_append test gs hs = ap texts_of_groups (filter-append test gs hs)
    ∙ map-append (λ (g : Group). g.text) (filter test gs) (filter test hs)

lists_append : (gs hs : List Group)
    → lists_of_groups (gs ++ hs) ≡ joined_lists (lists_of_groups gs) (lists_of_groups hs)
lists_append gs hs =
    let a = passing_append (λ g. g.subject && g.object) gs hs in
    let b = passing_append (λ g. g.subject && not g.object) gs hs in
    let c = passing_append (λ g. g.predicate) gs hs in
    let d = passing_append (λ g. g.object && not g.subject) gs hs in
    cc

module _ (d e : SectionLists) where
  code_longer : (x : List ℕ) (s o : Bool) (code : ℕ) → IsNodeCode d x s o code
      → IsNodeCode (joined_lists d e) x s o code
  code_longer x true true code h = (h.0, id_in_longer d.shared e.shared x (code / 2) h.1)
  code_longer x true false code h = (h.0, id_in_longer d.subjects e.subjects x (code / 2) h.1)
  code_longer x false true code h = (h.0, id_in_longer d.objects e.objects x (code / 2) h.1)
  code_longer x false false code h = h

  id_longer : (x : List ℕ) (p : Bool) (id : ℕ) → IsPredicateId d x p id → IsPredicateId (joined_lists d e) x p id
  id_longer x true id h = id_in_longer d.predicates e.predicates x id h
  id_longer x false id h = h

  -- the codes are kept, and those of one more group follow
  codes_on : (g : Group) (code id : ℕ) → IsNodeCode (joined_lists d e) g.text g.subject g.object code
      → IsPredicateId (joined_lists d e) g.text g.predicate id → (gs : List Group) (numbers : List ℕ)
      → HaveCodes d gs numbers → HaveCodes (joined_lists d e) (gs ++ g ∷ []) (numbers ++ code ∷ id ∷ [])
  unfolding HaveCodes
  codes_on g code id c i [] numbers h =
      subst (λ (l : List ℕ). HaveCodes (joined_lists d e) (g ∷ []) (l ++ code ∷ id ∷ [])) (sym h) (c, i, refl)
  codes_on g code id c i (f ∷ gs) [] h = absurd h
  codes_on g code id c i (f ∷ gs) (a ∷ []) h = absurd h
  codes_on g code id c i (f ∷ gs) (a ∷ b ∷ numbers) h = (
    code_longer f.text f.subject f.object a h.0,
    id_longer f.text f.predicate b h.1,
    codes_on g code id c i gs numbers h.2,
  )

pub written_on : (n : ℕ) (old new : SectionStates) (gs : List Group) (numbers : List ℕ) (g : Group) (codes : ℕ × ℕ)
    → AreWritten n old gs numbers → IsGroupWritten g old new codes
    → AreWritten n new (gs ++ g ∷ []) (numbers ++ codes.0 ∷ codes.1 ∷ [])
written_on n old new gs numbers g codes h w = record {
  lists = w.lists ∙ (ap (λ (d : SectionLists). joined_lists d (lists_of_groups (g ∷ []))) h.lists
      ∙ sym (lists_append gs (g ∷ [])));
  codes = rw w.lists (codes_on (lists_of_states old) (lists_of_groups (g ∷ [])) g codes.0 codes.1
      (rw w.lists at w.code) (rw w.lists at w.id) gs numbers h.codes);
  blocks = w.blocks n h.blocks;
}

-- ---- the groups that pass a test

module _ (test : Group → Bool) where
  below : (P : List ℕ → Type 0) (gs : List Group) → AllByRecursion P (texts_of_groups gs)
      → AllByRecursion P (passing_texts test gs)
  below P [] h = h
  below P (g ∷ gs) h =
      elim (test g) as (λ (b : Bool). AllByRecursion P
      (texts_of_groups (cond b (g ∷ filter test gs) (filter test gs)))) [
        | true ↦ (h.0, below P gs h.1)
        | false ↦ below P gs h.1
      ]

  ascend : (gs : List Group) → IsAscending (texts_of_groups gs) → IsAscending (passing_texts test gs)
  unfolding IsStrictlySortedBy
  ascend [] h = h
  ascend (g ∷ gs) h =
      elim (test g) as (λ (b : Bool). IsAscending (texts_of_groups (cond b (g ∷ filter test gs) (filter test gs)))) [
        | true ↦ (below _ gs h.0, ascend gs h.1)
        | false ↦ ascend gs h.1
      ]

  from_passing : (gs : List Group) (x : List ℕ) → Contains (passing_texts test gs) x → HasPassing test gs x
  from_passing gs x there =
      let r = Contains-from_map (λ (g : Group). g.text) (filter test gs) x there in
      let k = Contains-from_filter test gs r.0 r.1 in
      (r.0, k.0, k.1, r.2)

  in_passing : (gs : List Group) (x : List ℕ) → HasPassing test gs x → Contains (passing_texts test gs) x
  in_passing gs x h = subst (Contains (passing_texts test gs)) h.3
      (Contains-map (λ (g : Group). g.text) (filter test gs) h.0 (Contains-filter test gs h.0 h.1 h.2))

-- groups with the same string are the same
same_group : (gs : List Group) → IsAscending (texts_of_groups gs) → (g h : Group) → Contains gs g → Contains gs h
    → g.text ≡ h.text → g ≡ h
same_group gs up g h a b same =
    let text : Group → List ℕ = λ (f : Group). f.text in
    let long = length-map gs text in
    let at_g : get_or (texts_of_groups gs) a.0 [] ≡ g.text = get_or-map text gs a.0 g [] a.1 ∙ ap text a.2 in
    let at_h : get_or (texts_of_groups gs) b.0 [] ≡ h.text = get_or-map text gs b.0 h [] b.1 ∙ ap text b.2 in
    let one = (Distinct-ascending (texts_of_groups gs) up).one in
    let at : a.0 ≡ b.0 = one a.0 b.0 (omega (arith, a.1)) (omega (arith, b.1)) (at_g ∙ (same ∙ sym at_h)) in
    sym a.2 ∙ (get_or_default gs a.0 g h a.1 ∙ (ap (λ (i : ℕ). get_or gs i h) at ∙ b.2))

and_parts : (a b : Bool) → (a && b) ≡ true → (a ≡ true) × (b ≡ true)
and_parts true b h = (refl, h)
and_parts false b h = absurd (cc)

not_both : (b : Bool) → not b ≡ true → b ≡ true → ⊥
not_both b h same = let e = ap not same in absurd (cc)

module _ (p q : Group → Bool) (gs : List Group) (up : IsAscending (texts_of_groups gs)) (x : List ℕ) where
  meet : (a : HasPassing p gs x) (b : HasPassing q gs x) → q a.0 ≡ true
  meet a b = subst (λ (g : Group). q g ≡ true) (same_group gs up b.0 a.0 b.1 a.1 (b.3 ∙ sym a.3)) b.2

  both : Contains (passing_texts (λ g. p g && q g) gs) x ↔ (HasPassing p gs x × HasPassing q gs x)
  both = (
    λ there. let m = from_passing (λ g. p g && q g) gs x there in
        let parts = and_parts (p m.0) (q m.0) m.2 in
        ((m.0, m.1, parts.0, m.3), (m.0, m.1, parts.1, m.3)),
    λ h. let on = meet h.0 h.1 in
        let one = h.0.2 in
        in_passing (λ g. p g && q g) gs x (h.0.0, h.0.1, rw (one, on) refl, h.0.3),
  )

  only : Contains (passing_texts (λ g. p g && not (q g)) gs) x ↔ (HasPassing p gs x × (HasPassing q gs x → ⊥))
  only = (
    λ there. let m = from_passing (λ g. p g && not (q g)) gs x there in
        let parts = and_parts (p m.0) (not (q m.0)) m.2 in
        ((m.0, m.1, parts.0, m.3), λ other. not_both (q m.0) parts.1 (meet (m.0, m.1, parts.0, m.3) other)),
    λ h. let g : Group = h.0.0 in
        elim (either (q g)) [
          | inl on ↦ absurd (h.1 (g, h.0.1, on, h.0.3))
          | inr off ↦ let one = h.0.2 in
              in_passing (λ g. p g && not (q g)) gs x (g, h.0.1, rw (one, off) refl, h.0.3)
        ],
  )

split : (gs : List Group) → IsAscending (texts_of_groups gs) → (ss ps os : List (List ℕ))
    → AreRoleStrings gs Subject ss → AreRoleStrings gs Predicate ps → AreRoleStrings gs Object os
    → IsSplit ss ps os (lists_of_groups gs)
split gs up ss ps os s p o = record {
  shared_ascend = ascend (λ g. g.subject && g.object) gs up;
  subjects_ascend = ascend (λ g. g.subject && not g.object) gs up;
  predicates_ascend = ascend (λ g. g.predicate) gs up;
  objects_ascend = ascend (λ g. g.object && not g.subject) gs up;
  shared = λ x. let t = both (has_role Subject) (has_role Object) gs up x in (
    λ there. ((s x).0 (t.0 there).0, (o x).0 (t.0 there).1),
    λ h. t.1 ((s x).1 h.0, (o x).1 h.1),
  );
  subjects = λ x. let t = only (has_role Subject) (has_role Object) gs up x in (
    λ there. ((s x).0 (t.0 there).0, λ other. (t.0 there).1 ((o x).1 other)),
    λ h. t.1 ((s x).1 h.0, λ other. h.1 ((o x).0 other)),
  );
  predicates = λ x. (
    λ there. (p x).0 (from_passing (has_role Predicate) gs x there),
    λ h. in_passing (has_role Predicate) gs x ((p x).1 h),
  );
  objects = λ x. let t = only (has_role Object) (has_role Subject) gs up x in (
    λ there. ((o x).0 (t.0 there).0, λ other. (t.0 there).1 ((s x).1 other)),
    λ h. t.1 ((o x).1 h.0, λ other. h.1 ((s x).0 other)),
  );
}

-- the strings of the groups of a role
role_texts : (gs : List Group) (role : Role) → AreRoleStrings gs role (passing_texts (has_role role) gs)
role_texts gs role x = (in_passing (has_role role) gs x, from_passing (has_role role) gs x)

passing_valid : (gs : List Group) → All IsGroup gs → (test : Group → Bool)
    → All IsDictionaryString (passing_texts test gs)
passing_valid gs h test = All-map IsDictionaryString (λ (g : Group). g.text) (filter test gs)
    (λ k d lt. (All-filter test IsGroup gs h k d lt).valid)

pub finished : (n : ℕ) (sections : SectionStates) (gs : List Group) (numbers : List ℕ)
    → AreWritten n sections gs numbers → AreGroups gs → AreFinished n sections gs numbers
finished n sections gs numbers w h = record {
  groups = h;
  written = w;
  valid = subst AreSections (sym w.lists) (split_sections _ _ _ (lists_of_groups gs)
      (split gs h.ascend _ _ _ (role_texts gs Subject) (role_texts gs Predicate) (role_texts gs Object))
      (passing_valid gs h.each (has_role Subject)) (passing_valid gs h.each (has_role Predicate))
      (passing_valid gs h.each (has_role Object)));
  split = λ ss ps os s p o. subst (IsSplit ss ps os) (sym w.lists) (split gs h.ascend ss ps os s p o);
}

-- ---- the IDs of a role

module _ (d : SectionLists) (x : List ℕ) (code : ℕ) where
  shared_id : (ys : List (List ℕ)) → (code % 2 ≡ 0) × IsIdOf d.shared x (code / 2)
      → IsIdOf (d.shared ++ ys) x (id_of_code (length d.shared) code)
  shared_id ys h = rw h.0 (id_in_longer d.shared ys x (code / 2) h.1)

  other_id : (ys : List (List ℕ)) → (code % 2 ≡ 1) × IsIdOf ys x (code / 2)
      → IsIdOf (d.shared ++ ys) x (id_of_code (length d.shared) code)
  other_id ys h = rw h.0 (id_after d.shared ys x (code / 2 + length d.shared)
      (record { id = code / 2; is_id = h.1; value = omega arith }))

  subject_id : (o : Bool) → IsNodeCode d x true o code
      → IsIdOf (role_strings d Subject) x (id_of_code (length d.shared) code)
  subject_id true h = shared_id d.subjects h
  subject_id false h = other_id d.subjects h

  object_id : (s : Bool) → IsNodeCode d x s true code
      → IsIdOf (role_strings d Object) x (id_of_code (length d.shared) code)
  object_id true h = shared_id d.objects h
  object_id false h = other_id d.objects h

-- the ID of a role that a group has
pub role_id : (d : SectionLists) (g : Group) (code id : ℕ) → IsNodeCode d g.text g.subject g.object code
    → IsPredicateId d g.text g.predicate id → (role : Role) → has_role role g ≡ true
    → IsIdOf (role_strings d role) g.text (id_in_role role (length d.shared) code id)
role_id d g code id c p Subject on = subject_id d g.text code g.object
    (subst (λ (b : Bool). IsNodeCode d g.text b g.object code) on c)
role_id d g code id c p Predicate on = subst (λ (b : Bool). IsPredicateId d g.text b id) on p
role_id d g code id c p Object on = object_id d g.text code g.subject
    (subst (λ (b : Bool). IsNodeCode d g.text g.subject b code) on c)
