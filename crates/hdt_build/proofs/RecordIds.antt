-- The IDs that are dealt to a run are those of its records.
use Rattle.std.proofs.Common.{◌≡◌, ◌∙◌, ℕ, zero, suc, ◌<◌, ◌/◌, ◌%◌, Bool, true, false, List, [], ◌∷◌, ◌++◌, cond}
use Rattle.std.proofs.Common.{nat_eq}
use Rattle.std.proofs.Common.{Option, Some, None, inl, inr, map, length, length-append, take, ◌+◌, get_or, refl, ap}
use Rattle.std.proofs.Common.{sym, subst, arith}
use Rattle.std.specs.List.{Contains}
use Rattle.std.proofs.Math.Seq.{take-append_seam}
use Rattle.std.proofs.lemmas.List.{get_or-append-add, get_or-map, get_or_default, length-map}
use Rattle.std.proofs.lemmas.List.Elements.{Contains-get_or}
use Rattle.hdt_wire.specs.declared.Role.{Role}
use Rattle.hdt_wire.specs.declared.Role.TheVariants.{Subject, Predicate, Object}
use Rattle.hdt_dict.specs.Dictionary.{SectionLists, role_strings}
use Rattle.hdt_dict.specs.Laws.Members.{Contains-here, Contains-later, Contains-cons_cases, Contains-nil}
use Rattle.hdt_build.specs.Inside.Events.{advanced, dealt, id_of_codes, made_of, pairs_of}
use Rattle.hdt_build.specs.Inside.Groups.{AreGroups, Group, has_role, HaveCodes, id_in_role, IsNodeCode, IsPredicateId}
use Rattle.hdt_build.specs.Inside.Groups.{texts_of_groups}
use Rattle.hdt_build.specs.Inside.RecordMerging.{AreGroupsOf, AreMergedRecords}
use Rattle.hdt_build.specs.Inside.Records.{AreRecordRuns, record_of, record_with, role_code}
use Rattle.hdt_build.specs.Inside.Groups.{lists_of_states, SectionStates}
use Rattle.hdt_build.specs.Inside.Rewriting.{IsIdOf}
use Rattle.hdt_build.proofs.Distinct.{Distinct-ascending}
use Rattle.hdt_build.proofs.Groups.{role_id}
use Rattle.hdt_build.proofs.RecordMerging.{in_joined}

-- ---- dealing

module _ {X Z Y : Type 0} (k : Z → X) (f : ℕ → X → Y) where
  abbrev option : Option Z → Option X
  option None = None
  option (Some z) = Some (k z)

  abbrev over : ℕ → Z → Y
  over r z = f r (k z)

  made_over : (r : ℕ) (x : Option Z) → made_of f r (option x) ≡ made_of over r x
  unfolding made_of
  made_over r None = refl
  made_over r (Some z) = refl

  advanced_over : (n : ℕ) (x : Option Z) (xs : List Z)
      → advanced n (option x) (map k xs) ≡ (option (advanced n x xs).0, map k (advanced n x xs).1)
  unfolding advanced
  advanced_over zero x xs = refl
  advanced_over (suc n) x [] = refl
  advanced_over (suc n) x (y ∷ ys) = refl

  pub dealt_over : (b : ℕ) (x : Option Z) (xs : List Z) (es : List ℕ)
      → dealt f b (option x) (map k xs) es ≡ dealt over b x xs es
  unfolding dealt
  dealt_over b x xs [] = refl
  dealt_over b x xs (n ∷ []) = refl
  dealt_over b x xs (n ∷ r ∷ es) =
      ap (λ (a : Option X × List X). cond (nat_eq (r / 4) b) (made_of f (r % 4) a.0) [] ++ dealt f b a.0 a.1 es)
      (advanced_over n x xs)
      ∙ (λ i. cond (nat_eq (r / 4) b) (made_over (r % 4) (advanced n x xs).0 i) []
      ++ dealt_over b (advanced n x xs).0 (advanced n x xs).1 es i)

-- what two functions make of one dealt element
pub record IsMadeOf {X Y W : Type 0} (f : ℕ → X → Y) (g : ℕ → X → W) (from : List X) (y : Y) (w : W) : Type 0 where
  pub role : ℕ
  pub element : X
  pub there : Contains from element
  pub one : y ≡ f role element
  pub two : w ≡ g role element

module _ {X Y W : Type 0} (f : ℕ → X → Y) (g : ℕ → X → W) (d : Y) (e : W) where
  abbrev current : Option X → List X
  current None = []
  current (Some x) = x ∷ []

  first_made : (from : List X) (own : Bool) (r : ℕ) (c : Option X)
      → ((x : X) → Contains (current c) x → Contains from x) → (ys : List Y) (ws : List W)
      → ((j : ℕ) → j < length ys → IsMadeOf f g from (get_or ys j d) (get_or ws j e))
      → (i : ℕ) → i < length (cond own (made_of f r c) [] ++ ys)
      → IsMadeOf f g from (get_or (cond own (made_of f r c) [] ++ ys) i d)
      (get_or (cond own (made_of g r c) [] ++ ws) i e)
  unfolding made_of
  first_made from false r c sub ys ws rest i lt = rest i lt
  first_made from true r None sub ys ws rest i lt = rest i lt
  first_made from true r (Some x) sub ys ws rest zero lt =
      record { role = r; element = x; there = sub x (Contains-here x []); one = refl; two = refl }
  first_made from true r (Some x) sub ys ws rest (suc j) lt = rest j (omega (arith, lt))

  now_within : (n : ℕ) (x : Option X) (xs : List X) (from : List X)
      → ((z : X) → Contains (current x) z → Contains from z) → ((z : X) → Contains xs z → Contains from z)
      → (z : X) → Contains (current (advanced n x xs).0) z → Contains from z
  unfolding advanced
  now_within zero x xs from a b z h = a z h
  now_within (suc n) x [] from a b z h = absurd (Contains-nil z h)
  now_within (suc n) x (y ∷ ys) from a b z h = elim (Contains-cons_cases y z [] h) [
    | inl same ↦ b z (subst (λ (u : X). Contains (y ∷ ys) u) same (Contains-here y ys))
    | inr none ↦ absurd (Contains-nil z none)
  ]

  later_within : (n : ℕ) (x : Option X) (xs : List X) (from : List X) → ((z : X) → Contains xs z → Contains from z)
      → (z : X) → Contains (advanced n x xs).1 z → Contains from z
  unfolding advanced
  later_within zero x xs from b z h = b z h
  later_within (suc n) x [] from b z h = b z h
  later_within (suc n) x (y ∷ ys) from b z h = b z (Contains-later y z ys h)

  pub dealt_at : (from : List X) (b : ℕ) (x : Option X) (xs : List X) (es : List ℕ)
      → ((z : X) → Contains (current x) z → Contains from z) → ((z : X) → Contains xs z → Contains from z)
      → (i : ℕ) → i < length (dealt f b x xs es)
      → IsMadeOf f g from (get_or (dealt f b x xs es) i d) (get_or (dealt g b x xs es) i e)
  unfolding dealt
  dealt_at from b x xs [] now later i lt = absurd (omega (arith, lt))
  dealt_at from b x xs (n ∷ []) now later i lt = absurd (omega (arith, lt))
  dealt_at from b x xs (n ∷ r ∷ es) now later i lt =
      let a = advanced n x xs in
      let here = now_within n x xs from now later in
      first_made from (nat_eq (r / 4) b) (r % 4) a.0 here (dealt f b a.0 a.1 es) (dealt g b a.0 a.1 es)
      (dealt_at from b a.0 a.1 es here (later_within n x xs from later)) i lt

-- two functions make equally many elements
module _ {X Y W : Type 0} (f : ℕ → X → Y) (g : ℕ → X → W) where
  first_long : (own : Bool) (r : ℕ) (c : Option X)
      → length (cond own (made_of f r c) []) ≡ length (cond own (made_of g r c) [])
  unfolding made_of
  first_long false r c = refl
  first_long true r None = refl
  first_long true r (Some x) = refl

  dealt_long : (b : ℕ) (x : Option X) (xs : List X) (es : List ℕ)
      → length (dealt f b x xs es) ≡ length (dealt g b x xs es)
  unfolding dealt
  dealt_long b x xs [] = refl
  dealt_long b x xs (n ∷ []) = refl
  dealt_long b x xs (n ∷ r ∷ es) =
      let a = advanced n x xs in
      let own = nat_eq (r / 4) b in
      let one = cond own (made_of f (r % 4) a.0) [] in
      let two = cond own (made_of g (r % 4) a.0) [] in
      omega (
        arith,
        length-append one (dealt f b a.0 a.1 es),
        length-append two (dealt g b a.0 a.1 es),
        first_long own (r % 4) a.0,
        dealt_long b a.0 a.1 es,
      )

-- ---- groups with their codes

abbrev Coded : Type 0
Coded = Group × (ℕ × ℕ)

coded : List Group → List ℕ → List Coded
coded [] numbers = []
coded (g ∷ gs) [] = []
coded (g ∷ gs) (code ∷ []) = []
coded (g ∷ gs) (code ∷ id ∷ numbers) = (g, (code, id)) ∷ coded gs numbers

coded_texts : (d : SectionLists) (gs : List Group) (numbers : List ℕ) → HaveCodes d gs numbers
    → map (λ (z : Coded). z.0.text) (coded gs numbers) ≡ texts_of_groups gs
unfolding HaveCodes coded
coded_texts d [] numbers h = refl
coded_texts d (g ∷ gs) [] h = absurd h
coded_texts d (g ∷ gs) (code ∷ []) h = absurd h
coded_texts d (g ∷ gs) (code ∷ id ∷ numbers) h =
    ap (λ (l : List (List ℕ)). g.text ∷ l) (coded_texts d gs numbers h.2)

coded_pairs : (d : SectionLists) (gs : List Group) (numbers : List ℕ) → HaveCodes d gs numbers
    → map (λ (z : Coded). z.1) (coded gs numbers) ≡ pairs_of numbers
unfolding HaveCodes pairs_of coded
coded_pairs d [] numbers h = rw h refl
coded_pairs d (g ∷ gs) [] h = absurd h
coded_pairs d (g ∷ gs) (code ∷ []) h = absurd h
coded_pairs d (g ∷ gs) (code ∷ id ∷ numbers) h =
    ap (λ (l : List (ℕ × ℕ)). (code, id) ∷ l) (coded_pairs d gs numbers h.2)

abbrev IsCoded : SectionLists → List Group → Coded → Type 0
IsCoded d gs z = Contains gs z.0 × IsNodeCode d z.0.text z.0.subject z.0.object z.1.0
    × IsPredicateId d z.0.text z.0.predicate z.1.1

coded_each : (d : SectionLists) (gs : List Group) (numbers : List ℕ) → HaveCodes d gs numbers → (z : Coded)
    → Contains (coded gs numbers) z → IsCoded d gs z
unfolding HaveCodes coded
coded_each d [] numbers h z there = absurd (Contains-nil z there)
coded_each d (g ∷ gs) [] h z there = absurd h
coded_each d (g ∷ gs) (code ∷ []) h z there = absurd h
coded_each d (g ∷ gs) (code ∷ id ∷ numbers) h z there = elim (Contains-cons_cases (g, (code, id)) z
    (coded gs numbers) there) [
      | inl same ↦ subst (IsCoded d (g ∷ gs)) same (Contains-here g gs, h.0, h.1)
      | inr later ↦ let r = coded_each d gs numbers h.2 z later in (Contains-later g z.0 gs r.0, r.1, r.2)
    ]

-- ---- the IDs of records

role_numbered : (shared : ℕ) (role : Role) (codes : ℕ × ℕ)
    → id_of_codes shared (role_code role) codes ≡ id_in_role role shared codes.0 codes.1
unfolding id_of_codes
role_numbered shared Subject codes = refl
role_numbered shared Predicate codes = refl
role_numbered shared Object codes = refl

same_group : (gs : List Group) → AreGroups gs → (g h : Group) → Contains gs g → Contains gs h → g.text ≡ h.text → g ≡ h
same_group gs are g h a b same =
    let text : Group → List ℕ = λ k. k.text in
    let long = length-map gs text in
    let e = get_or-map text gs a.0 g [] a.1 ∙ (ap text a.2 ∙ (same ∙ (sym (ap text b.2)
    ∙ sym (get_or-map text gs b.0 h [] b.1)))) in
    let i = (Distinct-ascending (texts_of_groups gs) are.ascend).one a.0 b.0 (omega (arith, a.1, long))
    (omega (arith, b.1, long)) e in
    sym a.2 ∙ (ap (λ (k : ℕ). get_or gs k g) i ∙ (get_or_default gs b.0 g h b.1 ∙ b.2))

record_parts : (x y : List ℕ) (a b : ℕ) → record_with a x ≡ record_with b y → (x ≡ y) × (a ≡ b)
record_parts x y a b e =
    let long = ap length e in
    let m = length-append x (0 ∷ a ∷ []) in
    let n = length-append y (0 ∷ b ∷ []) in
    let same : length x ≡ length y = omega (arith, long, m, n) in (
      sym (take-append_seam x (0 ∷ a ∷ [])) ∙ (ap (take (length x)) e
          ∙ (ap (λ (k : ℕ). take k (record_with b y)) same ∙ take-append_seam y (0 ∷ b ∷ []))),
      sym (get_or-append-add x (0 ∷ a ∷ []) 1 0) ∙ (ap (λ (l : List ℕ). get_or l (length x + 1) 0) e
          ∙ (ap (λ (k : ℕ). get_or (record_with b y) (k + 1) 0) same ∙ get_or-append-add y (0 ∷ b ∷ []) 1 0)),
    )

module _ (known : Type 0) (n : ℕ) (runs : List (List (List ℕ))) (sections : SectionStates) (numbers events : List ℕ)
    (m : AreMergedRecords known n runs sections numbers events) (k : known) (records : AreRecordRuns runs) where
  abbrev d : SectionLists
  d = lists_of_states sections

  abbrev of_groups : AreGroupsOf runs m.groups events
  of_groups = m.groups_are k records

  have : HaveCodes d m.groups m.codes
  have = m.finished.written.codes

  -- what run b is given
  abbrev pub dealt_ids : ℕ → List ℕ
  dealt_ids b = dealt (id_of_codes (length d.shared)) b None (pairs_of numbers) events

  abbrev from : List Coded
  from = coded m.groups m.codes

  texts_dealt : (b : ℕ) → b < length runs
      → get_or runs b [] ≡ dealt (λ r (z : Coded). record_with r z.0.text) b None from events
  texts_dealt b lt =
      of_groups.each b lt
      ∙ (ap (λ (l : List (List ℕ)). dealt record_with b None l events) (sym (coded_texts d m.groups m.codes have))
      ∙ dealt_over (λ (z : Coded). z.0.text) record_with b None from events)

  ids_dealt : (b : ℕ)
      → dealt_ids b ≡ dealt (λ r (z : Coded). id_of_codes (length d.shared) r z.1) b None from events
  ids_dealt b =
      ap (λ (l : List (ℕ × ℕ)). dealt (id_of_codes (length d.shared)) b None l events)
      (ap pairs_of (sym (m.codes_are k records)) ∙ sym (coded_pairs d m.groups m.codes have))
      ∙ dealt_over (λ (z : Coded). z.1) (id_of_codes (length d.shared)) b None from events

  pub record_count : (b : ℕ) → b < length runs → length (dealt_ids b) ≡ length (get_or runs b [])
  record_count b lt =
      ap length (ids_dealt b)
      ∙ (dealt_long (λ r (z : Coded). id_of_codes (length d.shared) r z.1)
      (λ r (z : Coded). record_with r z.0.text) b None from events
      ∙ sym (ap length (texts_dealt b lt)))

  pub record_id : (b i : ℕ) → b < length runs → i < length (get_or runs b []) → (role : Role) (x : List ℕ)
      → get_or (get_or runs b []) i [] ≡ record_of role x → IsIdOf (role_strings d role) x (get_or (dealt_ids b) i 0)
  record_id b i lt in' role x is =
      let e = texts_dealt b lt in
      let at = dealt_at (λ r (z : Coded). record_with r z.0.text)
      (λ r (z : Coded). id_of_codes (length d.shared) r z.1) [] 0
      from b None from events (λ z h. absurd (Contains-nil z h)) (λ z h. h) i
      (subst (λ (l : List (List ℕ)). i < length l) e in') in
      let z = at.element in
      let c = coded_each d m.groups m.codes have z at.there in
      let parts = record_parts x z.0.text (role_code role) at.role
      (sym is ∙ (ap (λ (l : List (List ℕ)). get_or l i []) e ∙ at.one)) in
      let inside = in_joined runs b [] (record_of role x) lt
      (subst (Contains (get_or runs b [])) is (Contains-get_or (get_or runs b []) i [] in')) in
      let had = (of_groups.roles role x).1 inside in
      let same = same_group m.groups m.finished.groups had.0 z.0 had.1 c.0 (had.3 ∙ parts.0) in
      let on : has_role role z.0 ≡ true = subst (λ (g : Group). has_role role g ≡ true) same had.2 in
      let id : get_or (dealt_ids b) i 0 ≡ id_in_role role (length d.shared) z.1.0 z.1.1 =
      ap (λ (l : List ℕ). get_or l i 0) (ids_dealt b)
      ∙ (at.two ∙ (ap (λ (r : ℕ). id_of_codes (length d.shared) r z.1) (sym parts.1)
      ∙ role_numbered (length d.shared) role z.1)) in
      subst (λ (y : List ℕ). IsIdOf (role_strings d role) y (get_or (dealt_ids b) i 0)) (sym parts.0)
      (subst (IsIdOf (role_strings d role) z.0.text) (sym id) (role_id d z.0 z.1.0 z.1.1 c.1 c.2 role on))
