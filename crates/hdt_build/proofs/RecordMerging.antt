-- Merging runs of records: one record after another becomes a group, or a role of the last one.
use Rattle.std.proofs.Common.{◌≡◌, ◌↔◌, ◌∙◌, ◌⊎◌, inl, inr, ℕ, zero, suc, ◌+◌, ◌<◌, ◌/◌, ◌%◌, Bool, true, false, List}
use Rattle.std.proofs.Common.{[], ◌∷◌, ◌++◌, cond}
use Rattle.std.proofs.Common.{length, get_or, set, drop, Option, Some, None, nat_eq, refl, ap, sym, subst}
use Rattle.std.proofs.Common.{append_assoc, append-nil, arith}
use Rattle.std.specs.List.{Contains}
use Rattle.std.proofs.lemmas.Bool.Decides.{nat_tests}
use Rattle.std.proofs.lemmas.List.{get_or-set_other, get_or-set_same, length-set, map-append}
use Rattle.std.proofs.lemmas.List.Elements.{All-contains, Contains-append_cases, Contains-append_left}
use Rattle.std.proofs.lemmas.List.Elements.{Contains-append_right}
use Rattle.hdt_wire.specs.declared.Role.{Role}
use Rattle.hdt_wire.specs.declared.Role.TheVariants.{Subject, Predicate, Object}
use Rattle.hdt_dict.specs.Laws.Members.{Contains-cons_cases, Contains-here, Contains-nil}
use Rattle.hdt_build.specs.Inside.Events.{advanced, dealt, latest}
use Rattle.hdt_build.specs.declared.grouped_sections.Pushed.{Pushed}
use Rattle.hdt_build.specs.declared.grouped_sections.Pushed.TheVariants.{Refused, Added, Began}
use Rattle.hdt_build.specs.Inside.GroupedSections.{BuilderState, HasGroups, IsPushed}
use Rattle.hdt_build.specs.Inside.Groups.{SectionStates}
use Rattle.hdt_build.specs.Inside.Groups.{AreFinished, Group, HasRole, has_role, new_group, numbers_of_codes}
use Rattle.hdt_build.specs.Inside.Groups.{texts_of_groups, with_role}
use Rattle.hdt_build.specs.Inside.Records.{AreRecordRuns, IsRecord, record_of, record_with, role_code}
use Rattle.hdt_build.specs.Inside.RecordMerging.{AreGroupsOf, AreGroupsSoFar, AreMergedRecords, Deals, IsMerging}
use Rattle.hdt_build.specs.Inside.RecordMerging.{IsNoted}
use Rattle.hdt_build.specs.Inside.TripleRuns.{joined_runs}
use Rattle.hdt_build.proofs.Events.{dealt_step}

-- ---- the roles of a group

role_kept : (role more : Role) (g : Group) → has_role role g ≡ true → has_role role (with_role more g) ≡ true
role_kept Subject Subject g h = refl
role_kept Subject Predicate g h = h
role_kept Subject Object g h = h
role_kept Predicate Subject g h = h
role_kept Predicate Predicate g h = refl
role_kept Predicate Object g h = h
role_kept Object Subject g h = h
role_kept Object Predicate g h = h
role_kept Object Object g h = refl

role_had : (role more : Role) (g : Group) → has_role role (with_role more g) ≡ true
    → (has_role role g ≡ true) ⊎ (role ≡ more)
role_had Subject Subject g h = inr refl
role_had Subject Predicate g h = inl h
role_had Subject Object g h = inl h
role_had Predicate Subject g h = inl h
role_had Predicate Predicate g h = inr refl
role_had Predicate Object g h = inl h
role_had Object Subject g h = inl h
role_had Object Predicate g h = inl h
role_had Object Object g h = inr refl

role_own : (role : Role) (g : Group) → has_role role (with_role role g) ≡ true
role_own Subject g = refl
role_own Predicate g = refl
role_own Object g = refl

text_kept : (role : Role) (g : Group) → (with_role role g).text ≡ g.text
text_kept Subject g = refl
text_kept Predicate g = refl
text_kept Object g = refl

text_new : (role : Role) (x : List ℕ) → (new_group x role).text ≡ x
text_new Subject x = refl
text_new Predicate x = refl
text_new Object x = refl

-- a string has the role in the groups, or it is the string that was pushed with this role
abbrev pub HadRole : List Group → Role → List ℕ → Role → List ℕ → Type 0
HadRole gs more text role x = HasRole gs role x ⊎ ((role ≡ more) × (text ≡ x))

-- pushing a string with a role adds this role, and no other one
abbrev pub AddsRole : List Group → Role → List ℕ → List Group → Type 0
AddsRole gs more text new = (role : Role) (x : List ℕ) → HasRole new role x ↔ HadRole gs more text role x

module _ (front : List Group) (g : Group) (more : Role) (text : List ℕ) (same : g.text ≡ text) where
  abbrev new : Group
  new = with_role more g

  to : (role : Role) (x : List ℕ) → HasRole (front ++ new ∷ []) role x → HadRole (front ++ g ∷ []) more text role x
  to role x h = by (Contains-append_cases front (new ∷ []) h.0 h.1)
    where
      last : h.0 ≡ new → HadRole (front ++ g ∷ []) more text role x
      last e = elim (role_had role more g (subst (λ (k : Group). has_role role k ≡ true) e h.2)) [
        | inl had ↦ inl (
          g,
          Contains-append_right front (g ∷ []) g (Contains-here g []),
          had,
          sym (text_kept more g) ∙ (ap (λ (k : Group). k.text) (sym e) ∙ h.3),
        )
        | inr role_is ↦ inr (
          role_is,
          sym same ∙ (sym (text_kept more g) ∙ (ap (λ (k : Group). k.text) (sym e) ∙ h.3)),
        )
      ]

      by : Contains front h.0 ⊎ Contains (new ∷ []) h.0 → HadRole (front ++ g ∷ []) more text role x
      by (inl a) = inl (h.0, Contains-append_left front (g ∷ []) h.0 a, h.2, h.3)
      by (inr b) = elim (Contains-cons_cases new h.0 [] b) [
        | inl e ↦ last (sym e)
        | inr none ↦ absurd (Contains-nil h.0 none)
      ]

  from : (role : Role) (x : List ℕ) → HadRole (front ++ g ∷ []) more text role x → HasRole (front ++ new ∷ []) role x
  from role x (inr own) = (
    new,
    Contains-append_right front (new ∷ []) new (Contains-here new []),
    subst (λ (r : Role). has_role r new ≡ true) (sym own.0) (role_own more g),
    text_kept more g ∙ (same ∙ own.1),
  )
  from role x (inl h) = elim (Contains-append_cases front (g ∷ []) h.0 h.1) [
    | inl a ↦ (h.0, Contains-append_left front (new ∷ []) h.0 a, h.2, h.3)
    | inr b ↦ elim (Contains-cons_cases g h.0 [] b) [
      | inl e ↦ (
        new,
        Contains-append_right front (new ∷ []) new (Contains-here new []),
        role_kept role more g (subst (λ (k : Group). has_role role k ≡ true) (sym e) h.2),
        text_kept more g ∙ (ap (λ (k : Group). k.text) e ∙ h.3),
      )
      | inr none ↦ absurd (Contains-nil h.0 none)
    ]
  ]

  pub adds_to_last : AddsRole (front ++ g ∷ []) more text (front ++ new ∷ [])
  adds_to_last role x = (to role x, from role x)

  pub texts_kept : texts_of_groups (front ++ new ∷ []) ≡ texts_of_groups (front ++ g ∷ [])
  texts_kept = map-append (λ (k : Group). k.text) front (new ∷ [])
      ∙ (ap (λ (t : List ℕ). texts_of_groups front ++ t ∷ []) (text_kept more g)
      ∙ sym (map-append (λ (k : Group). k.text) front (g ∷ [])))

module _ (gs : List Group) (more : Role) (text : List ℕ) where
  abbrev begun : Group
  begun = new_group text more

  pub adds_group : AddsRole gs more text (gs ++ begun ∷ [])
  adds_group role x = (to-new, from-new)
    where
      empty : Group
      empty = record { text = text; subject = false; predicate = false; object = false }

      no_role : (r : Role) → has_role r empty ≡ false
      no_role Subject = refl
      no_role Predicate = refl
      no_role Object = refl

      last : (g : Group) → g ≡ begun → has_role role g ≡ true → g.text ≡ x → HadRole gs more text role x
      last g e on is = elim (role_had role more empty (subst (λ (k : Group). has_role role k ≡ true) e on)) [
        | inl had ↦ let off = no_role role in absurd cc
        | inr role_is ↦ inr (role_is, sym (text_new more text) ∙ (ap (λ (k : Group). k.text) (sym e) ∙ is))
      ]

      to-new : HasRole (gs ++ begun ∷ []) role x → HadRole gs more text role x
      to-new h = elim (Contains-append_cases gs (begun ∷ []) h.0 h.1) [
        | inl a ↦ inl (h.0, a, h.2, h.3)
        | inr b ↦ elim (Contains-cons_cases begun h.0 [] b) [
          | inl e ↦ last h.0 (sym e) h.2 h.3
          | inr none ↦ absurd (Contains-nil h.0 none)
        ]
      ]

      from-new : HadRole gs more text role x → HasRole (gs ++ begun ∷ []) role x
      from-new (inl h) = (h.0, Contains-append_left gs (begun ∷ []) h.0 h.1, h.2, h.3)
      from-new (inr own) = (
        begun,
        Contains-append_right gs (begun ∷ []) begun (Contains-here begun []),
        subst (λ (r : Role). has_role r begun ≡ true) (sym own.0) (role_own more empty),
        text_new more text ∙ own.1,
      )

  pub texts_more : texts_of_groups (gs ++ begun ∷ []) ≡ texts_of_groups gs ++ text ∷ []
  texts_more = map-append (λ (k : Group). k.text) gs (begun ∷ [])
      ∙ ap (λ (t : List ℕ). texts_of_groups gs ++ t ∷ []) (text_new more text)

-- ---- dealing

pub final_pushed : (x : Option (List ℕ)) (xs : List (List ℕ)) (y : List ℕ) → latest x (xs ++ y ∷ []) ≡ Some y
unfolding latest
final_pushed x [] y = refl
final_pushed x (z ∷ zs) y = final_pushed (Some z) zs y

pub none_dealt : (k : ℕ) (run : List (List ℕ)) → Deals k run run [] []
unfolding latest
none_dealt k run = record { done = []; run_is = refl; goes_on = λ ys es. refl }

module _ (k : ℕ) (run rest later texts new : List (List ℕ)) (events : List ℕ) (begins target : ℕ) (text : List ℕ)
    (h : Deals k run rest texts events) where
  abbrev given : List (List ℕ)
  given = cond (nat_eq (target / 4) k) (record_with (target % 4) text ∷ []) []

  pub deals_more : rest ≡ given ++ later → latest None new ≡ Some text
      → ((ys : List (List ℕ)) (es : List ℕ) → dealt record_with k None (new ++ ys) (events ++ begins ∷ target ∷ es)
      ≡ h.done ++ (given ++ dealt record_with k (Some text) ys es))
      → Deals k run later new (events ++ begins ∷ target ∷ [])
  deals_more split last goes = record {
    done = h.done ++ given;
    run_is = h.run_is
        ∙ (ap (λ (l : List (List ℕ)). h.done ++ l) split ∙ sym (append_assoc h.done given later));
    goes_on = λ ys es.
        ap (dealt record_with k None (new ++ ys)) (append_assoc events (begins ∷ target ∷ []) es)
        ∙ (goes ys es
        ∙ (sym (append_assoc h.done given (dealt record_with k (Some text) ys es))
        ∙ ap (λ (t : Option (List ℕ)). (h.done ++ given) ++ dealt record_with k t ys es) (sym last)));
  }

  pub deals_same : rest ≡ given ++ later → latest None texts ≡ Some text → begins ≡ 0 → new ≡ texts
      → Deals k run later new (events ++ begins ∷ target ∷ [])
  unfolding advanced
  deals_same split last zero' same =
      deals_more split (ap (latest None) same ∙ last)
      (λ ys es.
      ap (λ (l : List (List ℕ)). dealt record_with k None (l ++ ys) (events ++ begins ∷ target ∷ es)) same
      ∙ (ap (λ (n : ℕ). dealt record_with k None (texts ++ ys) (events ++ n ∷ target ∷ es)) zero'
      ∙ (h.goes_on ys (0 ∷ target ∷ es)
      ∙ ap (λ (l : List (List ℕ)). h.done ++ l)
      (ap (λ (t : Option (List ℕ)). dealt record_with k t ys (0 ∷ target ∷ es)) last
      ∙ dealt_step record_with k (Some text) text ys ys 0 target es refl))))

  pub deals_next : rest ≡ given ++ later → begins ≡ 1 → new ≡ texts ++ text ∷ []
      → Deals k run later new (events ++ begins ∷ target ∷ [])
  unfolding advanced
  deals_next split one more =
      deals_more split (ap (latest None) more ∙ final_pushed None texts text)
      (λ ys es.
      ap (λ (l : List (List ℕ)). dealt record_with k None (l ++ ys) (events ++ begins ∷ target ∷ es)) more
      ∙ (ap (λ (l : List (List ℕ)). dealt record_with k None l (events ++ begins ∷ target ∷ es))
      (append_assoc texts (text ∷ []) ys)
      ∙ (ap (λ (n : ℕ). dealt record_with k None (texts ++ text ∷ ys) (events ++ n ∷ target ∷ es)) one
      ∙ (h.goes_on (text ∷ ys) (1 ∷ target ∷ es)
      ∙ ap (λ (l : List (List ℕ)). h.done ++ l)
      (dealt_step record_with k (latest None texts) text (text ∷ ys) ys 1 target es refl)))))

-- ---- runs

pub one_taken : {X : Type 0} (runs : List (List X)) (i : ℕ) (d : List X) (t : X) (later : List X)
    → i < length runs → get_or runs i d ≡ t ∷ later → (x : X) → Contains (joined_runs runs) x
    → (x ≡ t) ⊎ Contains (joined_runs (set runs i later)) x
unfolding joined_runs
one_taken [] i d t later lt is x h = absurd (omega (arith, lt))
one_taken {X} (run ∷ runs) zero d t later lt is x h =
    elim (Contains-append_cases run (joined_runs runs) x h) [
      | inl a ↦ elim (Contains-cons_cases t x later (subst (λ (l : List X). Contains l x) is a)) [
        | inl e ↦ inl (sym e)
        | inr there ↦ inr (Contains-append_left later (joined_runs runs) x there)
      ]
      | inr b ↦ inr (Contains-append_right later (joined_runs runs) x b)
    ]
one_taken (run ∷ runs) (suc i) d t later lt is x h =
    elim (Contains-append_cases run (joined_runs runs) x h) [
      | inl a ↦ inr (Contains-append_left run (joined_runs (set runs i later)) x a)
      | inr b ↦ elim (one_taken runs i d t later (omega (arith, lt)) is x b) [
        | inl e ↦ inl e
        | inr there ↦ inr (Contains-append_right run (joined_runs (set runs i later)) x there)
      ]
    ]

pub in_joined : {X : Type 0} (runs : List (List X)) (i : ℕ) (d : List X) (x : X) → i < length runs
    → Contains (get_or runs i d) x → Contains (joined_runs runs) x
unfolding joined_runs
in_joined [] i d x lt h = absurd (omega (arith, lt))
in_joined (run ∷ runs) zero d x lt h = Contains-append_left run (joined_runs runs) x h
in_joined (run ∷ runs) (suc i) d x lt h =
    Contains-append_right run (joined_runs runs) x (in_joined runs i d x (omega (arith, lt)) h)

-- what a run has is what was taken from it, and the rest
module _ (rests : List (List (List ℕ))) (run : ℕ) (bytes : List ℕ) (lt : run < length rests)
    (first : get_or rests run [] ≡ bytes ∷ drop 1 (get_or rests run [])) where
  abbrev left : List (List (List ℕ))
  left = set rests run (drop 1 (get_or rests run []))

  by : (k : ℕ) (own : Bool) → nat_eq run k ≡ own
      → get_or rests k [] ≡ cond own (bytes ∷ []) [] ++ get_or left k []
  by k true e =
      let same : run ≡ k = grind (arith, nat_tests, e) in
      subst (λ (i : ℕ). get_or rests i [] ≡ bytes ∷ get_or left i []) same
      (first ∙ ap (λ (l : List (List ℕ)). bytes ∷ l)
      (sym (get_or-set_same rests run (drop 1 (get_or rests run [])) [] lt)))
  by k false e =
      let apart : (k ≡ run → ⊥) = λ same. let off : nat_eq run k ≡ false = e in grind (arith, nat_tests, off, same) in
      sym (get_or-set_other rests run k (drop 1 (get_or rests run [])) [] apart)

  pub run_split : (k target : ℕ) → target / 4 ≡ run
      → get_or rests k [] ≡ cond (nat_eq (target / 4) k) (bytes ∷ []) [] ++ get_or left k []
  run_split k target is =
      subst (λ (r : ℕ). get_or rests k [] ≡ cond (nat_eq r k) (bytes ∷ []) [] ++ get_or left k []) (sym is)
      (by k (nat_eq run k) refl)

-- ---- a record is taken

module _ (known : Type 0) (n : ℕ) (runs rests new : List (List (List ℕ))) (b c : BuilderState)
    (numbers more events later : List ℕ) (run : ℕ) (bytes text : List ℕ) (role : Role) (begins target : ℕ)
    (lt : run < length rests) (first : get_or rests run [] ≡ bytes ∷ drop 1 (get_or rests run []))
    (split : (r : Role) (x : List ℕ) → bytes ≡ record_of r x → (text ≡ x) × (role ≡ r))
    (run_is : target / 4 ≡ run) (role_is : target % 4 ≡ role_code role)
    (events_are : known → later ≡ events ++ begins ∷ target ∷ [])
    (rests_are : known → new ≡ set rests run (drop 1 (get_or rests run []))) where
  module _ (h : IsMerging known n runs rests b numbers events) where
    module _ (gs : List Group) (adds : AddsRole h.groups role text gs) (k : known) (records : AreRecordRuns runs)
        (deals : (i : ℕ) → (before : List (List ℕ))
        → Deals i (get_or runs i []) before (texts_of_groups h.groups) events
        → before ≡ cond (nat_eq (target / 4) i) (record_with (target % 4) text ∷ []) [] ++ get_or new i []
        → Deals i (get_or runs i []) (get_or new i []) (texts_of_groups gs) (events ++ begins ∷ target ∷ [])) where
      so_far : AreGroupsSoFar runs rests h.groups events
      so_far = h.groups_are k records

      few : run < length runs
      few = omega (arith, lt, so_far.long)

      there : Contains (joined_runs runs) bytes
      there =
          let d = so_far.each run few in
          in_joined runs run [] bytes few
          (subst (λ (l : List (List ℕ)). Contains l bytes) (sym d.run_is)
          (Contains-append_right d.done (get_or rests run []) bytes
          (subst (λ (l : List (List ℕ)). Contains l bytes) (sym first)
          (Contains-here bytes (drop 1 (get_or rests run []))))))

      is : bytes ≡ record_of role text
      is =
          let r = All-contains IsRecord (joined_runs runs) bytes records there in
          let s = split r.role r.text r.is in
          r.is ∙ sym (λ i. record_of (s.1 i) (s.0 i))

      with_number : record_with (target % 4) text ≡ bytes
      with_number = ap (λ (m : ℕ). record_with m text) role_is ∙ sym is

      pub taken : AreGroupsSoFar runs new gs later
      taken = record {
        long = ap length (rests_are k) ∙ (length-set rests run (drop 1 (get_or rests run [])) ∙ so_far.long);
        each = λ i below.
            subst (Deals i (get_or runs i []) (get_or new i []) (texts_of_groups gs)) (sym (events_are k))
            (deals i (get_or rests i []) (so_far.each i below)
            (run_split rests run bytes lt first i target run_is
            ∙ (ap (λ (x : List ℕ). cond (nat_eq (target / 4) i) (x ∷ []) []
            ++ get_or (left rests run bytes lt first) i [])
            (sym with_number)
            ∙ ap (λ (l : List (List (List ℕ))). cond (nat_eq (target / 4) i) (record_with (target % 4) text ∷ []) []
            ++ get_or l i []) (sym (rests_are k)))));
        from_runs = λ r x had. elim ((adds r x).0 had) [
          | inl old ↦ so_far.from_runs r x old
          | inr own ↦ subst (Contains (joined_runs runs)) (is ∙ (λ i. record_of (sym own.0 i) (own.1 i))) there
        ];
        in_groups = λ r x inside. elim (so_far.in_groups r x inside) [
          | inl old ↦ inl ((adds r x).1 (inl old))
          | inr rest ↦ elim (one_taken rests run [] bytes (drop 1 (get_or rests run [])) lt first
              (record_of r x) rest) [
                | inl e ↦ let s = split r x (sym e) in inl ((adds r x).1 (inr (sym s.1, s.0)))
                | inr still ↦ inr (subst (λ (l : List (List (List ℕ))). Contains (joined_runs l) (record_of r x))
                    (sym (rests_are k)) still)
              ]
        ];
      }

    pub one_record : (pushed : Pushed) → IsPushed n c h.groups h.codes text role pushed
        → IsNoted known pushed begins numbers more → IsMerging known n runs new c more later
    one_record Refused p noted = absurd noted
    one_record Added p noted =
        let front = p.0 in
        let g = p.1 in
        let gs = front ++ with_role role g ∷ [] in
        let same : texts_of_groups gs ≡ texts_of_groups h.groups =
        texts_kept front g role text p.3 ∙ ap texts_of_groups (sym p.2) in
        let last : latest None (texts_of_groups h.groups) ≡ Some text =
        ap (λ (l : List Group). latest None (texts_of_groups l)) p.2
        ∙ (ap (latest None) (map-append (λ (k : Group). k.text) front (g ∷ []))
        ∙ (final_pushed None (texts_of_groups front) g.text ∙ ap Some p.3)) in
        record {
          groups = gs;
          codes = h.codes;
          has = p.4;
          codes_are = λ k records. h.codes_are k records ∙ sym (noted.1 k);
          groups_are = λ k records. taken gs
              (subst (λ (l : List Group). AddsRole l role text gs) (sym p.2) (adds_to_last front g role text p.3))
              k records
              (λ i before d s. deals_same i (get_or runs i []) before (get_or new i []) (texts_of_groups h.groups)
              (texts_of_groups gs) events begins target text d s last noted.0 same);
        }
    one_record (Began codes) p noted =
        let gs = h.groups ++ new_group text role ∷ [] in
        record {
          groups = gs;
          codes = h.codes ++ numbers_of_codes codes;
          has = p;
          codes_are = λ k records. ap (λ (l : List ℕ). l ++ numbers_of_codes codes) (h.codes_are k records)
              ∙ sym (noted.1 k);
          groups_are = λ k records. taken gs (adds_group h.groups role text) k records
              (λ i before d s. deals_next i (get_or runs i []) before (get_or new i []) (texts_of_groups h.groups)
              (texts_of_groups gs) events begins target text d s noted.0 (texts_more h.groups role text));
        }

-- ---- the beginning and the end

pub merge_begun : (known : Type 0) (n : ℕ) (runs rests : List (List (List ℕ))) (b : BuilderState)
    (numbers events : List ℕ) → HasGroups n b [] [] → (known → rests ≡ runs) → (known → numbers ≡ [])
    → (known → events ≡ []) → IsMerging known n runs rests b numbers events
merge_begun known n runs rests b numbers events has same none quiet = record {
  groups = [];
  codes = [];
  has = has;
  codes_are = λ k records. sym (none k);
  groups_are = λ k records.
      subst (λ (l : List (List (List ℕ))). AreGroupsSoFar runs l [] events) (sym (same k))
      (subst (AreGroupsSoFar runs runs []) (sym (quiet k)) record {
        long = refl;
        each = λ i lt. none_dealt i (get_or runs i []);
        from_runs = λ r x had. absurd (Contains-nil had.0 had.1);
        in_groups = λ r x there. inr there;
      });
}

nothing_joined : {X : Type 0} (runs : List (List X)) (x : X) → ((i : ℕ) → i < length runs → get_or runs i [] ≡ [])
    → Contains (joined_runs runs) x → ⊥
unfolding joined_runs
nothing_joined [] x none h = Contains-nil x h
nothing_joined (run ∷ runs) x none h = elim (Contains-append_cases run (joined_runs runs) x h) [
  | inl a ↦ Contains-nil x (subst (λ l. Contains l x) (none 0 (omega arith)) a)
  | inr b ↦ nothing_joined runs x (λ i lt. none (suc i) (omega (arith, lt))) b
]

all_dealt : (k : ℕ) (run rest texts : List (List ℕ)) (events : List ℕ) → rest ≡ []
    → Deals k run rest texts events → run ≡ dealt record_with k None texts events
unfolding dealt
all_dealt k run rest texts events none d =
    let end : run ≡ d.done ++ [] = d.run_is ∙ ap (λ (l : List (List ℕ)). d.done ++ l) none in
    end ∙ (sym (d.goes_on [] []) ∙ λ i. dealt record_with k None (append-nil texts i) (append-nil events i))

module _ (known : Type 0) (n : ℕ) (runs rests : List (List (List ℕ))) (b : BuilderState) (numbers events : List ℕ)
    (h : IsMerging known n runs rests b numbers events)
    (none : (i : ℕ) → i < length rests → get_or rests i [] ≡ []) where
  pub merge_ended : (sections : SectionStates) (last more later : List ℕ)
      → AreFinished n sections h.groups (h.codes ++ last) → (known → more ≡ numbers ++ last) → (known → later ≡ events)
      → AreMergedRecords known n runs sections more later
  merge_ended sections last more later finished more_are same = record {
    groups = h.groups;
    codes = h.codes ++ last;
    finished = finished;
    codes_are = λ k records. ap (λ (l : List ℕ). l ++ last) (h.codes_are k records) ∙ sym (more_are k);
    groups_are = λ k records.
        let s = h.groups_are k records in
        record {
          each = λ i lt.
              all_dealt i (get_or runs i []) (get_or rests i []) (texts_of_groups h.groups) events
              (none i (omega (arith, lt, s.long))) (s.each i lt)
              ∙ ap (dealt record_with i None (texts_of_groups h.groups)) (sym (same k));
          roles = λ r x. (
            s.from_runs r x,
            λ there. elim (s.in_groups r x there) [
              | inl had ↦ had
              | inr rest ↦ absurd (nothing_joined rests (record_of r x) none rest)
            ],
          );
        };
  }

-- the same numbers and events, on scratch whose contents are known
pub same_lists_merged : (known : Type 0) (n : ℕ) (runs : List (List (List ℕ))) (sections : SectionStates)
    (numbers events more later : List ℕ) → AreMergedRecords known n runs sections numbers events
    → (known → (more ≡ numbers) × (later ≡ events)) → AreMergedRecords known n runs sections more later
same_lists_merged known n runs sections numbers events more later m same = record {
  groups = m.groups;
  codes = m.codes;
  finished = m.finished;
  codes_are = λ k records. m.codes_are k records ∙ sym (same k).0;
  groups_are = λ k records. subst (AreGroupsOf runs m.groups) (sym (same k).1) (m.groups_are k records);
}
