-- Batches of records, and the triples of strings that they have.
use Rattle.std.proofs.Common.{◌≡◌, ◌∙◌, inl, inr, ℕ, zero, suc, ◌+◌, ◌-◌, ◌<◌, Bool, false, cond, List, [], ◌∷◌, ◌++◌}
use Rattle.std.proofs.Common.{map, length, get_or, take, refl, ap, sym, subst, append_assoc, append-nil, arith}
use Rattle.std.proofs.Common.{length-append}
use Rattle.std.specs.List.{All, Contains}
use Rattle.std.proofs.Math.Seq.{take-append_seam}
use Rattle.std.proofs.lemmas.Bool.{cases_lt}
use Rattle.std.proofs.lemmas.List.{get_or-append-add, get_or_append_left, get_or_default, get_or_push, length_push}
use Rattle.std.proofs.lemmas.List.{length-map, map-append, map_push}
use Rattle.std.proofs.lemmas.List.Elements.{All-append, All-contains, Contains-append_cases, Contains-append_left}
use Rattle.std.proofs.lemmas.List.Elements.{Contains-append_right, Contains-get_or}
use Rattle.hdt_wire.specs.declared.Role.{Role}
use Rattle.hdt_wire.specs.declared.Role.TheVariants.{Subject, Predicate, Object}
use Rattle.hdt_dict.specs.Laws.Members.{Contains-from_map, Contains-map}
use Rattle.hdt_triples.specs.TripleSequences.{Triple}
use Rattle.hdt_triples.specs.Uses.{role_component}
use Rattle.hdt_file.specs.Denoted.{StringTriple}
use Rattle.hdt_build.specs.declared.collector.TripleCollector.{TripleCollector}
use Rattle.hdt_build.specs.Graph.{mapped_triple, string_triple_at, string_triples_of}
use Rattle.hdt_build.specs.Inside.Batches.{AreBatches, HaveRecords, IsBatchOf, IsUsedIndex, batch_triples, plain}
use Rattle.hdt_build.specs.Inside.Batches.{plain_triples, record_triple, strings_in_role}
use Rattle.hdt_build.specs.Inside.Collecting.{AreBelow, IsValidCollector, collected_triples}
use Rattle.hdt_build.specs.Inside.Records.{IsRecord, record_of, record_with, role_code}
use Rattle.hdt_build.specs.Inside.SortedEntries.{AreIndicesOf}
use Rattle.hdt_build.specs.Inside.TripleRuns.{joined_runs}
use Rattle.hdt_build.proofs.IndexTriples.{moved_is, moved_within}
use Rattle.hdt_build.proofs.StringsOfIds.{same_strings}
use Rattle.hdt_build.proofs.TripleRuns.{joined_more}

-- ---- records and strings

plain_record : (role : Role) (x : List ℕ) → plain (record_of role x) ≡ x
plain_record role x =
    let end : List ℕ = 0 ∷ role_code role ∷ [] in
    let len : length (x ++ end) - 2 ≡ length x = omega (arith, length-append x end) in
    ap (λ (n : ℕ). take n (x ++ end)) len ∙ take-append_seam x end

role_with : ℕ → Role
role_with (suc zero) = Predicate
role_with (suc (suc zero)) = Object
role_with n = Subject

role_back : (role : Role) → role_with (role_code role) ≡ role
unfolding role_with
role_back Subject = refl
role_back Predicate = refl
role_back Object = refl

-- a record has one role and one string
same_record : (r role : Role) (y x : List ℕ) → record_of r y ≡ record_of role x → (r ≡ role) × (y ≡ x)
same_record r role y x e =
    let text : y ≡ x = sym (plain_record r y) ∙ (ap plain e ∙ plain_record role x) in
    let number : role_code r ≡ role_code role =
    sym (last (role_code r) y) ∙ ((λ i. get_or (e i) (length (text i) + 1) 0) ∙ last (role_code role) x) in
    (sym (role_back r) ∙ (ap role_with number ∙ role_back role), text)
  where
    last : (n : ℕ) (z : List ℕ) → get_or (record_with n z) (length z + 1) 0 ≡ n
    last n z = get_or-append-add z (0 ∷ n ∷ []) 1 0

-- ---- the components of triples

of_records : (role : Role) (t : StringTriple) → role_component role (record_triple t)
    ≡ record_of role (role_component role t)
of_records Subject t = refl
of_records Predicate t = refl
of_records Object t = refl

of_indices : (run : List (List ℕ)) (role : Role) (t : Triple) → role_component role (string_triple_at run t)
    ≡ get_or run (role_component role t) []
of_indices run Subject t = refl
of_indices run Predicate t = refl
of_indices run Object t = refl

of_below : (n : ℕ) (ts : List Triple) (role : Role) (t : Triple) → AreBelow n ts → Contains ts t
    → role_component role t < n
of_below n ts Subject t h there = All-contains (λ (u : Triple). u.0 < n) ts t h.subjects there
of_below n ts Predicate t h there = All-contains (λ (u : Triple). u.1 < n) ts t h.predicates there
of_below n ts Object t h there = All-contains (λ (u : Triple). u.2 < n) ts t h.objects there

plain_records : (g : List StringTriple) → plain_triples (map record_triple g) ≡ g
plain_records [] = refl
plain_records (t ∷ g) =
    λ i. (plain_record Subject t.0 i, plain_record Predicate t.1 i, plain_record Object t.2 i) ∷ plain_records g i

-- ---- one batch

module _ (g : List StringTriple) (run : List (List ℕ)) (ts : List Triple)
    (h : IsBatchOf (map record_triple g) run ts) where
  record_at : (k : ℕ) → k < length run → (role : Role) × (x : List ℕ) × Contains (strings_in_role role g) x
      × (get_or run k [] ≡ record_of role x)
  record_at k lt =
      let used = h.used k lt in
      let role : Role = used.0 in
      let at = Contains-from_map (role_component role) ts k used.1 in
      let there : Contains (map record_triple g) (string_triple_at run at.0) =
      subst (λ (l : List StringTriple). Contains l (string_triple_at run at.0)) h.triples
      (Contains-map (string_triple_at run) ts at.0 at.1) in
      let t = Contains-from_map record_triple g (string_triple_at run at.0) there in (
        role,
        role_component role t.0,
        Contains-map (role_component role) g t.0 t.1,
        ap (λ (j : ℕ). get_or run j []) (sym at.2)
            ∙ (sym (of_indices run role at.0) ∙ (ap (role_component role) (sym t.2) ∙ of_records role t.0)),
      )

  run_records : All IsRecord run
  run_records k d lt =
      let r = record_at k lt in
      record { role = r.0; text = r.1; is = get_or_default run k d [] lt ∙ r.3 }

  run_to : (role : Role) (x : List ℕ) → Contains run (record_of role x) → Contains (strings_in_role role g) x
  run_to role x c =
      let r = record_at c.0 c.1 in
      let same = same_record r.0 role r.1 x
      (sym r.3 ∙ (get_or_default run c.0 [] (record_of role x) c.1 ∙ c.2)) in
      subst (λ (p : Role). Contains (strings_in_role p g) x) same.0
      (subst (Contains (strings_in_role r.0 g)) same.1 r.2)

  run_from : (role : Role) (x : List ℕ) → Contains (strings_in_role role g) x → Contains run (record_of role x)
  run_from role x c =
      let t = Contains-from_map (role_component role) g x c in
      let there : Contains (string_triples_of run ts) (record_triple t.0) =
      subst (λ (l : List StringTriple). Contains l (record_triple t.0)) (sym h.triples)
      (Contains-map record_triple g t.0 t.1) in
      let u = Contains-from_map (string_triple_at run) ts (record_triple t.0) there in
      subst (Contains run)
      (sym (of_indices run role u.0) ∙ (ap (role_component role) u.2 ∙ (of_records role t.0 ∙ ap (record_of role) t.2)))
      (Contains-get_or run (role_component role u.0) [] (of_below (length run) ts role u.0 h.below u.1))

-- a batch from a list of its records with duplicates
pub batch_of : (all : List StringTriple) (xs ys : List (List ℕ)) (ns : List ℕ) → AreIndicesOf xs ys ns
    → (ids new : List Triple) → AreBelow (length xs) ids → string_triples_of xs ids ≡ all
    → new ≡ map (mapped_triple ns ns ns) ids → ((k : ℕ) → k < length ys → IsUsedIndex new k) → IsBatchOf all ys new
batch_of all xs ys ns r ids new below are e used = record {
  triples = ap (string_triples_of ys) e ∙ (moved_is xs ys ns r ids below ∙ are);
  below = subst (AreBelow (length ys)) (sym e) (moved_within xs ys ns r ids below);
  used = used;
}

-- ---- one batch more

triples_more : (runs : List (List (List ℕ))) (tss : List (List Triple)) (run : List (List ℕ)) (ts : List Triple)
    → length tss ≡ length runs
    → batch_triples (runs ++ run ∷ []) (tss ++ ts ∷ []) ≡ batch_triples runs tss ++ string_triples_of run ts
unfolding batch_triples
triples_more [] [] run ts e = append-nil (string_triples_of run ts)
triples_more [] (us ∷ tss) run ts e = absurd (omega (arith, e))
triples_more (r ∷ runs) [] run ts e = absurd (omega (arith, e))
triples_more (r ∷ runs) (us ∷ tss) run ts e =
    ap (λ (l : List StringTriple). string_triples_of r us ++ l) (triples_more runs tss run ts (omega (arith, e)))
    ∙ sym (append_assoc (string_triples_of r us) (batch_triples runs tss) (string_triples_of run ts))

both_members : {X Y : Type 0} (xs ys : List X) (us vs : List Y) (x : X) (y : Y) → (Contains xs x → Contains us y)
    → (Contains ys x → Contains vs y) → Contains (xs ++ ys) x → Contains (us ++ vs) y
both_members xs ys us vs x y f g c = elim (Contains-append_cases xs ys x c) [
  | inl a ↦ Contains-append_left us vs y (f a)
  | inr b ↦ Contains-append_right us vs y (g b)
]

module _ (runs : List (List (List ℕ))) (tss : List (List Triple)) (old : List StringTriple)
    (h : AreBatches runs tss old) (g : List StringTriple) (run : List (List ℕ)) (ts : List Triple)
    (b : IsBatchOf (map record_triple g) run ts) where
  below_more : (k : ℕ) → k < length (runs ++ run ∷ [])
      → AreBelow (length (get_or (runs ++ run ∷ []) k [])) (get_or (tss ++ ts ∷ []) k [])
  below_more k lt = elim (cases_lt k (length runs)) [
    | inl before ↦
        both _ _ _ _ (get_or_append_left runs (run ∷ []) [] k before)
        (get_or_append_left tss (ts ∷ []) [] k (omega (arith, before, h.long))) (h.below k before)
    | inr le ↦
        let end : length runs ≡ k = omega (arith, lt, le, length_push runs run) in
        both _ _ _ _ (get_or_push runs run [] k end) (get_or_push tss ts [] k (h.long ∙ end)) b.below
  ]
    where
      both : (xs ys : List (List ℕ)) (us vs : List Triple) → xs ≡ ys → us ≡ vs → AreBelow (length ys) vs
          → AreBelow (length xs) us
      both xs ys us vs p q below = subst (λ (l : List (List ℕ)). AreBelow (length l) us) (sym p)
          (subst (AreBelow (length ys)) (sym q) below)

  batch_added : AreBatches (runs ++ run ∷ []) (tss ++ ts ∷ []) (old ++ g)
  batch_added = record {
    long = omega (arith, length_push runs run, length_push tss ts, h.long);
    below = below_more;
    records = subst (All IsRecord) (sym (joined_more runs run))
        (All-append IsRecord (joined_runs runs) run h.records (run_records g run ts b));
    triples = triples_more runs tss run ts h.long
        ∙ ((λ i. h.triples i ++ b.triples i) ∙ sym (map-append record_triple old g));
    members = λ role x.
        let apart : strings_in_role role (old ++ g) ≡ strings_in_role role old ++ strings_in_role role g =
        map-append (role_component role) old g in (
          λ c. subst (λ (l : List (List ℕ)). Contains l x) (sym apart)
              (both_members (joined_runs runs) run (strings_in_role role old) (strings_in_role role g)
              (record_of role x)
              x (h.members role x).0 (run_to g run ts b role x)
              (subst (λ (l : List (List ℕ)). Contains l (record_of role x)) (joined_more runs run) c)),
          λ c. subst (λ (l : List (List ℕ)). Contains l (record_of role x)) (sym (joined_more runs run))
              (both_members (strings_in_role role old) (strings_in_role role g) (joined_runs runs) run x
              (record_of role x) (h.members role x).1 (run_from g run ts b role x)
              (subst (λ (l : List (List ℕ)). Contains l x) apart c)),
        );
  }

-- ---- while triples are added

end_empty : {X : Type 0} (xs ys : List X) → xs ++ ys ≡ [] → ys ≡ []
end_empty [] ys e = e
end_empty (x ∷ xs) ys e = absurd cc

-- no triples
pub none_had : (known : Type 0) (runs : List (List (List ℕ))) (tss : List (List Triple)) (c : TripleCollector)
    → runs ≡ [] → tss ≡ [] → collected_triples c ≡ [] → IsValidCollector c → HaveRecords known runs tss c
unfolding batch_triples joined_runs
none_had known runs tss c p q none sound = record {
  sound = sound;
  current = none ∙ ap (λ (l : List StringTriple). map record_triple (plain_triples l)) (sym none);
  finished = λ _. rw (p, q) record {
    long = refl;
    below = λ b lt. absurd (omega (arith, lt));
    records = λ k d lt. absurd (omega (arith, lt));
    triples = refl;
    members = λ role x. (λ h. absurd (omega (arith, h.1)), λ h. absurd (omega (arith, h.1)));
  };
  some = λ _ _. p;
}

pub none_is : (runs : List (List (List ℕ))) (tss : List (List Triple)) (ts : List StringTriple) → runs ≡ [] → ts ≡ []
    → plain_triples (batch_triples runs tss) ++ plain_triples ts ≡ []
unfolding batch_triples
none_is runs tss ts p q = λ i. plain_triples (batch_triples (p i) tss) ++ plain_triples (q i)

-- the view of a builder that has not failed
pub view_with : (failed : Bool) (xs now : List StringTriple) → cond failed [] xs ≡ now → failed ≡ false → xs ≡ now
view_with failed xs now e f = (λ i. cond (sym f i) [] xs) ∙ e

module _ (known : Type 0) (runs : List (List (List ℕ))) (tss : List (List Triple)) (c : TripleCollector)
    (h : HaveRecords known runs tss c) where
  abbrev all : List StringTriple
  all = collected_triples c

  -- nothing is left to write
  pub parts_are : (now : List StringTriple) → plain_triples (batch_triples runs tss) ++ plain_triples all ≡ now
      → all ≡ []
      → known → AreBatches runs tss now
  parts_are now e none k = subst (AreBatches runs tss)
      (sym (append-nil (plain_triples (batch_triples runs tss)))
      ∙ ((λ i. plain_triples (batch_triples runs tss) ++ plain_triples (sym none i)) ∙ e))
      (h.finished k)

  -- one more triple
  module _ (new : TripleCollector) (t : StringTriple) (e : collected_triples new ≡ all ++ record_triple t ∷ []) where
    plain_more : plain_triples (collected_triples new) ≡ plain_triples all ++ t ∷ []
    plain_more =
        let back : (plain (record_of Subject t.0), plain (record_of Predicate t.1), plain (record_of Object t.2)) ≡ t =
        same_strings _ _ _ _ _ _ (plain_record Subject t.0) (plain_record Predicate t.1) (plain_record Object t.2) in
        ap plain_triples e ∙ (map_push (λ (u : StringTriple). (plain u.0, plain u.1, plain u.2)) all (record_triple t)
        ∙ ap (λ (u : StringTriple). plain_triples all ++ u ∷ []) back)

    pub more_had : IsValidCollector new → HaveRecords known runs tss new
    more_had sound = record {
      sound = sound;
      current = e ∙ (ap (λ (l : List StringTriple). l ++ record_triple t ∷ []) h.current
          ∙ (sym (map_push record_triple (plain_triples all) t) ∙ ap (map record_triple) (sym plain_more)));
      finished = h.finished;
      some = h.some;
    }

    pub more_is : (before : List StringTriple)
        → before ++ plain_triples (collected_triples new) ≡ (before ++ plain_triples all) ++ t ∷ []
    more_is before = ap (λ (l : List StringTriple). before ++ l) plain_more
        ∙ sym (append_assoc before (plain_triples all) (t ∷ []))

  -- the current batch is finished
  module _ (run : List (List ℕ)) (ts : List Triple) (b : known → IsBatchOf all run ts) (next : TripleCollector)
      (none : collected_triples next ≡ []) where
    batches_are : known → batch_triples (runs ++ run ∷ []) (tss ++ ts ∷ []) ≡ batch_triples runs tss ++ all
    batches_are k = triples_more runs tss run ts (h.finished k).long
        ∙ ap (λ (l : List StringTriple). batch_triples runs tss ++ l) (b k).triples

    plain_are : known → plain_triples (batch_triples (runs ++ run ∷ []) (tss ++ ts ∷ []))
        ≡ plain_triples (batch_triples runs tss) ++ plain_triples all
    plain_are k = ap plain_triples (batches_are k)
        ∙ map-append (λ (u : StringTriple). (plain u.0, plain u.1, plain u.2)) (batch_triples runs tss) all

    pub batch_had : IsValidCollector next → (all ≡ [] → ⊥) → HaveRecords known (runs ++ run ∷ []) (tss ++ ts ∷ []) next
    batch_had sound filled = record {
      sound = sound;
      current = none ∙ ap (λ (l : List StringTriple). map record_triple (plain_triples l)) (sym none);
      finished = λ k. subst (AreBatches (runs ++ run ∷ []) (tss ++ ts ∷ [])) (sym (plain_are k))
          (batch_added runs tss (plain_triples (batch_triples runs tss)) (h.finished k) (plain_triples all) run ts
          (subst (λ (l : List StringTriple). IsBatchOf l run ts) h.current (b k)));
      some = λ k e. absurd (filled (end_empty (batch_triples runs tss) all (sym (batches_are k) ∙ e)));
    }

    pub batch_is : known → plain_triples (batch_triples (runs ++ run ∷ []) (tss ++ ts ∷ []))
        ++ plain_triples (collected_triples next)
        ≡ plain_triples (batch_triples runs tss) ++ plain_triples all
    batch_is k =
        ap (λ (l : List StringTriple). plain_triples (batch_triples (runs ++ run ∷ []) (tss ++ ts ∷ []))
        ++ plain_triples l) none
        ∙ (append-nil (plain_triples (batch_triples (runs ++ run ∷ []) (tss ++ ts ∷ []))) ∙ plain_are k)

  -- the batch of a file is added, while the current one is empty
  module _ (g : List StringTriple) (run : List (List ℕ)) (ts : List Triple)
      (b : known → IsBatchOf (map record_triple g) run ts) (none : all ≡ []) where
    file_are : known → batch_triples (runs ++ run ∷ []) (tss ++ ts ∷ []) ≡ batch_triples runs tss ++ map record_triple g
    file_are k = triples_more runs tss run ts (h.finished k).long
        ∙ ap (λ (l : List StringTriple). batch_triples runs tss ++ l) (b k).triples

    file_plain : known → plain_triples (batch_triples (runs ++ run ∷ []) (tss ++ ts ∷ []))
        ≡ plain_triples (batch_triples runs tss) ++ g
    file_plain k = ap plain_triples (file_are k)
        ∙ (map-append (λ (u : StringTriple). (plain u.0, plain u.1, plain u.2)) (batch_triples runs tss)
        (map record_triple g)
        ∙ ap (λ (l : List StringTriple). plain_triples (batch_triples runs tss) ++ l) (plain_records g))

    pub file_had : 0 < length g → HaveRecords known (runs ++ run ∷ []) (tss ++ ts ∷ []) c
    file_had filled = record {
      sound = h.sound;
      current = h.current;
      finished = λ k. subst (AreBatches (runs ++ run ∷ []) (tss ++ ts ∷ [])) (sym (file_plain k))
          (batch_added runs tss (plain_triples (batch_triples runs tss)) (h.finished k) g run ts (b k));
      some = λ k e. absurd (omega (
        arith,
        ap length (end_empty (batch_triples runs tss) (map record_triple g) (sym (file_are k) ∙ e)),
        length-map g record_triple,
        filled,
      ));
    }

    pub file_is : known → plain_triples (batch_triples (runs ++ run ∷ []) (tss ++ ts ∷ [])) ++ plain_triples all
        ≡ (plain_triples (batch_triples runs tss) ++ plain_triples all) ++ g
    file_is k =
        let before = plain_triples (batch_triples runs tss) in
        (λ i. file_plain k i ++ plain_triples (none i))
        ∙ (append-nil (before ++ g)
        ∙ ap (λ (l : List StringTriple). l ++ g)
        (sym (append-nil before) ∙ ap (λ (l : List StringTriple). before ++ plain_triples l) (sym none)))
