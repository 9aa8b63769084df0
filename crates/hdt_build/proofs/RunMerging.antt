-- Writing a section from two ascending runs, and storing the IDs of its strings.
use Rattle.std.proofs.Common.{◌≡◌, ◌∙◌, ◌⊎◌, inl, inr, ℕ, ◌+◌, ◌-◌, ◌<◌, ◌≤◌, List, [], ◌∷◌, ◌++◌, length, get_or, set}
use Rattle.std.proofs.Common.{refl, ap, sym, subst, arith}
use Rattle.std.specs.declared.cmp.Ordering.TheVariants.{Less}
use Rattle.std.specs.List.{Contains}
use Rattle.std.specs.Cmp.Lexicographic.{nat_list_cmp_total}
use Rattle.std.proofs.lemmas.Bool.{cases_lt, cases_eq}
use Rattle.std.proofs.lemmas.List.{get_or_push, get_or_append_left, get_or-append_right, length_push, length-append}
use Rattle.std.proofs.lemmas.List.{length-set, get_or-set_same, get_or-set_other}
use Rattle.std.proofs.lemmas.List.Elements.{Contains-push_cases, Contains-get_or}
use Rattle.std.proofs.lemmas.Map.Keys.{sorted_from_all_adjacent}
use Rattle.hdt_front.specs.Order.{IsAscending, string_cmp}
use Rattle.hdt_build.specs.Inside.Rewriting.{IsIdAfter, IsWrittenSection, IsIdOf}
use Rattle.hdt_build.specs.Inside.SortedEntries.{last_of}
use Rattle.hdt_build.proofs.Deduplication.{ascends_on}
use Rattle.hdt_build.proofs.StringsOfIds.{term_is, term_in}

-- an ID in a list is one in a longer list, and after another list
pub id_in_longer : (xs ys : List (List ℕ)) (x : List ℕ) (n : ℕ) → IsIdOf xs x n → IsIdOf (xs ++ ys) x n
id_in_longer xs ys x n h = record {
  from_one = h.from_one;
  within = omega (arith, h.within, length-append xs ys);
  is = term_is (xs ++ ys) n h.from_one
      ∙ (get_or_append_left xs ys [] (n - 1) (omega (arith, h.from_one, h.within))
      ∙ (sym (term_is xs n h.from_one) ∙ h.is));
}

pub id_after : (xs ys : List (List ℕ)) (x : List ℕ) (v : ℕ) → IsIdAfter (length xs) ys x v → IsIdOf (xs ++ ys) x v
id_after xs ys x v h =
    let n : ℕ = h.id in
    let from = h.is_id.from_one in
    let to = h.is_id.within in
    let is = h.value in
    let at : v - 1 - length xs ≡ n - 1 = omega (arith, from, is) in
    record {
      from_one = omega (arith, from, is);
      within = omega (arith, to, is, length-append xs ys);
      is = term_is (xs ++ ys) v (omega (arith, from, is))
          ∙ (get_or-append_right xs ys (length xs) (v - 1) [] refl (omega (arith, from, is))
          ∙ (ap (λ (i : ℕ). get_or ys i []) at ∙ (sym (term_is ys n from) ∙ h.is_id.is)));
    }

pub has_id : {count : ℕ} {strings : List (List ℕ)} {y x : List ℕ} {v : ℕ} → IsIdAfter count strings y v → y ≡ x
    → Contains strings x
has_id {strings = strings} h is =
    subst (Contains strings) (h.is_id.is ∙ is) (term_in strings h.id h.is_id.from_one h.is_id.within)

last_id : (xs : List (List ℕ)) (x : List ℕ) → IsIdOf (xs ++ x ∷ []) x (length xs + 1)
last_id xs x = record {
  from_one = omega arith;
  within = omega (arith, length_push xs x);
  is = term_is (xs ++ x ∷ []) (length xs + 1) (omega arith) ∙ get_or_push xs x [] (length xs + 1 - 1) (omega arith);
}

-- ---- what has been written and stored so far, of strings by index, some of which remain

pub record InWork (keeps : ℕ → Type 0) (string : ℕ → List ℕ) (ahead : ℕ
    → Type 0) (count : ℕ) (strings : List (List ℕ)) (before after : List ℕ) : Type 0 where
  pub ascend : IsAscending strings
  pub each : (x : List ℕ) → Contains strings x → (k : ℕ) × keeps k × (string k ≡ x)
  pub ids : (k : ℕ) → keeps k → ahead k ⊎ IsIdAfter count strings (string k) (get_or after k 0)
  pub others : (k : ℕ) → (keeps k → ⊥) → get_or after k 0 ≡ get_or before k 0
  pub long : length after ≡ length before
  pub below : (x : List ℕ) → Contains strings x → (k : ℕ) → ahead k → string_cmp x (string k) ≡ Less

-- the indices that remain in the two runs
abbrev pub Ahead : ℕ → ℕ → ℕ → ℕ → ℕ → Type 0
Ahead i cut j end k = ((i ≤ k) × (k < cut)) ⊎ ((j ≤ k) × (k < end))

turned : (i cut j end k : ℕ) → Ahead i cut j end k → Ahead j end i cut k
turned i cut j end k (inl h) = inr h
turned i cut j end k (inr h) = inl h

module _ (keeps : ℕ → Type 0) (string : ℕ → List ℕ) (count : ℕ) (before : List ℕ) where
  ahead_else : (P Q : Type 0) (R : Type 0) → (P → Q) → P ⊎ R → Q ⊎ R
  ahead_else P Q R f (inl p) = inl (f p)
  ahead_else P Q R f (inr r) = inr r

  pub turn : (i cut j end : ℕ) (strings : List (List ℕ)) (after : List ℕ)
      → InWork keeps string (Ahead i cut j end) count strings before after
      → InWork keeps string (Ahead j end i cut) count strings before after
  turn i cut j end strings after h = record {
    ascend = h.ascend;
    each = h.each;
    ids = λ k keep. ahead_else _ _ _ (turned i cut j end k) (h.ids k keep);
    others = h.others;
    long = h.long;
    below = λ x there k more. h.below x there k (turned j end i cut k more);
  }

  -- nothing is written yet
  pub begun : (i cut j end : ℕ) → ((k : ℕ) → keeps k → k < end) → ((k : ℕ) → k < i → keeps k → ⊥)
      → ((k : ℕ) → cut ≤ k → k < j → keeps k → ⊥) → InWork keeps string (Ahead i cut j end) count [] before before
  begun i cut j end small first second = record {
    ascend = sorted_from_all_adjacent nat_list_cmp_total [] [] (λ k lt. absurd (omega (arith, lt)));
    each = λ x there. absurd (omega (arith, there.1));
    ids = λ k keep. inl (elim (cases_lt k cut) [
      | inl one ↦ elim (cases_lt k i) [
        | inl passed ↦ absurd (first k passed keep)
        | inr more ↦ inl (more, one)
      ]
      | inr two ↦ elim (cases_lt k j) [
        | inl passed ↦ absurd (second k two passed keep)
        | inr more ↦ inr (more, small k keep)
      ]
    ]);
    others = λ k _. refl;
    long = refl;
    below = λ x there k _. absurd (omega (arith, there.1));
  }

  -- no string remains
  pub finished : (strings : List (List ℕ)) (after : List ℕ) (ahead : ℕ → Type 0)
      → InWork keeps string ahead count strings before after → ((k : ℕ) → ahead k → ⊥)
      → IsWrittenSection keeps string count strings before after
  finished strings after ahead h none = record {
    ascend = h.ascend;
    each = h.each;
    ids = λ k keep. elim (h.ids k keep) [
      | inl more ↦ absurd (none k more)
      | inr noted ↦ noted
    ];
    others = h.others;
    long = h.long;
  }

  -- the string at an index is written
  module _ (strings : List (List ℕ)) (after : List ℕ) (ahead rest : ℕ
      → Type 0) (h : InWork keeps string ahead count strings before after) where
    one_more : (n v : ℕ) → keeps n → ahead n → n < length after → v ≡ count + (length strings + 1)
        → ((k : ℕ) → keeps k → ahead k → (k ≡ n) ⊎ rest k) → ((k : ℕ) → rest k → ahead k)
        → ((k : ℕ) → rest k → string_cmp (string n) (string k) ≡ Less)
        → InWork keeps string rest count (strings ++ string n ∷ []) before (set after n v)
    one_more n v kept here in' is cases still above = record {
      ascend = ascends_on strings (string n) h.ascend
          (λ some. h.below (last_of strings) (Contains-get_or strings (length strings - 1) [] (omega (arith, some))) n
          here);
      each = λ x there. elim (Contains-push_cases strings (string n) x there) [
        | inl old ↦ h.each x old
        | inr same ↦ (n, kept, same)
      ];
      ids = λ k keep. elim (cases_eq k n) [
        | inl same ↦ inr (subst (λ (m : ℕ). IsIdAfter count (strings ++ string n ∷ []) (string m)
            (get_or (set after n v) m 0)) (sym same) (record {
              id = length strings + 1;
              is_id = last_id strings (string n);
              value = get_or-set_same after n v 0 in' ∙ is;
            }))
        | inr apart ↦ elim (h.ids k keep) [
          | inl more ↦ elim (cases k keep more) [
            | inl same ↦ absurd (apart same)
            | inr later ↦ inl later
          ]
          | inr old ↦ inr (record {
            id = old.id;
            is_id = id_in_longer strings (string n ∷ []) (string k) old.id old.is_id;
            value = get_or-set_other after n k v 0 apart ∙ old.value;
          })
        ]
      ];
      others = λ k none. get_or-set_other after n k v 0 (λ same. none (subst keeps (sym same) kept)) ∙ h.others k none;
      long = length-set after n v ∙ h.long;
      below = λ x there k more. elim (Contains-push_cases strings (string n) x there) [
        | inl old ↦ h.below x old k (still k more)
        | inr same ↦ subst (λ (y : List ℕ). string_cmp y (string k) ≡ Less) same (above k more)
      ];
    }

  -- the next string of the first run is written, and the run advances
  pub taken : (i cut j end at v : ℕ) (strings : List (List ℕ)) (after : List ℕ)
      → InWork keeps string (Ahead i cut j end) count strings before after
      → keeps i → i < cut → i < length after → v ≡ count + (length strings + 1) → i + 1 ≤ at
      → ((k : ℕ) → i + 1 ≤ k → k < at → keeps k → ⊥)
      → ((k : ℕ) → i < k → k < cut → string_cmp (string i) (string k) ≡ Less)
      → ((k : ℕ) → j ≤ k → k < end → string_cmp (string i) (string k) ≡ Less)
      → InWork keeps string (Ahead at cut j end) count (strings ++ string i ∷ []) before (set after i v)
  taken i cut j end at v strings after h kept there in' is on passed up other =
      one_more strings after (Ahead i cut j end) (Ahead at cut j end) h i v kept (inl (omega arith, there)) in' is
      (λ k keep more. cases k keep more) (λ k more. still k more) (λ k more. above k more)
    where
      cases : (k : ℕ) → keeps k → Ahead i cut j end k → (k ≡ i) ⊎ Ahead at cut j end k
      cases k keep (inl m) = elim (cases_eq k i) [
        | inl same ↦ inl same
        | inr apart ↦ elim (cases_lt k at) [
          | inl between ↦ absurd (passed k (omega (arith, m.0, apart)) between keep)
          | inr later ↦ inr (inl (later, m.1))
        ]
      ]
      cases k keep (inr m) = inr (inr m)

      still : (k : ℕ) → Ahead at cut j end k → Ahead i cut j end k
      still k (inl m) = inl (omega (arith, m.0, on), m.1)
      still k (inr m) = inr m

      above : (k : ℕ) → Ahead at cut j end k → string_cmp (string i) (string k) ≡ Less
      above k (inl m) = up k (omega (arith, m.0, on)) m.1
      above k (inr m) = other k m.0 m.1
