-- The definitions of front coding by index and by recursion are equivalent.
use Rattle.std.proofs.Common.{◌≡◌, ◌≢◌, ℕ, zero, suc, ◌+◌, ◌-◌, ◌/◌, ◌<◌, ◌||◌, Bool, true, false, List, [], ◌∷◌}
use Rattle.std.proofs.Common.{length, take, get_or, nat_eq, refl, sym, ap, subst, ◌∙◌, arith, length-append, add-zero}
use Rattle.std.proofs.Common.{add-one, zero-add, Ordering}
use Rattle.std.specs.List.{concat}
use Rattle.std.specs.Str.{is_utf8}
use Rattle.std.specs.Ordering.{nat_cmp, is_lt}
use Rattle.std.specs.Cmp.Lexicographic.{slice_cmp}
use Rattle.std.specs.declared.cmp.Ordering.TheVariants.{Less, Equal, Greater}
use Rattle.std.proofs.lemmas.Bool.{eqb-false}
use Rattle.std.proofs.lemmas.Bool.Decides.{nat_tests}
use Rattle.std.proofs.lemmas.Str.{is_utf8-from_IsUtf8, IsUtf8-from_is_utf8}
use Rattle.std.proofs.lemmas.Map.Keys.{Less-from_sorted, sorted_from_all_adjacent}
use Rattle.std.specs.Cmp.Lexicographic.{nat_list_cmp_total}
use Rattle.hdt_front.specs.Order.{string_cmp}
use Rattle.hdt_wire.specs.Control.{HasNoZero}
use Rattle.hdt_front.specs.Decoding.{is_block_start}
use Rattle.hdt_front.specs.StringChecks.{precedes}
use Rattle.hdt_front.specs.FrontCoding.{IsEntry}
use Rattle.hdt_front.specs.Laws.FrontCodingSteps.{AreEntries, AreBlockStarts, IsFrontCodedFrom, NoZero, Ascending}
use Rattle.hdt_front.specs.Section.{before, AreFrontCoded, AreSectionStrings}

-- ---- entries

lengths : (b i : ℕ) (last : List ℕ) (strings entries : List (List ℕ)) → AreEntries b i last strings entries
    → length entries ≡ length strings
unfolding AreEntries
lengths b i last [] [] h = refl
lengths b i last [] (p ∷ ps) h = absurd h
lengths b i last (s ∷ ss) [] h = absurd h
lengths b i last (s ∷ ss) (p ∷ ps) h = ap suc (lengths b (i + 1) s ss ps h.1)

each_piece : (b i : ℕ) (last : List ℕ) (strings entries : List (List ℕ)) → AreEntries b i last strings entries
    → (k : ℕ) → k < length strings
    → IsEntry (is_block_start b (i + k)) (get_or (last ∷ strings) k []) (get_or strings k []) (get_or entries k [])
unfolding AreEntries
each_piece b i last [] entries h k lt = absurd (omega (arith, lt))
each_piece b i last (s ∷ ss) [] h k lt = absurd h
each_piece b i last (s ∷ ss) (p ∷ ps) h zero lt =
    subst (λ (n : ℕ). IsEntry (is_block_start b n) last s p) (sym (add-zero i)) h.0
each_piece b i last (s ∷ ss) (p ∷ ps) h (suc k) lt =
    let next : (i + 1) + k ≡ i + suc k = omega arith in
    subst (λ (n : ℕ). IsEntry (is_block_start b n) (get_or (s ∷ ss) k []) (get_or ss k []) (get_or ps k [])) next
    (each_piece b (i + 1) s ss ps h.1 k (omega (arith, lt)))

all_pieces : (b i : ℕ) (last : List ℕ) (strings entries : List (List ℕ)) → length entries ≡ length strings
    → ((k : ℕ) → k < length strings
    → IsEntry (is_block_start b (i + k)) (get_or (last ∷ strings) k []) (get_or strings k []) (get_or entries k []))
    → AreEntries b i last strings entries
unfolding AreEntries
all_pieces b i last [] [] same each = tt
all_pieces b i last [] (p ∷ ps) same each = absurd (omega (arith, same))
all_pieces b i last (s ∷ ss) [] same each = absurd (omega (arith, same))
all_pieces b i last (s ∷ ss) (p ∷ ps) same each = (
  subst (λ (n : ℕ). IsEntry (is_block_start b n) last s p) (add-zero i) (each 0 (omega arith)),
  all_pieces b (i + 1) s ss ps (omega (arith, same)) (λ k lt.
      let next : i + suc k ≡ (i + 1) + k = omega arith in
      subst (λ (n : ℕ). IsEntry (is_block_start b n) (get_or (s ∷ ss) k []) (get_or ss k []) (get_or ps k [])) next
      (each (suc k) (omega (arith, lt)))),
)

-- ---- block offsets

each_start : (b i at : ℕ) (entries : List (List ℕ)) (starts : List ℕ) → AreBlockStarts b i at entries starts
    → (k : ℕ) → k < length entries → is_block_start b (i + k) ≡ true
    → get_or starts ((i + k) / b) 0 ≡ at + length (concat (take k entries))
unfolding AreBlockStarts
each_start b i at [] starts h k lt head = absurd (omega (arith, lt))
each_start b i at (p ∷ ps) starts h zero lt head =
    let same : i + 0 ≡ i = add-zero i in
    ap (λ (n : ℕ). get_or starts (n / b) 0) same ∙ h.0 (subst (λ (n : ℕ). is_block_start b n ≡ true) same head)
    ∙ sym (add-zero at)
each_start b i at (p ∷ ps) starts h (suc k) lt head =
    let next : i + suc k ≡ (i + 1) + k = omega arith in
    let more = each_start b (i + 1) (at + length p) ps starts h.1 k (omega (arith, lt))
    (subst (λ (n : ℕ). is_block_start b n ≡ true) next head) in
    ap (λ (n : ℕ). get_or starts (n / b) 0) next ∙ omega (arith, more, length-append p (concat (take k ps)))

last_start : (b i at : ℕ) (entries : List (List ℕ)) (starts : List ℕ) → AreBlockStarts b i at entries starts
    → 0 < i + length entries → get_or starts ((i + length entries + (b - 1)) / b) 0 ≡ at + length (concat entries)
unfolding AreBlockStarts
last_start b i at [] starts h some =
    let same : i + 0 ≡ i = add-zero i in
    ap (λ (n : ℕ). get_or starts ((n + (b - 1)) / b) 0) same ∙ h (omega (arith, some)) ∙ sym (add-zero at)
last_start b i at (p ∷ ps) starts h some =
    let next : i + suc (length ps) ≡ (i + 1) + length ps = omega arith in
    ap (λ (n : ℕ). get_or starts ((n + (b - 1)) / b) 0) next
    ∙ omega (arith, last_start b (i + 1) (at + length p) ps starts h.1 (omega arith), length-append p (concat ps))

all_starts : (b i at : ℕ) (entries : List (List ℕ)) (starts : List ℕ)
    → ((k : ℕ) → k < length entries → is_block_start b (i + k) ≡ true
    → get_or starts ((i + k) / b) 0 ≡ at + length (concat (take k entries)))
    → (0 < i + length entries → get_or starts ((i + length entries + (b - 1)) / b) 0 ≡ at + length (concat entries))
    → AreBlockStarts b i at entries starts
unfolding AreBlockStarts
all_starts b i at [] starts each last = λ some.
    let same : i + 0 ≡ i = add-zero i in
    sym (ap (λ (n : ℕ). get_or starts ((n + (b - 1)) / b) 0) same) ∙ last (omega (arith, some)) ∙ add-zero at
all_starts b i at (p ∷ ps) starts each last =
    let same : i + 0 ≡ i = add-zero i in (
      (λ head. sym (ap (λ (n : ℕ). get_or starts (n / b) 0) same)
          ∙ each 0 (omega arith) (subst (λ (n : ℕ). is_block_start b n ≡ true) (sym same) head) ∙ add-zero at),
      all_starts b (i + 1) (at + length p) ps starts
          (λ k lt head.
          let next : i + suc k ≡ (i + 1) + k = omega arith in
          let e = each (suc k) (omega (arith, lt)) (subst (λ (n : ℕ). is_block_start b n ≡ true) (sym next) head) in
          sym (ap (λ (n : ℕ). get_or starts (n / b) 0) next) ∙ omega (arith, e, length-append p (concat (take k ps))))
          (λ some.
          let next : i + suc (length ps) ≡ (i + 1) + length ps = omega arith in
          let e = last (omega arith) in
          sym (ap (λ (n : ℕ). get_or starts ((n + (b - 1)) / b) 0) next)
          ∙ omega (arith, e, length-append p (concat ps))),
    )

-- ---- the section

pub front_coded_found : (b : ℕ) (strings : List (List ℕ)) (packed starts : List ℕ)
    → IsFrontCodedFrom b 0 0 [] strings packed starts → AreFrontCoded b strings packed starts
front_coded_found b strings packed starts h =
    let same = lengths b 0 [] strings h.entries h.each in
    record {
      entries = h.entries;
      joined = h.joined;
      one_each = same;
      each = λ i lt. subst (λ (n : ℕ). IsEntry (is_block_start b n) (before strings i) (get_or strings i [])
          (get_or h.entries i [])) (zero-add i) (each_piece b 0 [] strings h.entries h.each i lt);
      heads = λ i lt head.
          ap (λ (n : ℕ). get_or starts (n / b) 0) (sym (zero-add i))
          ∙ each_start b 0 0 h.entries starts h.places i (omega (arith, same, lt))
          (subst (λ (n : ℕ). is_block_start b n ≡ true) (sym (zero-add i)) head) ∙ zero-add _;
      last = λ some.
          let all : length strings ≡ 0 + length h.entries = omega (arith, same) in
          ap (λ (n : ℕ). get_or starts ((n + (b - 1)) / b) 0) all
          ∙ last_start b 0 0 h.entries starts h.places (omega (arith, same, some))
          ∙ zero-add (length (concat h.entries)) ∙ sym (ap length h.joined);
    }

pub front_coded_only : (b : ℕ) (strings : List (List ℕ)) (packed starts : List ℕ)
    → AreFrontCoded b strings packed starts → IsFrontCodedFrom b 0 0 [] strings packed starts
front_coded_only b strings packed starts h = record {
  entries = h.entries;
  joined = h.joined;
  each = all_pieces b 0 [] strings h.entries h.one_each
      (λ k lt. subst (λ (n : ℕ). IsEntry (is_block_start b n) (before strings k) (get_or strings k [])
      (get_or h.entries k []))
      (sym (zero-add k)) (h.each k lt));
  places = all_starts b 0 0 h.entries starts
      (λ k lt head. ap (λ (n : ℕ). get_or starts (n / b) 0) (zero-add k)
      ∙ h.heads k (omega (arith, h.one_each, lt)) (subst (λ (n : ℕ). is_block_start b n ≡ true) (zero-add k) head)
      ∙ sym (zero-add _))
      (λ some.
      let all : 0 + length h.entries ≡ length strings = omega (arith, h.one_each) in
      ap (λ (n : ℕ). get_or starts ((n + (b - 1)) / b) 0) all ∙ h.last (omega (arith, h.one_each, some))
      ∙ ap length h.joined ∙ sym (zero-add (length (concat h.entries))));
}

-- ---- strings

pub nonzero_from : (s : List ℕ) → NoZero s → HasNoZero s
unfolding NoZero
nonzero_from [] h k d lt = absurd (omega (arith, lt))
nonzero_from (c ∷ cs) h zero d lt = eqb-false _ _ h.0
nonzero_from (c ∷ cs) h (suc k) d lt = nonzero_from cs h.1 k d (omega (arith, lt))

nonzero_test : (c : ℕ) → c ≢ 0 → nat_eq c 0 ≡ false
nonzero_test c ne = grind (arith, ne, nat_tests)

pub nonzero_to : (s : List ℕ) → HasNoZero s → NoZero s
unfolding NoZero
nonzero_to [] h = tt
nonzero_to (c ∷ cs) h = (
  nonzero_test c (h 0 0 (omega arith)),
  nonzero_to cs (λ k d lt. h (suc k) d (omega (arith, lt))),
)

pub less_from : (o : Ordering) → is_lt o ≡ true → o ≡ Less
less_from Less e = refl
less_from Equal e = absurd (cc)
less_from Greater e = absurd (cc)

later : (n : ℕ) → nat_eq (suc n) 0 ≡ false
later n = grind (arith, nat_tests)

record StringHolds (i : ℕ) (last string : List ℕ) : Type 0 where
  utf8 : is_utf8 string ≡ true
  no_zero : NoZero string
  after : (nat_eq i 0 || precedes last string) ≡ true

each_string : (i : ℕ) (last : List ℕ) (strings : List (List ℕ)) → Ascending i last strings → (k : ℕ)
    → k < length strings → StringHolds (i + k) (get_or (last ∷ strings) k []) (get_or strings k [])
unfolding Ascending
each_string i last [] h k lt = absurd (omega (arith, lt))
each_string i last (s ∷ ss) h zero lt =
    subst (λ (n : ℕ). StringHolds n last s) (sym (add-zero i)) (record { utf8 = h.0; no_zero = h.1; after = h.2 })
each_string i last (s ∷ ss) h (suc k) lt =
    let next : (i + 1) + k ≡ i + suc k = omega arith in
    subst (λ (n : ℕ). StringHolds n (get_or (s ∷ ss) k []) (get_or ss k [])) next
    (each_string (i + 1) s ss h.3 k (omega (arith, lt)))

all_strings : (i : ℕ) (last : List ℕ) (strings : List (List ℕ))
    → ((k : ℕ) → k < length strings → StringHolds (i + k) (get_or (last ∷ strings) k []) (get_or strings k []))
    → Ascending i last strings
unfolding Ascending
all_strings i last [] each = tt
all_strings i last (s ∷ ss) each =
    let first = subst (λ (n : ℕ). StringHolds n last s) (add-zero i) (each 0 (omega arith)) in (
      first.utf8,
      first.no_zero,
      first.after,
      all_strings (i + 1) s ss (λ k lt.
          let next : i + suc k ≡ (i + 1) + k = omega arith in
          subst (λ (n : ℕ). StringHolds n (get_or (s ∷ ss) k []) (get_or ss k [])) next
          (each (suc k) (omega (arith, lt)))),
    )

pub strings_are : (strings : List (List ℕ)) → Ascending 0 [] strings → AreSectionStrings strings
strings_are strings h = record {
  utf8 = λ i lt. IsUtf8-from_is_utf8 (get_or strings i []) (each_string 0 [] strings h i lt).utf8;
  no_zero = λ i lt. nonzero_from (get_or strings i []) (each_string 0 [] strings h i lt).no_zero;
  ascend = sorted_from_all_adjacent nat_list_cmp_total strings [] (λ i lt.
      let next : 0 + (i + 1) ≡ suc i = omega arith in
      let s = each_string 0 [] strings h (i + 1) lt in
      let same : get_or ([] ∷ strings) (i + 1) [] ≡ get_or strings i [] =
      ap (λ (n : ℕ). get_or ([] ∷ strings) n []) (add-one i) in
      less_from _ (ap (λ (x : List ℕ). is_lt (slice_cmp nat_cmp x (get_or strings (i + 1) []))) (sym same)
      ∙ after_zero (0 + (i + 1)) (omega arith) (get_or ([] ∷ strings) (i + 1) [])
      (get_or strings (i + 1) []) s.after));
}
  where
    after_zero : (n : ℕ) → 0 < n → (x y : List ℕ) → (nat_eq n 0 || precedes x y) ≡ true → precedes x y ≡ true
    after_zero zero lt x y e = absurd (omega (arith, lt))
    after_zero (suc n) lt x y e = rw later at e

pub strings_ascend : (strings : List (List ℕ)) → AreSectionStrings strings → Ascending 0 [] strings
strings_ascend strings h = all_strings 0 [] strings (λ k lt. record {
  utf8 = is_utf8-from_IsUtf8 (get_or strings k []) (h.utf8 k lt);
  no_zero = nonzero_to (get_or strings k []) (h.no_zero k lt);
  after = by k lt;
})
  where
    by : (k : ℕ) → k < length strings
        → (nat_eq (0 + k) 0 || precedes (get_or ([] ∷ strings) k []) (get_or strings k [])) ≡ true
    by zero lt = refl
    by (suc k) lt =
        let next : k + 1 ≡ suc k = add-one k in
        let below : k + 1 < length strings = omega (arith, lt) in
        let less = subst (λ (n : ℕ). slice_cmp nat_cmp (get_or strings k []) (get_or strings n [])
        ≡ Less) next (Less-from_sorted string_cmp strings k (k + 1) [] h.ascend (omega arith) below) in
        or_right (nat_eq (0 + suc k) 0) (precedes (get_or strings k []) (get_or strings (suc k) [])) (ap is_lt less)
      where
        or_right : (a b : Bool) → b ≡ true → (a || b) ≡ true
        or_right true b e = refl
        or_right false b e = e
