-- Properties of a header with a new length state that length, and have no zero byte.
use Rattle.std.proofs.Common.{◌≡◌, ◌≢◌, ℕ, ◌+◌, ◌-◌, ◌<◌, ◌^◌, zero, suc, Bool, true, false, cond, List, [], ◌∷◌, ◌++◌}
use Rattle.std.proofs.Common.{length, take, drop, Option, Some, None, refl, sym, ap, subst, ◌∙◌, arith, map}
use Rattle.std.specs.Prelude.{All, IsSomeAnd, codes, is_some, not, slice_get, option_map, if◌then◌else◌}
use Rattle.std.specs.Fmt.{decimal}
use Rattle.std.specs.List.{cons_option, filter_map, join_with_byte, onto_first, position_or_len, slice_split}
use Rattle.std.proofs.lemmas.Fmt.{decimal_is_IsNumeral}
use Rattle.std.proofs.lemmas.List.Elements.{All-append}
use Rattle.std.proofs.lemmas.List.{take_all}
use Rattle.std.proofs.lemmas.List.Splits.{slice_split_at, slice_split_first, slice_split_none}
use Rattle.std.proofs.lemmas.List.Sums.{prefix_len_passes}
use Rattle.hdt_wire.specs.Control.{HasNoZero}
use Rattle.hdt_wire.specs.Laws.Checks.{not-true}
use Rattle.hdt_wire.specs.Property.{is_byte, item_value, property_value}
use Rattle.hdt_file.specs.Head.{IsDecimal, StatesLength}
use Rattle.hdt_build.specs.NewHeader.{item_with_length, with_length}
use Rattle.hdt_build.proofs.Heads.{item_no_zero, no_semicolon, value}

-- each byte of each item has the property
abbrev EachByte : (ℕ → Type 0) → List (List ℕ) → Type 0
EachByte P [] = Unit {0}
EachByte P (p ∷ ps) = All P p × EachByte P ps

all_none : (P : ℕ → Type 0) → All P []
all_none P k d lt = absurd (omega arith)

all_cons : (P : ℕ → Type 0) (x : ℕ) (xs : List ℕ) → P x → All P xs → All P (x ∷ xs)
all_cons P x xs h t zero d lt = h
all_cons P x xs h t (suc k) d lt = t k d (omega arith)

all_rest : (P : ℕ → Type 0) (x : ℕ) (xs : List ℕ) → All P (x ∷ xs) → All P xs
all_rest P x xs h k d lt = h (suc k) d (omega arith)

-- ---- the items of a text

split_step : (P : ℕ → Type 0) (x : ℕ) (b : Bool) (ps : List (List ℕ)) → (b ≡ false → P x) → EachByte P ps
    → EachByte P (cond b ([] ∷ ps) (onto_first x ps))
split_step P x true ps one h = (all_none P, h)
split_step P x false [] one h = (all_cons P x [] (one refl) (all_none P), tt)
split_step P x false (p ∷ ps) one h = (all_cons P x p (one refl) h.0, h.1)

no_semicolons : (text : List ℕ) → EachByte (λ b. is_byte 59 b ≡ false) (slice_split (is_byte 59) text)
no_semicolons [] = (all_none (λ b. is_byte 59 b ≡ false), tt)
no_semicolons (x ∷ xs) =
    split_step (λ b. is_byte 59 b ≡ false) x (is_byte 59 x) _ (λ e. e) (no_semicolons xs)

no_zeros : (text : List ℕ) → HasNoZero text → EachByte (λ b. b ≢ 0) (slice_split (is_byte 59) text)
no_zeros [] h = (all_none (λ b. b ≢ 0), tt)
no_zeros (x ∷ xs) h =
    split_step (λ b. b ≢ 0) x (is_byte 59 x) _ (λ _. h 0 0 (omega arith)) (no_zeros xs (all_rest (λ b. b ≢ 0) x xs h))

-- items without ';', joined by it, are split again
split_again : (p : List ℕ) (ps : List (List ℕ)) → EachByte (λ b. is_byte 59 b ≡ false) (p ∷ ps)
    → slice_split (is_byte 59) (join_with_byte 59 (p ∷ ps)) ≡ p ∷ ps
split_again p [] h = slice_split_none (is_byte 59) p h.0
split_again p (q ∷ ps) h = slice_split_at (is_byte 59) p 59 (join_with_byte 59 (q ∷ ps)) h.0 refl
    ∙ ap (λ (qs : List (List ℕ)). p ∷ qs) (split_again q ps h.1)

joined_no_zero : (ps : List (List ℕ)) → EachByte (λ b. b ≢ 0) ps → HasNoZero (join_with_byte 59 ps)
joined_no_zero [] h = all_none (λ b. b ≢ 0)
joined_no_zero (p ∷ []) h = h.0
joined_no_zero (p ∷ q ∷ ps) h =
    All-append (λ (b : ℕ). b ≢ 0) p (59 ∷ join_with_byte 59 (q ∷ ps)) h.0
    (all_cons (λ b. b ≢ 0) 59 _ (λ e. absurd (omega (arith, e))) (joined_no_zero (q ∷ ps) h.1))

-- ---- the items with another length

item_case : (P : ℕ → Type 0) (b : Bool) (one other : List ℕ) → All P one → All P other
    → All P (if b then one else other)
item_case P true one other h k = h
item_case P false one other h k = k

each_item : (P : ℕ → Type 0) (n : ℕ) → All P (codes "length=" ++ decimal n) → (ps : List (List ℕ)) → EachByte P ps
    → EachByte P (map (item_with_length n) ps)
each_item P n stated [] h = tt
each_item P n stated (p ∷ ps) h = (
  item_case P (is_some (property_value p (codes "length"))) (codes "length=" ++ decimal n) p stated h.0,
  each_item P n stated ps h.1,
)

last_of_one : (o : Option (List ℕ)) → slice_get (cons_option o []) (length (cons_option o []) - 1) ≡ o
last_of_one None = refl
last_of_one (Some v) = refl

-- the value of a property in a text of one item
value_of_item : (p : List ℕ) → All (λ b. is_byte 59 b ≡ false) p
    → property_value p (codes "length") ≡ item_value (codes "length") p
unfolding property_value
value_of_item p h = rw (slice_split_none (is_byte 59) p h) (last_of_one (item_value (codes "length") p))

new_value : (n : ℕ) (p : List ℕ) (o : Option (List ℕ)) → item_value (codes "length") p ≡ o
    → item_value (codes "length") (if is_some o then codes "length=" ++ decimal n else p)
    ≡ option_map (λ _. decimal n) o
new_value n p None e = e
new_value n p (Some v) e = value (decimal n)

new_item : (n : ℕ) (p : List ℕ) → All (λ b. is_byte 59 b ≡ false) p
    → item_value (codes "length") (item_with_length n p) ≡ option_map (λ _. decimal n) (item_value (codes "length") p)
new_item n p h =
    rw (value_of_item p h) (new_value n p (item_value (codes "length") p) refl)

cons_mapped : (n : ℕ) (o : Option (List ℕ)) (vs : List (List ℕ))
    → cons_option (option_map (λ _. decimal n) o) (map (λ _. decimal n) vs)
    ≡ map (λ _. decimal n) (cons_option o vs)
cons_mapped n None vs = refl
cons_mapped n (Some v) vs = refl

-- each length that is stated becomes the new one
new_values : (n : ℕ) (ps : List (List ℕ)) → EachByte (λ b. is_byte 59 b ≡ false) ps
    → filter_map (item_value (codes "length")) (map (item_with_length n) ps)
    ≡ map (λ _. decimal n) (filter_map (item_value (codes "length")) ps)
new_values n [] h = refl
new_values n (p ∷ ps) h =
    ap (λ (o : Option (List ℕ)). cons_option o
    (filter_map (item_value (codes "length")) (map (item_with_length n) ps))) (new_item n p h.0)
    ∙ ap (cons_option (option_map (λ _. decimal n) (item_value (codes "length") p))) (new_values n ps h.1)
    ∙ cons_mapped n (item_value (codes "length") p) (filter_map (item_value (codes "length")) ps)

last_is : (n : ℕ) (v : List ℕ) (vs : List (List ℕ))
    → slice_get (map (λ _. decimal n) (v ∷ vs)) (length (map (λ _. decimal n) vs)) ≡ Some (decimal n)
last_is n v [] = refl
last_is n v (w ∷ vs) = last_is n w vs

last_value : (n : ℕ) (vs : List (List ℕ)) (Holds : List ℕ → Type 0) → IsSomeAnd (slice_get vs (length vs - 1)) Holds
    → slice_get (map (λ _. decimal n) vs) (length (map (λ _. decimal n) vs) - 1) ≡ Some (decimal n)
last_value n [] Holds h = absurd h
last_value n (v ∷ vs) Holds h =
    let ls : List (List ℕ) = map (λ _. decimal n) vs in
    let e : length (decimal n ∷ ls) - 1 ≡ length ls = omega arith in
    rw e (last_is n v vs)

split_of_joined : (n : ℕ) (ps : List (List ℕ)) → EachByte (λ b. is_byte 59 b ≡ false) (map (item_with_length n) ps)
    → ps ≢ [] → slice_split (is_byte 59) (join_with_byte 59 (map (item_with_length n) ps)) ≡ map (item_with_length n) ps
split_of_joined n [] h some = absurd (some refl)
split_of_joined n (p ∷ ps) h some = split_again (item_with_length n p) (map (item_with_length n) ps) h

none_first : (x : ℕ) (b : Bool) (ps : List (List ℕ)) → cond b ([] ∷ ps) (onto_first x ps) ≢ []
none_first x true ps e = absurd cc
none_first x false [] e = absurd cc
none_first x false (p ∷ ps) e = absurd cc

some_item : (text : List ℕ) → slice_split (is_byte 59) text ≢ []
some_item [] e = absurd cc
some_item (x ∷ xs) e = none_first x (is_byte 59 x) (slice_split (is_byte 59) xs) e

-- Properties that state a length state the new one.
pub new_length : (n m : ℕ) (text : List ℕ) → n < 2 ^ 64 → StatesLength text m → StatesLength (with_length n text) n
unfolding property_value with_length
new_length n m text small old =
    let ps : List (List ℕ) = slice_split (is_byte 59) text in
    let clean = no_semicolons text in
    let items = split_of_joined n ps (each_item (λ b. is_byte 59 b ≡ false) n (no_semicolon n small) ps clean)
    (some_item text) in
    let stated : property_value (with_length n text) (codes "length") ≡ Some (decimal n) =
    rw (items, new_values n ps clean)
    (last_value n (filter_map (item_value (codes "length")) ps) (λ t. IsDecimal t m) old) in
    let numeral = decimal_is_IsNumeral n small in
    let counts : IsDecimal (decimal n) n = record { digits = numeral.0; value = numeral.1 } in
    subst (λ (o : Option (List ℕ)). IsSomeAnd o (λ t. IsDecimal t n)) (sym stated) counts

-- They have no zero byte.
pub new_no_zero : (n : ℕ) (text : List ℕ) → n < 2 ^ 64 → HasNoZero text → HasNoZero (with_length n text)
unfolding with_length
new_no_zero n text small none =
    joined_no_zero (map (item_with_length n) (slice_split (is_byte 59) text))
    (each_item (λ b. b ≢ 0) n (item_no_zero n small) (slice_split (is_byte 59) text) (no_zeros text none))

-- ---- writing them item by item

no_items : (n : ℕ) (qs : List (List ℕ)) → qs ≢ [] → map (item_with_length n) qs ≢ []
no_items n [] some e = some refl
no_items n (q ∷ qs) some e = absurd cc

join_first : (p : List ℕ) (qs : List (List ℕ)) → qs ≢ []
    → join_with_byte 59 (p ∷ qs) ≡ p ++ (59 ∷ join_with_byte 59 qs)
join_first p [] some = absurd (some refl)
join_first p (q ∷ qs) some = refl

-- the first item, if there is a ';', and the rest after it
pub first_item : (n : ℕ) (rest : List ℕ) (k : ℕ) → k ≡ position_or_len (is_byte 59) rest → k < length rest
    → with_length n rest ≡ item_with_length n (take k rest) ++ (59 ∷ with_length n (drop (k + 1) rest))
unfolding with_length
first_item n rest k e lt =
    let after : List (List ℕ) = slice_split (is_byte 59) (drop (k + 1) rest) in
    let parts : slice_split (is_byte 59) rest ≡ take k rest ∷ after =
    rw e (slice_split_first (is_byte 59) rest 0 (rw (← e) lt)) in
    rw parts (join_first (item_with_length n (take k rest)) (map (item_with_length n) after)
    (no_items n after (some_item (drop (k + 1) rest))))

-- the last item
pub last_item : (n : ℕ) (rest : List ℕ) (k : ℕ) → k ≡ position_or_len (is_byte 59) rest → k ≡ length rest
    → with_length n rest ≡ item_with_length n (take k rest)
unfolding with_length
last_item n rest k e full =
    let p : ℕ → Bool = λ b. not (is_byte 59 b) in
    let none : All (λ b. is_byte 59 b ≡ false) rest =
    λ i d lt. not-true _ (prefix_len_passes p rest i d (omega (arith, lt, e, full))) in
    let all : take k rest ≡ rest = take_all k rest (omega (arith, full)) in
    rw (slice_split_none (is_byte 59) rest none, all) refl
