-- The items of properties, one after another.
use Rattle.std.proofs.Common.{◌≡◌, ℕ, ◌+◌, ◌<◌, Bool, true, false, List, [], ◌∷◌, length, take, drop, Option, Some}
use Rattle.std.proofs.Common.{None, refl, sym, ap, ◌∙◌, arith, All}
use Rattle.std.specs.Prelude.{◌-◌, fold, not, slice_get}
use Rattle.std.specs.Borrow.{Bor}
use Rattle.std.specs.Option.{option_or, option_copied}
use Rattle.std.specs.List.{position_or_len, slice_split, filter_map, cons_option}
use Rattle.std.proofs.lemmas.List.Sums.{prefix_len_passes}
use Rattle.std.proofs.lemmas.List.Splits.{slice_split_first, slice_split_none}
use Rattle.std.proofs.lemmas.List.{take_all}
use Rattle.hdt_wire.specs.Property.{is_byte, item_value, property_value}

-- the last value, after one more item
abbrev pub latest_value : Option (List ℕ) → Option (List ℕ) → Option (List ℕ)
latest_value found None = found
latest_value found (Some value) = Some value

pub latest_is : (value found made : Option (Bor (List ℕ))) → made ≡ option_or value found
    → option_copied made ≡ latest_value (option_copied found) (option_copied value)
latest_is None found made e = ap option_copied e
latest_is (Some v) found made e = ap option_copied e

abbrev pub counted : List ℕ → Option (List ℕ) → List (List ℕ) → Option (List ℕ)
counted key found pieces = fold (λ found piece. latest_value found (item_value key piece)) found pieces

pub more : (key rest : List ℕ) (found : Option (List ℕ)) (k : ℕ) → k ≡ position_or_len (is_byte 59) rest
    → k < length rest
    → counted key found (slice_split (is_byte 59) rest)
    ≡ counted key (latest_value found (item_value key (take k rest))) (slice_split (is_byte 59) (drop (k + 1) rest))
more key rest found k e lt = rw e (ap (counted key found) (slice_split_first (is_byte 59) rest 0 (rw (← e) lt)))

passed : (b : Bool) → not b ≡ true → b ≡ false
passed true e = sym e
passed false e = refl

pub last : (key rest : List ℕ) (found : Option (List ℕ)) (k : ℕ) → k ≡ position_or_len (is_byte 59) rest
    → k ≡ length rest
    → counted key found (slice_split (is_byte 59) rest) ≡ latest_value found (item_value key (take k rest))
last key rest found k e full =
    let p : ℕ → Bool = λ n. not (is_byte 59 n) in
    let none : All (λ x. is_byte 59 x ≡ false) rest =
    λ i d lt. passed _ (prefix_len_passes p rest i d (omega (arith, lt, e, full))) in
    let whole : take k rest ≡ rest = take_all k rest (omega arith) in
    rw whole (ap (counted key found) (slice_split_none (is_byte 59) rest none))

-- the last of the values, or else what was found before
abbrev last_or : Option (List ℕ) → List (List ℕ) → Option (List ℕ)
last_or found [] = found
last_or found (v ∷ vs) = last_or (Some v) vs

one_value : (key : List ℕ) (found o : Option (List ℕ)) (ps : List (List ℕ))
    → ((f : Option (List ℕ)) → counted key f ps ≡ last_or f (filter_map (item_value key) ps))
    → counted key (latest_value found o) ps ≡ last_or found (cons_option o (filter_map (item_value key) ps))
one_value key found None ps h = h found
one_value key found (Some v) ps h = h (Some v)

counted_values : (key : List ℕ) (pieces : List (List ℕ)) (found : Option (List ℕ))
    → counted key found pieces ≡ last_or found (filter_map (item_value key) pieces)
counted_values key [] found = refl
counted_values key (p ∷ ps) found = one_value key found (item_value key p) ps (counted_values key ps)

last_is : (v : List ℕ) (vs : List (List ℕ)) → last_or (Some v) vs ≡ slice_get (v ∷ vs) (length vs)
last_is v [] = refl
last_is v (w ∷ ws) = last_is w ws

last_none : (vs : List (List ℕ)) → last_or None vs ≡ slice_get vs (length vs - 1)
last_none [] = refl
last_none (v ∷ vs) = let e : length (v ∷ vs) - 1 ≡ length vs = omega arith in rw e (last_is v vs)

pub last_value : (key text : List ℕ) → counted key None (slice_split (is_byte 59) text) ≡ property_value text key
unfolding property_value
last_value key text = counted_values key (slice_split (is_byte 59) text) None
    ∙ last_none (filter_map (item_value key) (slice_split (is_byte 59) text))
