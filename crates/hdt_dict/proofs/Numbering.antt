-- IDs of strings, and strings of IDs.
use Rattle.std.proofs.Common.{◌≡◌, ℕ, zero, suc, ◌+◌, ◌≤◌, ◌++◌, ◌||◌, Bool, true, false, cond, List, [], ◌∷◌, length}
use Rattle.std.proofs.Common.{Option, Some, None, refl, sym, ap, ◌∙◌, arith, ◌↔◌}
use Rattle.std.specs.Prelude.{option_map, slice_get}
use Rattle.std.specs.Str.{bytes_eq}
use Rattle.std.specs.List.{Contains}
use Rattle.std.specs.Ordering.{is_lt}
use Rattle.std.proofs.lemmas.Cmp.{nat_list_cmp_total, tied_itself}
use Rattle.std.proofs.lemmas.Slice.Eq.{bytes_eq-Decides}
use Rattle.std.proofs.lemmas.Option.{slice_get_within, get_or_from_slice_get}
use Rattle.hdt_front.specs.StringChecks.{precedes}
use Rattle.hdt_front.specs.StringIds.{id_of}
use Rattle.hdt_front.specs.Iteration.{LocatedString, After, LocatedAscend, strings}
use Rattle.hdt_dict.specs.Strings.{has}
use Rattle.hdt_dict.specs.Dictionary.{AreDisjoint}
use Rattle.hdt_dict.proofs.DisjointChecks.{has-append}
use Rattle.hdt_dict.specs.Laws.Strings.{has-Contains, Contains-has}
use Rattle.hdt_dict.specs.Ids.{string_at_id}
use Rattle.hdt_dict.proofs.Overlaps.{not_ahead}

-- ---- equal strings

not_itself : (x : List ℕ) → precedes x x ≡ false
not_itself x = ap is_lt (tied_itself nat_list_cmp_total x)

false_is : (b : Bool) → (b ≡ true → ⊥) → b ≡ false
false_is true h = absurd (h refl)
false_is false h = refl

both_no : (b : Bool) → b ≡ true → b ≡ false → ⊥
both_no true h k = cc
both_no false h k = cc

-- ---- lists without duplicates

abbrev pub Distinct : List (List ℕ) → Type 0
Distinct [] = Unit {0}
Distinct (x ∷ xs) = (has xs x ≡ false) × Distinct xs

distinct_after : (s : List ℕ) (ps : List LocatedString) → After s ps → Distinct (s ∷ strings ps)
distinct_after s [] a = (refl, tt)
distinct_after s (p ∷ ps) a = (not_ahead s s (p ∷ ps) a (not_itself s), distinct_after p.string ps a.1)

pub distinct_ascending : (ps : List LocatedString) → LocatedAscend ps → Distinct (strings ps)
distinct_ascending [] a = tt
distinct_ascending (p ∷ ps) a = distinct_after p.string ps a

is_not : (xs : List (List ℕ)) (x : List ℕ) → (Contains xs x → ⊥) → has xs x ≡ false
is_not xs x none = false_is (has xs x) (λ h. none (has-Contains xs x h))

pub distinct-append : (xs ys : List (List ℕ)) → Distinct xs → Distinct ys → AreDisjoint xs ys → Distinct (xs ++ ys)
distinct-append [] ys dx dy n = dy
distinct-append (x ∷ xs) ys dx dy n =
    let other : has ys x ≡ false = is_not ys x (λ there. n x (0, omega arith, refl) there) in (
      has-append xs ys x ∙ ap (λ b. b || has ys x) dx.0 ∙ other,
      distinct-append xs ys dx.1 dy (λ z a b. n z (suc a.0, omega (arith, a.1), a.2) b),
    )

-- ---- IDs over two consecutive lists

abbrev pub in_two : Option ℕ → ℕ → Option ℕ → Option ℕ
in_two (Some n) k r = Some n
in_two None k r = option_map (λ m. k + m) r

moved_on : (r : Option ℕ) → r ≡ option_map (λ m. 0 + m) r
moved_on None = refl
moved_on (Some m) = let e : m ≡ 0 + m = omega arith in ap Some e

one_more : (o : Option ℕ) (k : ℕ) (r : Option ℕ)
    → option_map (λ n. n + 1) (in_two o k r) ≡ in_two (option_map (λ n. n + 1) o) (suc k) r
one_more (Some n) k r = refl
one_more None k None = refl
one_more None k (Some m) = let e : k + m + 1 ≡ suc k + m = omega arith in ap Some e

append_by : (b : Bool) (o : Option ℕ) (k : ℕ) (r : Option ℕ) → cond b (Some 1) (option_map (λ n. n + 1) (in_two o k r))
    ≡ in_two (cond b (Some 1) (option_map (λ n. n + 1) o)) (suc k) r
append_by true o k r = refl
append_by false o k r = one_more o k r

pub id_of-append : (xs ys : List (List ℕ)) (x : List ℕ)
    → id_of (xs ++ ys) x ≡ in_two (id_of xs x) (length xs) (id_of ys x)
unfolding id_of
id_of-append [] ys x = moved_on (id_of ys x)
id_of-append (y ∷ xs) ys x =
    ap (λ r. cond (bytes_eq y x) (Some 1) (option_map (λ n. n + 1) r)) (id_of-append xs ys x)
    ∙ append_by (bytes_eq y x) (id_of xs x) (length xs) (id_of ys x)

-- ---- an ID is that of its string

some_is : (x y : List ℕ) → (let r : Option (List ℕ) = Some x in r) ≡ Some y → x ≡ y
some_is x y e = cc

number_is : (m n : ℕ) → (let r : Option ℕ = Some m in r) ≡ Some n → m ≡ n
number_is m n e = cc

string_by : (b : Bool) (y x : List ℕ) (ys : List (List ℕ)) (r : Option ℕ) (n : ℕ) → bytes_eq y x ≡ b
    → ((m : ℕ) → r ≡ Some m → string_at_id ys m ≡ Some x)
    → cond b (Some 1) (option_map (λ n. n + 1) r) ≡ Some n → string_at_id (y ∷ ys) n ≡ Some x
string_by true y x ys r n e rest is = ap (string_at_id (y ∷ ys)) (sym (number_is 1 n is))
    ∙ ap Some ((bytes_eq-Decides y x).0 e)
string_by false y x ys None n e rest is = absurd (cc)
string_by false y x ys (Some zero) n e rest is = let no_string = rest 0 refl in absurd (cc)
string_by false y x ys (Some (suc m)) n e rest is =
    let k : n ≡ suc (suc m) = omega (arith, number_is (suc m + 1) n is) in
    ap (string_at_id (y ∷ ys)) k ∙ rest (suc m) refl

pub string_of_number : (xs : List (List ℕ)) (x : List ℕ) (n : ℕ) → id_of xs x ≡ Some n → string_at_id xs n ≡ Some x
unfolding id_of
string_of_number [] x n e = absurd (cc)
string_of_number (y ∷ ys) x n e =
    string_by (bytes_eq y x) y x ys (id_of ys x) n refl (λ m h. string_of_number ys x m h) e

there : (xs : List (List ℕ)) (x : List ℕ) (n : ℕ) → string_at_id xs n ≡ Some x → Contains xs x
there xs x zero e = absurd (cc)
there xs x (suc i) e = (i, slice_get_within xs i x e, get_or_from_slice_get xs i x x e)

number_at : (xs : List (List ℕ)) (x : List ℕ) (i : ℕ) → Distinct xs → slice_get xs i ≡ Some x
    → id_of xs x ≡ Some (i + 1)
unfolding id_of
number_at [] x i d e = absurd (cc)
number_at (y ∷ ys) x zero d e =
    ap (λ b. cond b (Some 1) (option_map (λ n. n + 1) (id_of ys x))) ((bytes_eq-Decides y x).1 (some_is y x e))
number_at (y ∷ ys) x (suc i) d e =
    let other : bytes_eq y x ≡ false =
    false_is (bytes_eq y x) (λ h. both_no (has ys x) (Contains-has ys x (there ys x (suc i) e))
    (ap (has ys) (sym ((bytes_eq-Decides y x).0 h)) ∙ d.0)) in
    let up : i + 1 + 1 ≡ suc i + 1 = omega arith in
    ap (λ b. cond b (Some 1) (option_map (λ n. n + 1) (id_of ys x))) other
    ∙ ap (option_map (λ n. n + 1)) (number_at ys x i d.1 e) ∙ ap Some up

pub number_of_string : (xs : List (List ℕ)) (x : List ℕ) (n : ℕ) → Distinct xs → string_at_id xs n ≡ Some x
    → id_of xs x ≡ Some n
number_of_string xs x zero d e = absurd (cc)
number_of_string xs x (suc i) d e = let up : i + 1 ≡ suc i = omega arith in number_at xs x i d e ∙ ap Some up

pub inverse : (xs : List (List ℕ)) (x : List ℕ) (r : Option ℕ) (n : ℕ) → Distinct xs → r ≡ id_of xs x
    → (r ≡ Some n ↔ string_at_id xs n ≡ Some x)
inverse xs x r n d e = (λ h. string_of_number xs x n (sym e ∙ h), λ h. e ∙ number_of_string xs x n d h)

numbered_within : (xs : List (List ℕ)) (x : List ℕ) (n : ℕ) → string_at_id xs n ≡ Some x → n ≤ length xs
numbered_within xs x zero e = omega arith
numbered_within xs x (suc i) e = omega (arith, slice_get_within xs i x e)

-- an ID is at most the length
pub place_within : (xs : List (List ℕ)) (x : List ℕ) (n : ℕ) → id_of xs x ≡ Some n → n ≤ length xs
place_within xs x n e = numbered_within xs x n (string_of_number xs x n e)

-- a string of one list has no ID in a disjoint list
pub place_apart : (xs ys : List (List ℕ)) (x : List ℕ) (n : ℕ) → AreDisjoint xs ys → id_of ys x ≡ Some n
    → id_of xs x ≡ None
place_apart xs ys x n apart is = by (id_of xs x) refl
  where
    by : (r : Option ℕ) → id_of xs x ≡ r → id_of xs x ≡ None
    by None e = e
    by (Some m) e = absurd (apart x (there xs x m (string_of_number xs x m e))
        (there ys x n (string_of_number ys x n is)))

-- If the second list is searched first: its ID, plus the length of the first list, is the ID in both; if it has none,
-- that of the first list is.
pub found_behind : (xs ys : List (List ℕ)) (x : List ℕ) (n : ℕ) → AreDisjoint xs ys
    → option_map (λ m. length xs + m) (id_of ys x) ≡ Some n → id_of (xs ++ ys) x ≡ Some n
found_behind xs ys x n apart is = id_of-append xs ys x ∙ by (id_of ys x) refl is
  where
    by : (r : Option ℕ) → id_of ys x ≡ r → option_map (λ m. length xs + m) r ≡ Some n
        → in_two (id_of xs x) (length xs) (id_of ys x) ≡ Some n
    by None e h = absurd (cc)
    by (Some m) e h = ap (λ p. in_two p (length xs) (id_of ys x)) (place_apart xs ys x m apart e)
        ∙ ap (λ r. in_two None (length xs) r) e ∙ h

none_behind : (p : Option ℕ) (k : ℕ) (r : Option ℕ) → option_map (λ m. k + m) r ≡ None → in_two p k r ≡ p
none_behind (Some n) k r h = refl
none_behind None k r h = h

pub missed_behind : (xs ys : List (List ℕ)) (x : List ℕ) → option_map (λ m. length xs + m) (id_of ys x) ≡ None
    → id_of (xs ++ ys) x ≡ id_of xs x
missed_behind xs ys x h = id_of-append xs ys x ∙ none_behind (id_of xs x) (length xs) (id_of ys x) h
