-- A prefix before the labels keeps the order of strings.
use Rattle.std.proofs.Common.{◌≡◌, ◌∙◌, ℕ, Bool, true, false, List, [], ◌∷◌, ◌++◌, ◌&&◌, eqb, nat_eq, nat_lt, refl}
use Rattle.std.proofs.Common.{ap, sym}
use Rattle.std.proofs.Common.{append-nil, arith, subst, Ordering}
use Rattle.std.specs.Prelude.{if◌then◌else◌}
use Rattle.std.specs.declared.cmp.Ordering.TheVariants.{Equal}
use Rattle.std.specs.Ordering.{nat_cmp, ordering_then}
use Rattle.std.proofs.lemmas.Bool.Decides.{nat_tests}
use Rattle.std.proofs.lemmas.Map.Lookups.{exact_bytes}
use Rattle.hdt_front.specs.Laws.CommonPrefix.{both, equal_bytes}
use Rattle.hdt_front.specs.Order.{string_cmp}
use Rattle.hdt_build.specs.Relabelling.{relabelled}

-- ---- strings that begin alike

go_on_by : (lt eq : Bool) (o p : Ordering) → (eq ≡ true → o ≡ p) → both lt eq o ≡ both lt eq p
go_on_by true eq o p h = refl
go_on_by false true o p h = h refl
go_on_by false false o p h = refl

-- what follows two bytes matters only if they are equal
go_on : (a c : ℕ) (o p : Ordering) → (a ≡ c → o ≡ p) → ordering_then (nat_cmp a c) o ≡ ordering_then (nat_cmp a c) p
go_on a c o p h = go_on_by (nat_lt a c) (nat_eq a c) o p (λ e. h (grind (arith, nat_tests, e)))

equal_by : (lt eq : Bool) (o : Ordering) → lt ≡ false → eq ≡ true → both lt eq o ≡ o
equal_by true eq o l e = absurd cc
equal_by false true o l e = refl
equal_by false false o l e = absurd cc

not_less : (c : ℕ) → nat_lt c c ≡ false
not_less c = grind (arith, nat_tests)

same_front : (front x y : List ℕ) → string_cmp (front ++ x) (front ++ y) ≡ string_cmp x y
same_front [] x y = refl
same_front (c ∷ front) x y =
    equal_by (nat_lt c c) (nat_eq c c) (string_cmp (front ++ x) (front ++ y)) (not_less c) (equal_bytes c c refl)
    ∙ same_front front x y

same_string : (x : List ℕ) → string_cmp x x ≡ Equal
same_string x = subst (λ (y : List ℕ). string_cmp y y ≡ Equal) (append-nil x) (same_front x [] [])

-- ---- strings with a prefix

-- what follows the first two bytes
abbrev rest_of : List ℕ → ℕ → ℕ → List ℕ → List ℕ
rest_of prefix a b label = if eqb a 95 && eqb b 58 then prefix ++ label else label

first_two : (prefix : List ℕ) (a b : ℕ) (label : List ℕ)
    → relabelled prefix (a ∷ b ∷ label) ≡ a ∷ b ∷ rest_of prefix a b label
first_two prefix a b label = case (eqb a 95) (eqb b 58)
  where
    case : (s t : Bool)
        → (if s && t then (if s then a ∷ b ∷ (prefix ++ label) else a ∷ b ∷ label) else a ∷ b ∷ label)
        ≡ a ∷ b ∷ (if s && t then prefix ++ label else label)
    case true true = refl
    case true false = refl
    case false true = refl
    case false false = refl

same_rest : (prefix x y : List ℕ) (test : Bool)
    → string_cmp (if test then prefix ++ x else x) (if test then prefix ++ y else y) ≡ string_cmp x y
same_rest prefix x y true = same_front prefix x y
same_rest prefix x y false = refl

rests : (prefix : List ℕ) (a b c d : ℕ) (x y : List ℕ) → a ≡ c → b ≡ d
    → string_cmp (rest_of prefix a b x) (rest_of prefix c d y) ≡ string_cmp x y
rests prefix a b c d x y first second =
    subst (λ (k : ℕ). string_cmp (rest_of prefix a b x) (rest_of prefix k d y) ≡ string_cmp x y) first
    (subst (λ (k : ℕ). string_cmp (rest_of prefix a b x) (rest_of prefix a k y) ≡ string_cmp x y) second
    (same_rest prefix x y (eqb a 95 && eqb b 58)))

pub order_kept : (prefix x y : List ℕ) → string_cmp (relabelled prefix x) (relabelled prefix y) ≡ string_cmp x y
order_kept prefix [] [] = refl
order_kept prefix [] (c ∷ []) = refl
order_kept prefix [] (c ∷ d ∷ y) = ap (λ (z : List ℕ). string_cmp [] z) (first_two prefix c d y)
order_kept prefix (a ∷ []) [] = refl
order_kept prefix (a ∷ []) (c ∷ []) = refl
order_kept prefix (a ∷ []) (c ∷ d ∷ y) = ap (λ (z : List ℕ). string_cmp (a ∷ []) z) (first_two prefix c d y)
order_kept prefix (a ∷ b ∷ x) [] = ap (λ (z : List ℕ). string_cmp z []) (first_two prefix a b x)
order_kept prefix (a ∷ b ∷ x) (c ∷ []) = ap (λ (z : List ℕ). string_cmp z (c ∷ [])) (first_two prefix a b x)
order_kept prefix (a ∷ b ∷ x) (c ∷ d ∷ y) =
    (λ i. string_cmp (first_two prefix a b x i) (first_two prefix c d y i))
    ∙ go_on a c _ _ (λ first. go_on b d _ _ (λ second. rests prefix a b c d x y first second))

pub strings_distinct : (prefix x y : List ℕ) → relabelled prefix x ≡ relabelled prefix y → x ≡ y
strings_distinct prefix x y is =
    exact_bytes x y (sym (order_kept prefix x y)
    ∙ (ap (λ (z : List ℕ). string_cmp (relabelled prefix x) z) (sym is) ∙ same_string (relabelled prefix x)))
