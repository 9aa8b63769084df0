-- The first string that is in another list, if both ascend.
use Rattle.std.proofs.Common.{◌≡◌, ℕ, ◌||◌, Bool, true, false, cond, List, [], ◌∷◌, drop, Some, refl, sym, ap, ◌∙◌}
use Rattle.std.proofs.Common.{subst, Ordering}
use Rattle.std.specs.Str.{bytes_eq}
use Rattle.std.specs.declared.cmp.Ordering.TheVariants.{Less, Equal, Greater}
use Rattle.std.specs.Ordering.{nat_cmp, is_lt, is_eq}
use Rattle.std.specs.Cmp.Lexicographic.{slice_cmp}
use Rattle.std.proofs.lemmas.Cmp.{nat_list_cmp_total, alike_right}
use Rattle.std.proofs.lemmas.Map.Text.{is_eq-slice_cmp}
use Rattle.hdt_front.specs.StringChecks.{precedes}
use Rattle.hdt_front.specs.Iteration.{LocatedString, After, LocatedAscend, first_string, next_offset}
use Rattle.hdt_dict.specs.Inside.Overlap.{contains_string, first_offset, drop_less, is_first}
use Rattle.hdt_front.specs.Laws.FrontCoding.{less_from}

abbrev order : List ℕ → List ℕ → Ordering
order x y = slice_cmp nat_cmp x y

-- ---- the order of two strings

not_eq : (o : Ordering) → is_lt o ≡ true → is_eq o ≡ false
not_eq Less e = refl
not_eq Equal e = absurd (cc)
not_eq Greater e = absurd (cc)

apart : (y x : List ℕ) → precedes y x ≡ true → bytes_eq y x ≡ false
apart y x h = sym (is_eq-slice_cmp y x) ∙ not_eq (order y x) h

trans : (x y z : List ℕ) → precedes x y ≡ true → precedes y z ≡ true → precedes x z ≡ true
trans x y z h k = ap is_lt (nat_list_cmp_total.trans x y z (less_from (order x y) h) (less_from (order y z) k))

-- a string that is not greater than s is none of those that are
not_after : (s p x : List ℕ) (o : Ordering) → order p x ≡ o → precedes s p ≡ true → precedes s x ≡ false
    → (bytes_eq p x ≡ false) × (precedes p x ≡ false)
not_after s p x Less e h k = let both : true ≡ false = sym (trans s p x h (ap is_lt e)) ∙ k in absurd (cc)
not_after s p x Equal e h k =
    let same : precedes s x ≡ true = ap is_lt (sym (alike_right nat_list_cmp_total p x s e)) ∙ h in
    let both : true ≡ false = sym same ∙ k in absurd (cc)
not_after s p x Greater e h k = (sym (is_eq-slice_cmp p x) ∙ ap is_eq e, ap is_lt e)

pub not_ahead : (s x : List ℕ) (ps : List LocatedString) → After s ps → precedes s x ≡ false
    → contains_string ps x ≡ false
not_ahead s x [] a h = refl
not_ahead s x (p ∷ ps) a h =
    let n = not_after s p.string x (order p.string x) refl a.0 h in
    ap (λ b. b || contains_string ps x) n.0 ∙ not_ahead p.string x ps a.1 n.1

pub ascends_tail : (s : List ℕ) (ps : List LocatedString) → After s ps → LocatedAscend ps
ascends_tail s [] a = tt
ascends_tail s (p ∷ ps) a = a.1

-- ---- the strings that are passed

or_false : (b c : Bool) → c ≡ false → b ≡ (b || c)
or_false true c e = refl
or_false false c e = sym e

first_is_by : (b : Bool) (x : List ℕ) (p : LocatedString) (ps : List LocatedString) → precedes p.string x ≡ b
    → After p.string ps → (is_first x (drop_less x ps) ≡ contains_string ps x)
    → is_first x (cond b (drop_less x ps) (p ∷ ps)) ≡ contains_string (p ∷ ps) x
first_is_by true x p ps e a rest = rest ∙ sym (ap (λ b. b || contains_string ps x) (apart p.string x e))
first_is_by false x p ps e a rest = is_eq-slice_cmp p.string x
    ∙ or_false (bytes_eq p.string x) (contains_string ps x) (not_ahead p.string x ps a e)

-- the string is next exactly if it is in the list
pub first_is : (x : List ℕ) (ps : List LocatedString) → LocatedAscend ps
    → is_first x (drop_less x ps) ≡ contains_string ps x
first_is x [] a = refl
first_is x (p ∷ ps) a = first_is_by (precedes p.string x) x p ps refl a (first_is x ps (ascends_tail p.string ps a))

among_left_by : (b : Bool) (x z : List ℕ) (p : LocatedString) (ps : List LocatedString) → precedes p.string x ≡ b
    → precedes x z ≡ true → contains_string (drop_less x ps) z ≡ contains_string ps z
    → contains_string (cond b (drop_less x ps) (p ∷ ps)) z ≡ contains_string (p ∷ ps) z
among_left_by true x z p ps e h rest =
    rest ∙ sym (ap (λ b. b || contains_string ps z) (apart p.string z (trans p.string x z e h)))
among_left_by false x z p ps e h rest = refl

-- no string that is greater than x is passed
pub among_left : (x z : List ℕ) (ps : List LocatedString) → precedes x z ≡ true
    → contains_string (drop_less x ps) z ≡ contains_string ps z
among_left x z [] h = refl
among_left x z (p ∷ ps) h = among_left_by (precedes p.string x) x z p ps refl h (among_left x z ps h)

ascends_left_by : (b : Bool) (x : List ℕ) (p : LocatedString) (ps : List LocatedString) → After p.string ps
    → LocatedAscend (drop_less x ps) → LocatedAscend (cond b (drop_less x ps) (p ∷ ps))
ascends_left_by true x p ps a rest = rest
ascends_left_by false x p ps a rest = a

pub ascends_left : (x : List ℕ) (ps : List LocatedString) → LocatedAscend ps → LocatedAscend (drop_less x ps)
ascends_left x [] a = tt
ascends_left x (p ∷ ps) a =
    ascends_left_by (precedes p.string x) x p ps a (ascends_left x ps (ascends_tail p.string ps a))

-- ---- one iteration over a list, for any test

same_first : (s : List ℕ) (ps : List LocatedString) (f g : List ℕ → Bool) → After s ps
    → ((z : List ℕ) → precedes s z ≡ true → f z ≡ g z) → first_offset f ps ≡ first_offset g ps
same_first s [] f g a same = refl
same_first s (p ∷ ps) f g a same =
    ap (λ b. cond b (Some p.place) (first_offset f ps)) (same p.string a.0)
    ∙ ap (λ r. cond (g p.string) (Some p.place) r)
    (same_first p.string ps f g a.1 (λ z h. same z (trans s p.string z a.0 h)))

pub string_of : (p : LocatedString) (ps : List LocatedString) (x : List ℕ) → first_string (p ∷ ps) ≡ Some x
    → p.string ≡ x
string_of p ps x e = cc

-- a string that fails the test, and another test with the same result for all strings after it
pub turns : (v : List LocatedString) (x : List ℕ) (f g : List ℕ → Bool) → first_string v ≡ Some x → LocatedAscend v
    → f x ≡ false → ((z : List ℕ) → precedes x z ≡ true → g z ≡ f z)
    → first_offset g (drop 1 v) ≡ first_offset f v
turns [] x f g e a fails same = absurd (cc)
turns (p ∷ ps) x f g e a fails same =
    let is = string_of p ps x e in
    same_first p.string ps g f a (λ z h. same z (ap (λ y. precedes y z) (sym is) ∙ h))
    ∙ sym (ap (λ b. cond b (Some p.place) (first_offset f ps)) (ap f is ∙ fails))

pub meets : (v : List LocatedString) (x : List ℕ) (f : List ℕ → Bool) → first_string v ≡ Some x → f x ≡ true
    → next_offset v ≡ first_offset f v
meets [] x f e holds = absurd (cc)
meets (p ∷ ps) x f e holds =
    sym (ap (λ b. cond b (Some p.place) (first_offset f ps)) (ap f (string_of p ps x e) ∙ holds))

pub ascends_drop : (v : List LocatedString) → LocatedAscend v → LocatedAscend (drop 1 v)
ascends_drop [] a = tt
ascends_drop (p ∷ ps) a = ascends_tail p.string ps a

-- ---- the result of `seek_not_less`, and the remaining strings

pub reached : (x : List ℕ) (v w : List LocatedString) (b : Bool) → LocatedAscend v → b ≡ is_first x w
    → w ≡ drop_less x v → b ≡ contains_string v x
reached x v w b a found left = found ∙ ap (is_first x) left ∙ first_is x v a

pub ascends_after : (x : List ℕ) (v w : List LocatedString) → LocatedAscend v → w ≡ drop_less x v → LocatedAscend w
ascends_after x v w a left = subst LocatedAscend (sym left) (ascends_left x v a)

pub among_after : (x : List ℕ) (v w : List LocatedString) → w ≡ drop_less x v → (z : List ℕ) → precedes x z ≡ true
    → contains_string w z ≡ contains_string v z
among_after x v w left z h = ap (λ (l : List LocatedString). contains_string l z) left ∙ among_left x z v h

pub ascends_passed : (v w : List LocatedString) → LocatedAscend v → w ≡ drop 1 v → LocatedAscend w
ascends_passed v w a left = subst LocatedAscend (sym left) (ascends_drop v a)

pub turned : (v w : List LocatedString) (x : List ℕ) (f g : List ℕ → Bool) → first_string v ≡ Some x → LocatedAscend v
    → w ≡ drop 1 v → f x ≡ false → ((z : List ℕ) → precedes x z ≡ true → g z ≡ f z)
    → first_offset g w ≡ first_offset f v
turned v w x f g e a left fails same = ap (first_offset g) left ∙ turns v x f g e a fails same

-- ---- two tests

pub or_left : (a b : Bool) → a ≡ true → (a || b) ≡ true
or_left a b e = ap (λ a. a || b) e

pub or_right : (a b : Bool) → b ≡ true → (a || b) ≡ true
or_right true b e = refl
or_right false b e = e

pub or_none : (a b : Bool) → a ≡ false → b ≡ false → (a || b) ≡ false
or_none a b e f = ap (λ a. a || b) e ∙ f

pub or_both : (a b c d : Bool) → a ≡ c → b ≡ d → (a || b) ≡ (c || d)
or_both a b c d e f = ap (λ a. a || b) e ∙ ap (λ b. c || b) f
