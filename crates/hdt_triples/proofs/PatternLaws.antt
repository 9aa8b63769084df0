-- When a triple matches a pattern.
use Rattle.std.proofs.Common.{◌≡◌, ◌≢◌, ◌&&◌, ℕ, Bool, true, false, Option, Some, ap, ◌∙◌, sym, eqb, eq-eqb}
use Rattle.std.proofs.Math.Bool.{and-true}
use Rattle.std.proofs.lemmas.Bool.{and_left, and_right, eqb-true, ne_eqb}
use Rattle.hdt_triples.specs.declared.pattern.Pattern.{Pattern}
use Rattle.hdt_triples.specs.Bounds.{of_subject, of_predicate}
use Rattle.hdt_triples.specs.TripleSequences.{Triple}
use Rattle.hdt_triples.specs.Patterns.{admits, agrees}

-- A triple matches if each of its three IDs does.
pub agrees_by_parts : (p : Pattern) (t : Triple) (a b c : Bool) → admits p.s t.0 ≡ a → admits p.p t.1 ≡ b
    → admits p.o t.2 ≡ c → agrees p t ≡ (a && b && c)
agrees_by_parts p t a b c x y z = ap (λ d. d && admits p.p t.1 && admits p.o t.2) x
    ∙ ap (λ d. a && d && admits p.o t.2) y ∙ ap (λ d. a && b && d) z

-- A given ID admits itself,
pub admitted : (g : Option ℕ) (m n : ℕ) → g ≡ Some m → n ≡ m → admits g n ≡ true
admitted g m n given e = ap (λ x. admits x n) given ∙ eq-eqb m n (sym e)

-- and no other ID.
refused : (g : Option ℕ) (m n : ℕ) → g ≡ Some m → n ≢ m → admits g n ≡ false
refused g m n given ne = ap (λ x. admits x n) given ∙ ne_eqb m n (λ e. ne (sym e))

pub other_subject : (p : Pattern) (s : ℕ) (t : Triple) → p.s ≡ Some s → t.0 ≢ s → agrees p t ≡ false
other_subject p s t given ne =
    and_left (admits p.s t.0 && admits p.p t.1) (admits p.o t.2)
    (and_left (admits p.s t.0) (admits p.p t.1) (refused p.s s t.0 given ne))

pub other_predicate : (p : Pattern) (q : ℕ) (t : Triple) → p.p ≡ Some q → t.1 ≢ q → agrees p t ≡ false
other_predicate p q t given ne =
    and_left (admits p.s t.0 && admits p.p t.1) (admits p.o t.2)
    (and_right (admits p.s t.0) (admits p.p t.1) (refused p.p q t.1 given ne))

pub other_object : (p : Pattern) (o : ℕ) (t : Triple) → p.o ≡ Some o → t.2 ≢ o → agrees p t ≡ false
other_object p o t given ne = and_right (admits p.s t.0 && admits p.p t.1) (admits p.o t.2) (refused p.o o t.2 given ne)

pub own_subject : (s : ℕ) (t : Triple) → t.0 ≡ s → agrees (of_subject s) t ≡ true
own_subject s t e = ap (λ b. b && true && true) (eq-eqb s t.0 (sym e))

pub own_predicate : (p : ℕ) (t : Triple) → t.1 ≡ p → agrees (of_predicate p) t ≡ true
own_predicate p t e = ap (λ b. true && b && true) (eq-eqb p t.1 (sym e))

-- A triple that matches the pattern of a subject has that subject.
pub has_subject : (s : ℕ) (t : Triple) → agrees (of_subject s) t ≡ true → t.0 ≡ s
has_subject s t own = sym (eqb-true s t.0 (sym (and-true (eqb s t.0)) ∙ sym (and-true (eqb s t.0 && true)) ∙ own))
