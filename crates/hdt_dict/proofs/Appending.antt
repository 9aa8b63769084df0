-- Appending control information and four sections, one after another.
use Rattle.std.proofs.Common.{◌≡◌, Result, Ok, Err, ◌+◌, ◌++◌, ◌<◌, ◌≤◌, ◌^◌, ℕ, List, [], length, append_assoc}
use Rattle.std.proofs.Common.{append-nil, ap, sym, subst, ◌∙◌}
use Rattle.std.specs.Result.{OnOk}
use Rattle.hdt_wire.specs.declared.control.Kind.TheVariants as kinds
use Rattle.hdt_wire.specs.Control.{control}
use Rattle.hdt_wire.specs.Checks.{HasSlice}
use Rattle.hdt_wire.specs.Laws.Checks.{HasSlice-after}
use Rattle.hdt_front.specs.Canonical.{canonical}
use Rattle.hdt_dict.specs.Dictionary.{IsDictionaryAt, SectionLists}
use Rattle.hdt_dict.specs.Writing.{AreSections, mapping, canonical_dictionary, canonical_dictionary_parts}
use Rattle.hdt_dict.specs.Laws.Writing.{dictionary_encoded}

-- one more piece after those that were appended
more : (old x r s y : List ℕ) → r ≡ old ++ x → s ≡ r ++ y → s ≡ old ++ (x ++ y)
more old x r s y e f = f ∙ ap (λ (l : List ℕ). l ++ y) e ∙ append_assoc old x y

regrouped : (k s u p o : List ℕ) → (((k ++ s) ++ u) ++ p) ++ o ≡ k ++ (s ++ (u ++ (p ++ o)))
regrouped k s u p o = append_assoc ((k ++ s) ++ u) p o ∙ append_assoc (k ++ s) u (p ++ o)
    ∙ append_assoc k s (u ++ (p ++ o))

pub appended : (b : ℕ) (d : SectionLists) (old r0 r1 r2 r3 r4 : List ℕ) → r0 ≡ old ++ control kinds.Dictionary mapping
    → r1 ≡ r0 ++ canonical b d.shared → r2 ≡ r1 ++ canonical b d.subjects
    → r3 ≡ r2 ++ canonical b d.predicates → r4 ≡ r3 ++ canonical b d.objects → r4 ≡ old ++ canonical_dictionary b d
unfolding canonical_dictionary
appended b d old r0 r1 r2 r3 r4 e0 e1 e2 e3 e4 =
    more old _ r3 r4 (canonical b d.objects)
    (more old _ r2 r3 (canonical b d.predicates)
    (more old _ r1 r2 (canonical b d.subjects) (more old _ r0 r1 (canonical b d.shared) e0 e1) e2) e3) e4
    ∙ ap (λ (l : List ℕ). old
    ++ l) (regrouped (control kinds.Dictionary mapping) (canonical b d.shared) (canonical b d.subjects)
    (canonical b d.predicates) (canonical b d.objects))

-- the appended bytes are a dictionary
pub dictionary_appended : (b : ℕ) (d : SectionLists) (old new : List ℕ) → 1 ≤ b → b < 2 ^ 64 → AreSections d
    → length new < 2 ^ 64 → new ≡ old ++ canonical_dictionary b d
    → IsDictionaryAt (canonical_dictionary_parts b d (length old)) new (length old)
dictionary_appended b d old new some low are small e =
    let text : List ℕ = canonical_dictionary b d in
    dictionary_encoded b d new (length old) (length old + length text) some low are small
    (subst (λ (l : List ℕ). HasSlice l (length old) text (length old + length text)) (append-nil (old ++ text)
    ∙ sym e) (HasSlice-after old text []))

-- what follows from two facts at `Ok`
pub on_ok_both : {E P Q R : Type 0} (r : Result (Unit {0}) E) → (P → Q → R) → OnOk r P → OnOk r Q → OnOk r R
on_ok_both (Ok done) f p q = f p q
on_ok_both (Err error) f p q = tt
