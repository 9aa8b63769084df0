-- The last quote of a text.
use Rattle.std.proofs.Common.{◌≡◌, ℕ, zero, suc, ◌+◌, ◌<◌, Bool, true, false, cond, eqb, List, [], ◌∷◌, ◌++◌, length}
use Rattle.std.proofs.Common.{get_or, take, drop, Option, Some, None, refl, sym, ap, ◌∙◌, arith}
use Rattle.std.specs.Prelude.{not}
use Rattle.std.specs.List.{list_all, flat_map, AllByRecursion}
use Rattle.std.specs.Char.{is_ascii_alphabetic, is_ascii_alphanumeric}
use Rattle.std.proofs.lemmas.Bool.{eqb-true}
use Rattle.std.proofs.lemmas.List.{get_or-drop, length-drop}
use Rattle.std.proofs.lemmas.List.Sums.{list_all-from_AllPass}
use Rattle.std.proofs.lemmas.List.Elements.{All-from_get_or}
use Rattle.std.proofs.lemmas.List.Folds.{list_all-append}
use Rattle.memchr.specs.Find.{Nowhere, Passes, IsLastByte, is_byte}
use Rattle.std.proofs.lemmas.Option.{same_Some}
use Rattle.std.proofs.lemmas.Bool.{false_from_ne_true}
use Rattle.hdt_terms.specs.declared.triple.Suffix.{Suffix}
use Rattle.hdt_terms.specs.declared.triple.Suffix.TheVariants.{Plain, Tag, Datatype}
use Rattle.hdt_terms.specs.Chars.{is_iri_char}
use Rattle.hdt_terms.specs.Terms.{IsSubtag, IsTag, IsLiteralSuffix, suffix_string}
use Rattle.hdt_terms.proofs.Bools.{and_first, and_second, and_both, apart}
use Rattle.hdt_terms.proofs.TagSoundness.{dashed}

abbrev pub is_other : ℕ → ℕ → Bool
is_other b c = not (eqb c b)

-- ---- bytes of a class that excludes the byte

pub class_other : (class : ℕ → Bool) (b : ℕ) (cs : List ℕ) → class b ≡ false → list_all class cs ≡ true
    → list_all (is_other b) cs ≡ true
class_other class b [] fails h = refl
class_other class b (c ∷ cs) fails h =
    and_both _ _ (ap not (apart class c b (and_first (class c) (list_all class cs) h) fails))
    (class_other class b cs fails (and_second (class c) (list_all class cs) h))

pub append_other : (b : ℕ) (xs ys : List ℕ) → list_all (is_other b) xs ≡ true → list_all (is_other b) ys ≡ true
    → list_all (is_other b) (xs ++ ys) ≡ true
append_other b xs ys hx hy = list_all-append (is_other b) xs ys ∙ and_both _ _ hx hy

parts_other : (b : ℕ) (parts : List (List ℕ)) → eqb 45 b ≡ false → is_ascii_alphanumeric b ≡ false
    → AllByRecursion IsSubtag parts → list_all (is_other b) (flat_map dashed parts) ≡ true
parts_other b [] dash fails each = refl
parts_other b (part ∷ parts) dash fails each =
    append_other b (45 ∷ part) (flat_map dashed parts)
    (and_both _ _ (ap not dash) (class_other is_ascii_alphanumeric b part fails each.0.each))
    (parts_other b parts dash fails each.1)

pub tag_other : (b : ℕ) (tag : List ℕ) → eqb 45 b ≡ false → is_ascii_alphabetic b ≡ false
    → is_ascii_alphanumeric b ≡ false → IsTag tag → list_all (is_other b) tag ≡ true
tag_other b tag dash letter fails h =
    ap (list_all (is_other b)) h.whole
    ∙ append_other b h.head (flat_map dashed h.parts) (class_other is_ascii_alphabetic b h.head letter h.letters)
    (parts_other b h.parts dash fails h.each)

pub suffix_no_quote : (suffix : Suffix) → IsLiteralSuffix suffix → list_all (is_other 34) (suffix_string suffix) ≡ true
suffix_no_quote Plain h = refl
suffix_no_quote (Tag tag) h = tag_other 34 tag refl refl refl h
suffix_no_quote (Datatype iri) h = append_other 34 iri (62 ∷ []) (class_other is_iri_char 34 iri refl h.each) refl

-- ---- the last quote

abbrev cut_more : ℕ → List ℕ → Option (List ℕ × List ℕ) → Option (List ℕ × List ℕ)
cut_more c cs (Some p) = Some (c ∷ p.0, p.1)
cut_more c cs None = cond (eqb c 34) (Some ([], cs)) None

-- what precedes and follows the last quote
cut_last : List ℕ → Option (List ℕ × List ℕ)
cut_last [] = None
cut_last (c ∷ cs) = cut_more c cs (cut_last cs)

abbrev cut_here : List ℕ → Option (List ℕ × List ℕ)
cut_here cs = Some ([], cs)

no_cut : (cs : List ℕ) → list_all (is_other 34) cs ≡ true → cut_last cs ≡ None
unfolding cut_last
no_cut [] h = refl
no_cut (c ∷ cs) h = ap (cut_more c cs) (no_cut cs (and_second _ _ h)) ∙ other (eqb c 34) (and_first _ _ h)
  where
    other : (b : Bool) → not b ≡ true → cond b (cut_here cs) None ≡ None
    other true e = absurd cc
    other false e = refl

cut_again : (text behind : List ℕ) → list_all (is_other 34) behind ≡ true
    → cut_last (text ++ 34 ∷ behind) ≡ Some (text, behind)
unfolding cut_last
cut_again [] behind h = ap (cut_more 34 behind) (no_cut behind h)
cut_again (c ∷ text) behind h = ap (cut_more c (text ++ 34 ∷ behind)) (cut_again text behind h)

-- a text has at most one last quote
pub one_cut : (text behind text' behind' : List ℕ) → list_all (is_other 34) behind ≡ true
    → list_all (is_other 34) behind' ≡ true
    → text ++ 34 ∷ behind ≡ text' ++ 34 ∷ behind' → (text ≡ text') × (behind ≡ behind')
one_cut text behind text' behind' h h' e =
    let both : (text, behind) ≡ (text', behind') =
    same_Some _ _ (sym (cut_again text behind h) ∙ ap cut_last e ∙ cut_again text' behind' h') in
    (ap (λ (p : List ℕ × List ℕ). p.0) both, ap (λ (p : List ℕ × List ℕ). p.1) both)

-- ---- searching for a byte

-- the byte does not occur
pub none_there : (b : ℕ) (cs : List ℕ) → Nowhere (Passes (is_byte b) cs) 0 (length cs) → list_all (is_other b) cs ≡ true
none_there b cs h = list_all-from_AllPass (is_other b) cs
    (All-from_get_or (λ c. is_other b c ≡ true) cs 0 (λ i lt. ap not (false_from_ne_true _ (h i (omega arith) lt))))

pub record LastQuote (bytes : List ℕ) (k : ℕ) : Type 0 where
  pub whole : bytes ≡ take k bytes ++ 34 ∷ drop (suc k) bytes
  pub behind : list_all (is_other 34) (drop (suc k) bytes) ≡ true

cut_there : (bytes : List ℕ) (k : ℕ) → k < length bytes → get_or bytes k 0 ≡ 34
    → bytes ≡ take k bytes ++ 34 ∷ drop (suc k) bytes
cut_there [] k lt h = absurd (omega arith)
cut_there (c ∷ bytes) zero lt h = ap (λ (b : ℕ). b ∷ bytes) h
cut_there (c ∷ bytes) (suc k) lt h = ap (λ (bs : List ℕ). c ∷ bs) (cut_there bytes k (omega arith) h)

pub last_quote : (bytes : List ℕ) (k : ℕ) → IsLastByte (is_byte 34) bytes (Some k) → LastQuote bytes k
last_quote bytes k h =
    let whole : bytes ≡ take k bytes ++ 34 ∷ drop (suc k) bytes = cut_there bytes k h.0.high (eqb-true _ _ h.1) in
    let rest = drop (suc k) bytes in
    let at : (i : ℕ) → get_or bytes (suc k + i) 0 ≡ get_or rest i 0 = λ i. sym (get_or-drop (suc k) bytes i 0) in
    record {
      whole = whole;
      behind = none_there 34 rest
          (λ i low lt q. h.0.after (suc k + i) (omega arith) (omega (arith, length-drop (suc k) bytes))
          (ap (λ (b : ℕ). eqb b 34) (at i) ∙ q));
    }
