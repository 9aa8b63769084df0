-- A parsed label is a label, and a label is parsed in full.
use Rattle.std.proofs.Common.{◌≡◌, ℕ, Bool, true, false, cond, eqb, List, [], ◌∷◌, ◌++◌, length, take, drop, Option}
use Rattle.std.proofs.Common.{Some, None, Ok, refl, sym, ap, subst, ◌∙◌, inl, inr}
use Rattle.std.specs.Prelude.{◌||◌, IsUtf8, encode_utf8, encode_utf8_all, option_map}
use Rattle.std.specs.Str.{chars}
use lib.Utf8.{scalar, scalars}
use Rattle.std.proofs.lemmas.Bool.{cases_Bool, eqb-true}
use Rattle.std.proofs.lemmas.List.{take_at, drop_at}
use Rattle.std.proofs.lemmas.Str.{chars-encodes, encodes-append, encodes-chars, scalars-chars, chars-append}
use Rattle.std.proofs.lemmas.Str.{chars_past_char}
use Rattle.hdt_terms.specs.Chars.{is_pn_chars, is_label_start}
use Rattle.hdt_terms.specs.Labels.{dot_if_continued, label_rest, is_label_rest, is_label, label_prefix, label_bytes}
use Rattle.hdt_terms.specs.TermParsing.{blank_at}
use Rattle.hdt_terms.specs.Terms.{IsLabel}
use Rattle.hdt_terms.specs.Writing.{Extends}
use Rattle.hdt_terms.proofs.Bools.{and_first, and_second, and_both}
use Rattle.hdt_terms.proofs.Fronts.{no_front, front_cons}

-- ---- the parsed label is a prefix, and a label

dot_if_continued-front : (c : ℕ) (ds cs : List ℕ) → c ≡ 46 → Extends ds cs → Extends (dot_if_continued ds) (c ∷ cs)
dot_if_continued-front c [] cs is f = no_front (c ∷ cs)
dot_if_continued-front c (d ∷ ds) cs is f = rw (← is) (front_cons c (d ∷ ds) cs f)

rest_front : (p q : Bool) (c : ℕ) (cs : List ℕ) → Extends (label_rest cs) cs → is_pn_chars c ≡ p → eqb c 46 ≡ q
    → Extends (label_rest (c ∷ cs)) (c ∷ cs)
rest_front true q c cs f h e = simp h (front_cons c (label_rest cs) cs f)
rest_front false true c cs f h e = simp (h, e) (dot_if_continued-front c (label_rest cs) cs (eqb-true _ _ e) f)
rest_front false false c cs f h e = simp (h, e) (no_front (c ∷ cs))

pub label_rest-front : (cs : List ℕ) → Extends (label_rest cs) cs
label_rest-front [] = no_front []
label_rest-front (c ∷ cs) = rest_front (is_pn_chars c) (eqb c 46) c cs (label_rest-front cs) refl refl

-- the rest of a label starts with a label character or a dot
before : (c : ℕ) (ds : List ℕ) → is_pn_chars c ≡ true → is_label_rest ds ≡ true → is_label_rest (c ∷ ds) ≡ true
before c [] h more = h
before c (d ∷ ds) h more = simp h more

dot_if_continued-is : (ds : List ℕ) → is_label_rest ds ≡ true → is_label_rest (dot_if_continued ds) ≡ true
dot_if_continued-is [] h = refl
dot_if_continued-is (d ∷ ds) h = h

rest_is : (p q : Bool) (c : ℕ) (cs : List ℕ) → is_label_rest (label_rest cs) ≡ true → is_pn_chars c ≡ p → eqb c 46 ≡ q
    → is_label_rest (label_rest (c ∷ cs)) ≡ true
rest_is true q c cs ih h e = simp h (before c (label_rest cs) h ih)
rest_is false true c cs ih h e = simp (h, e) (dot_if_continued-is (label_rest cs) ih)
rest_is false false c cs ih h e = simp (h, e) refl

pub label_rest-is : (cs : List ℕ) → is_label_rest (label_rest cs) ≡ true
label_rest-is [] = refl
label_rest-is (c ∷ cs) = rest_is (is_pn_chars c) (eqb c 46) c cs (label_rest-is cs) refl refl

-- ---- the characters of a prefix

scalars_front : (xs ys : List ℕ) → scalars (xs ++ ys) ≡ true → scalars xs ≡ true
scalars_front [] ys h = refl
scalars_front (x ∷ xs) ys h =
    and_both (scalar x) (scalars xs) (and_first (scalar x) (scalars (xs ++ ys)) h)
    (scalars_front xs ys (and_second (scalar x) (scalars (xs ++ ys)) h))

-- a text split after its first characters
pub record Cut (text : List ℕ) (label : List ℕ) : Type 0 where
  pub front : take (length (encode_utf8_all label)) text ≡ encode_utf8_all label
  pub whole : text ≡ encode_utf8_all label ++ drop (length (encode_utf8_all label)) text
  pub scalar : scalars label ≡ true

pub cut_at : (text label : List ℕ) → IsUtf8 text → Extends label (chars text) → Cut text label
cut_at text label utf8 f =
    let split : text ≡ encode_utf8_all label ++ encode_utf8_all f.more = sym (encodes-chars text utf8)
    ∙ ap encode_utf8_all f.whole ∙ encodes-append label f.more in
    let n = length (encode_utf8_all label) in
    let back : drop n text ≡ encode_utf8_all f.more = ap (drop n) split
    ∙ drop_at (encode_utf8_all label) (encode_utf8_all f.more) n refl in
    record {
      front = ap (take n) split ∙ take_at (encode_utf8_all label) (encode_utf8_all f.more) n refl;
      whole = split ∙ ap (λ (bs : List ℕ). encode_utf8_all label ++ bs) (sym back);
      scalar = scalars_front label f.more (ap scalars (sym f.whole) ∙ scalars-chars text utf8);
    }

-- the parsed label is a label, or the text doesn't begin with one
abbrev pub LabelSays : List ℕ → Option ℕ → Type 0
LabelSays text (Some n) = IsLabel (take n text)
LabelSays text None = (c : ℕ) (more : List ℕ) → is_label_start c ≡ true → text ≡ encode_utf8 c ++ more → ⊥

chars_says : (cs text : List ℕ) → IsUtf8 text → chars text ≡ cs → LabelSays text (label_bytes cs)
chars_says [] text utf8 is = λ c more starts whole. let none : c ∷ chars more ≡ [] =
    sym (chars_past_char text more c utf8 whole) ∙ is in cc
chars_says (c ∷ cs) text utf8 is = elim (cases_Bool (is_label_start c)) [
  | inl p ↦
      let ds : List ℕ = c ∷ label_rest cs in
      let cut = cut_at text ds utf8
      (subst (λ xs. Extends ds xs) (sym is) (front_cons c (label_rest cs) cs (label_rest-front cs))) in
      rw p (subst IsLabel (sym cut.front)
      (record {
        utf8 = (ds, (cut.scalar, refl));
        form = ap is_label (chars-encodes ds cut.scalar)
            ∙ and_both _ _ p (label_rest-is cs);
      }))
  | inr p ↦
      rw p (λ d more starts whole.
      let same : d ∷ chars more ≡ c ∷ cs = sym (chars_past_char text more d utf8 whole) ∙ is in
      let one : d ≡ c = cc in
      let both : true ≡ false = sym starts ∙ ap is_label_start one ∙ p in cc)
]

pub label_says : (text : List ℕ) → IsUtf8 text → LabelSays text (label_bytes (chars text))
label_says text utf8 = chars_says (chars text) text utf8 refl

-- ---- a label is parsed in full

-- a dot is kept if more of the label follows
dot_again : (p : Bool) (c d : ℕ) (ds : List ℕ) → is_pn_chars c ≡ p → (is_pn_chars c || eqb c 46) ≡ true
    → cond (is_pn_chars c) (c ∷ d ∷ ds) (cond (eqb c 46) (dot_if_continued (d ∷ ds)) []) ≡ c ∷ d ∷ ds
dot_again true c d ds h either = simp h refl
dot_again false c d ds h either =
    let dot : eqb c 46 ≡ true = subst (λ (b : Bool). (b || eqb c 46) ≡ true) h either in
    simp (h, dot) (ap (λ (b : ℕ). b ∷ d ∷ ds) (sym (eqb-true c 46 dot)))

pub label_rest-again : (ds more : List ℕ) → is_label_rest ds ≡ true → label_rest more ≡ []
    → label_rest (ds ++ more) ≡ ds
label_rest-again [] more h ends = ends
label_rest-again (c ∷ []) more h ends = simp (h, ends) refl
label_rest-again (c ∷ d ∷ ds) more h ends =
    let ih = label_rest-again (d ∷ ds) more (and_second _ _ h) ends in
    ap (λ (xs : List ℕ). cond (is_pn_chars c) (c ∷ xs) (cond (eqb c 46) (dot_if_continued xs) [])) ih
    ∙ dot_again (is_pn_chars c) c d ds refl (and_first _ _ h)

label_prefix-again : (ds more : List ℕ) → is_label ds ≡ true → label_rest more ≡ []
    → label_prefix (ds ++ more) ≡ Some ds
label_prefix-again [] more h ends = absurd cc
label_prefix-again (c ∷ ds) more h ends =
    simp (and_first (is_label_start c) (is_label_rest ds) h)
    (ap (λ (xs : List ℕ). Some (c ∷ xs))
    (label_rest-again ds more (and_second (is_label_start c) (is_label_rest ds) h) ends))

pub label_bytes-again : (label more : List ℕ) → IsLabel label → label_rest (chars more) ≡ []
    → label_bytes (chars (label ++ more)) ≡ Some (length label)
label_bytes-again label more h ends =
    ap label_bytes (chars-append label more h.utf8)
    ∙ ap (option_map (λ (xs : List ℕ). length (encode_utf8_all xs)))
    (label_prefix-again (chars label) (chars more) h.form ends)
    ∙ ap (λ (xs : List ℕ). Some (length xs)) (encodes-chars label h.utf8)

pub blank_again : (label more : List ℕ) → IsLabel label → label_rest (chars more) ≡ []
    → blank_at (95 ∷ 58 ∷ (label ++ more)) ≡ Ok (label, more)
unfolding blank_at
blank_again label more h ends =
    rw (
      label_bytes-again label more h ends,
      take_at label more (length label) refl,
      drop_at label more (length label) refl,
    ) refl
