-- A parsed tag is a tag, and a tag is parsed in full.
use Rattle.std.proofs.Common.{◌≡◌, ◌≢◌, ℕ, suc, Bool, true, false, eqb, List, [], ◌∷◌, ◌++◌, length, take, Option, Some}
use Rattle.std.proofs.Common.{None, Ok, refl, sym, ap, subst, ◌∙◌, append_assoc, inl, inr}
use Rattle.std.specs.List.{list_all, flat_map, AllByRecursion}
use Rattle.std.specs.Char.{is_ascii_alphabetic, is_ascii_alphanumeric}
use Rattle.std.proofs.lemmas.Bool.{cases_Bool, eqb-true}
use Rattle.hdt_terms.specs.TermErrors.{DoesNotBeginWith}
use Rattle.std.proofs.lemmas.List.{append-nil, take_at, drop_at}
use Rattle.hdt_terms.specs.declared.tag.TagState.{TagState}
use Rattle.hdt_terms.specs.declared.tag.TagState.TheVariants.{Letters, Dash, Part}
use Rattle.hdt_terms.specs.declared.triple.Suffix.TheVariants.{Tag}
use Rattle.hdt_terms.specs.Tags.{next_tag_state, unless_last_dash, tag_rest, tag_len}
use Rattle.hdt_terms.specs.Terms.{IsSubtag, IsTag}
use Rattle.hdt_terms.specs.TermParsing.{tag_at}
use Rattle.hdt_terms.specs.Writing.{Extends}
use Rattle.hdt_terms.proofs.Bools.{and_first, and_second, and_both}
use Rattle.hdt_terms.proofs.Fronts.{no_front, front_cons}

abbrev pub dashed : List ℕ → List ℕ
dashed part = 45 ∷ part

-- characters of a class, then parts
pub record Run (class : ℕ → Bool) (run : List ℕ) : Type 0 where
  pub first : List ℕ
  pub parts : List (List ℕ)
  pub letters : list_all class first ≡ true
  pub each : AllByRecursion IsSubtag parts
  pub whole : run ≡ first ++ flat_map dashed parts

-- what follows a -, if anything
abbrev pub BehindDash : List ℕ → Type 0
BehindDash [] = Unit {0}
BehindDash (c ∷ cs) = (is_ascii_alphanumeric c ≡ true) × Run is_ascii_alphanumeric cs

no_run : (class : ℕ → Bool) → Run class []
no_run class = record { first = []; parts = []; letters = refl; each = tt; whole = refl }

more_run : (class : ℕ → Bool) (c : ℕ) (run : List ℕ) → class c ≡ true → Run class run → Run class (c ∷ run)
more_run class c run h r = record {
  first = c ∷ r.first;
  parts = r.parts;
  letters = and_both _ _ h r.letters;
  each = r.each;
  whole = ap (λ (cs : List ℕ). c ∷ cs) r.whole;
}

pub not_empty : (c : ℕ) (cs : List ℕ) → c ∷ cs ≢ []
not_empty c cs e = cc

dash_run : (class : ℕ → Bool) (c : ℕ) (run : List ℕ) → c ≡ 45 → BehindDash run → Run class (unless_last_dash Dash c run)
dash_run class c [] is h = no_run class
dash_run class c (d ∷ run) is h = record {
  first = [];
  parts = (d ∷ h.1.first) ∷ h.1.parts;
  letters = refl;
  each = (record { some = not_empty d h.1.first; each = and_both _ _ h.0 h.1.letters }, h.1.each);
  whole = rw (is, h.1.whole) refl;
}

letters_run : (a d : Bool) (c : ℕ) (cs : List ℕ) → Run is_ascii_alphabetic (tag_rest Letters cs)
    → BehindDash (tag_rest Dash cs)
    → is_ascii_alphabetic c ≡ a → eqb c 45 ≡ d → Run is_ascii_alphabetic (tag_rest Letters (c ∷ cs))
letters_run true d c cs run dash h e = rw h (more_run is_ascii_alphabetic c (tag_rest Letters cs) h run)
letters_run false true c cs run dash h e =
    rw (h, e) (dash_run is_ascii_alphabetic c (tag_rest Dash cs) (eqb-true _ _ e) dash)
letters_run false false c cs run dash h e = rw (h, e) (no_run is_ascii_alphabetic)

part_run : (a d : Bool) (c : ℕ) (cs : List ℕ) → Run is_ascii_alphanumeric (tag_rest Part cs)
    → BehindDash (tag_rest Dash cs)
    → is_ascii_alphanumeric c ≡ a → eqb c 45 ≡ d → Run is_ascii_alphanumeric (tag_rest Part (c ∷ cs))
part_run true d c cs run dash h e = rw h (more_run is_ascii_alphanumeric c (tag_rest Part cs) h run)
part_run false true c cs run dash h e =
    rw (h, e) (dash_run is_ascii_alphanumeric c (tag_rest Dash cs) (eqb-true _ _ e) dash)
part_run false false c cs run dash h e = rw (h, e) (no_run is_ascii_alphanumeric)

behind_dash : (a : Bool) (c : ℕ) (cs : List ℕ) → Run is_ascii_alphanumeric (tag_rest Part cs)
    → is_ascii_alphanumeric c ≡ a → BehindDash (tag_rest Dash (c ∷ cs))
behind_dash true c cs run h = rw h (h, run)
behind_dash false c cs run h = rw h tt

-- what is parsed from this state on
abbrev pub Taken : TagState → List ℕ → Type 0
Taken Letters run = Run is_ascii_alphabetic run
Taken Dash run = BehindDash run
Taken Part run = Run is_ascii_alphanumeric run

pub tag_rest-Taken : (place : TagState) (cs : List ℕ) → Taken place (tag_rest place cs)
tag_rest-Taken Letters [] = no_run is_ascii_alphabetic
tag_rest-Taken Dash [] = tt
tag_rest-Taken Part [] = no_run is_ascii_alphanumeric
tag_rest-Taken Letters (c ∷ cs) =
    letters_run (is_ascii_alphabetic c) (eqb c 45) c cs (tag_rest-Taken Letters cs) (tag_rest-Taken Dash cs) refl refl
tag_rest-Taken Dash (c ∷ cs) = behind_dash (is_ascii_alphanumeric c) c cs (tag_rest-Taken Part cs) refl
tag_rest-Taken Part (c ∷ cs) =
    part_run (is_ascii_alphanumeric c) (eqb c 45) c cs (tag_rest-Taken Part cs) (tag_rest-Taken Dash cs) refl refl

unless_last_dash-front : (next : TagState) (c : ℕ) (ds cs : List ℕ) → Extends ds cs
    → Extends (unless_last_dash next c ds) (c ∷ cs)
unless_last_dash-front Letters c ds cs f = front_cons c ds cs f
unless_last_dash-front Part c ds cs f = front_cons c ds cs f
unless_last_dash-front Dash c [] cs f = no_front (c ∷ cs)
unless_last_dash-front Dash c (d ∷ ds) cs f = front_cons c (d ∷ ds) cs f

next_prefix : (next : Option TagState) (place : TagState) (c : ℕ) (cs : List ℕ)
    → ((q : TagState) → Extends (tag_rest q cs) cs) → next_tag_state place c ≡ next
    → Extends (tag_rest place (c ∷ cs)) (c ∷ cs)
next_prefix None place c cs ih h = rw h (no_front (c ∷ cs))
next_prefix (Some q) place c cs ih h = rw h (unless_last_dash-front q c (tag_rest q cs) cs (ih q))

pub tag_rest-front : (place : TagState) (cs : List ℕ) → Extends (tag_rest place cs) cs
tag_rest-front place [] = no_front []
tag_rest-front place (c ∷ cs) = next_prefix (next_tag_state place c) place c cs (λ q. tag_rest-front q cs) refl

letter_then : (c : ℕ) (run : List ℕ) → is_ascii_alphabetic c ≡ true → Run is_ascii_alphabetic run → IsTag (c ∷ run)
letter_then c run h r = record {
  head = c ∷ r.first;
  parts = r.parts;
  some = not_empty c r.first;
  letters = and_both _ _ h r.letters;
  each = r.each;
  whole = ap (λ (cs : List ℕ). c ∷ cs) r.whole;
}

-- the parsed tag is a tag, or the text doesn't begin with one
abbrev pub TagSays : List ℕ → Option ℕ → Type 0
TagSays text (Some n) = IsTag (take n text)
TagSays text None = DoesNotBeginWith is_ascii_alphabetic text

pub tag_says : (text : List ℕ) → TagSays text (tag_len text)
tag_says [] = tt
tag_says (c ∷ cs) = elim (cases_Bool (is_ascii_alphabetic c)) [
  | inl p ↦
      let f = tag_rest-front Letters cs in
      let run = c ∷ tag_rest Letters cs in
      let front : take (length run) (c ∷ cs) ≡ run = ap (λ (bs : List ℕ). take (length run) (c ∷ bs)) f.whole
      ∙ take_at run f.more (length run) refl in
      rw p (subst IsTag (sym front) (letter_then c (tag_rest Letters cs) p (tag_rest-Taken Letters cs)))
  | inr p ↦ rw p p
]

-- ---- a tag is parsed in full

-- the tag does not continue here
pub record Ends (more : List ℕ) : Type 0 where
  pub letters : tag_rest Letters more ≡ []
  pub part : tag_rest Part more ≡ []

letters_again : (head more : List ℕ) → list_all is_ascii_alphabetic head ≡ true
    → tag_rest Letters (head ++ more) ≡ head ++ tag_rest Letters more
letters_again [] more h = refl
letters_again (c ∷ head) more h =
    rw (and_first (is_ascii_alphabetic c) (list_all is_ascii_alphabetic head) h)
    (ap (λ (bs : List ℕ). c ∷ bs) (letters_again head more (and_second _ _ h)))

part_again : (part more : List ℕ) → list_all is_ascii_alphanumeric part ≡ true
    → tag_rest Part (part ++ more) ≡ part ++ tag_rest Part more
part_again [] more h = refl
part_again (c ∷ part) more h =
    rw (and_first (is_ascii_alphanumeric c) (list_all is_ascii_alphanumeric part) h)
    (ap (λ (bs : List ℕ). c ∷ bs) (part_again part more (and_second _ _ h)))

dash_again : (part more : List ℕ) → IsSubtag part → unless_last_dash Dash 45 (tag_rest Dash (part ++ more))
    ≡ 45 ∷ (part ++ tag_rest Part more)
dash_again [] more h = absurd (h.some refl)
dash_again (c ∷ part) more h =
    rw (and_first (is_ascii_alphanumeric c) (list_all is_ascii_alphanumeric part) h.each)
    (ap (λ (bs : List ℕ). 45 ∷ c ∷ bs) (part_again part more (and_second _ _ h.each)))

parts_more : (parts : List (List ℕ)) (more : List ℕ) → AllByRecursion IsSubtag parts
    → tag_rest Part (flat_map dashed parts ++ more) ≡ flat_map dashed parts ++ tag_rest Part more
parts_more [] more each = refl
parts_more (part ∷ parts) more each =
    ap (tag_rest Part) (append_assoc (45 ∷ part) (flat_map dashed parts) more)
    ∙ dash_again part (flat_map dashed parts ++ more) each.0
    ∙ ap (λ (bs : List ℕ). 45 ∷ (part ++ bs)) (parts_more parts more each.1)
    ∙ sym (append_assoc (45 ∷ part) (flat_map dashed parts) (tag_rest Part more))

-- what the tag takes of the bytes behind its parts
abbrev pub behind_parts : List (List ℕ) → List ℕ → List ℕ
behind_parts [] more = tag_rest Letters more
behind_parts (part ∷ parts) more = tag_rest Part more

tail_more : (parts : List (List ℕ)) (more : List ℕ) → AllByRecursion IsSubtag parts
    → tag_rest Letters (flat_map dashed parts ++ more) ≡ flat_map dashed parts ++ behind_parts parts more
tail_more [] more each = refl
tail_more (part ∷ parts) more each =
    ap (tag_rest Letters) (append_assoc (45 ∷ part) (flat_map dashed parts) more)
    ∙ dash_again part (flat_map dashed parts ++ more) each.0
    ∙ ap (λ (bs : List ℕ). 45 ∷ (part ++ bs)) (parts_more parts more each.1)
    ∙ sym (append_assoc (45 ∷ part) (flat_map dashed parts) (tag_rest Part more))

head_more : (head : List ℕ) (parts : List (List ℕ)) (more : List ℕ) → head ≢ []
    → list_all is_ascii_alphabetic head ≡ true → AllByRecursion IsSubtag parts
    → tag_len ((head ++ flat_map dashed parts) ++ more)
    ≡ Some (length ((head ++ flat_map dashed parts) ++ behind_parts parts more))
head_more [] parts more some letters each = absurd (some refl)
head_more (c ∷ head) parts more some letters each =
    rw (and_first (is_ascii_alphabetic c) (list_all is_ascii_alphabetic head) letters)
    (ap (λ (bs : List ℕ). Some (suc (length bs)))
    (ap (tag_rest Letters) (append_assoc head (flat_map dashed parts) more)
    ∙ letters_again head (flat_map dashed parts ++ more) (and_second _ _ letters)
    ∙ ap (λ (bs : List ℕ). head ++ bs) (tail_more parts more each)
    ∙ sym (append_assoc head (flat_map dashed parts) (behind_parts parts more))))

pub tag_len-more : (tag more : List ℕ) (h : IsTag tag)
    → tag_len (tag ++ more) ≡ Some (length (tag ++ behind_parts h.parts more))
tag_len-more tag more h = rw h.whole (head_more h.head h.parts more h.some h.letters h.each)

nothing_behind : (parts : List (List ℕ)) (more : List ℕ) → Ends more → behind_parts parts more ≡ []
nothing_behind [] more ends = ends.letters
nothing_behind (part ∷ parts) more ends = ends.part

pub tag_len-again : (tag more : List ℕ) → IsTag tag → Ends more → tag_len (tag ++ more) ≡ Some (length tag)
tag_len-again tag more h ends = tag_len-more tag more h
    ∙ ap (λ (bs : List ℕ). Some (length (tag ++ bs))) (nothing_behind h.parts more ends)
    ∙ ap (λ (bs : List ℕ). Some (length bs)) (append-nil tag)

pub tag_again : (tag more : List ℕ) → IsTag tag → Ends more → tag_at (64 ∷ (tag ++ more)) ≡ Ok (Tag tag, more)
unfolding tag_at
tag_again tag more h ends =
    rw (tag_len-again tag more h ends, take_at tag more (length tag) refl, drop_at tag more (length tag) refl) refl
