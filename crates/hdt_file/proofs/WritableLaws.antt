-- The matches that have a line, collected one by one.
use Rattle.std.proofs.Common.{◌≡◌, ◌≤◌, ◌<◌, ◌-◌, ◌+◌, ◌⊎◌, ℕ, drop, zero, suc, not, Bool, true, false, cond, List}
use Rattle.std.proofs.Common.{[], ◌∷◌, ◌++◌, length, take, Option, None, Some, refl, sym, ap, ◌∙◌, subst}
use Rattle.std.proofs.Common.{append_assoc, append-nil, inl, inr, arith}
use Rattle.std.specs.Option.{unwrap_or}
use Rattle.std.specs.List.{filter}
use Rattle.std.proofs.lemmas.List.{drop_all, length-append, take_all}
use Rattle.std.proofs.lemmas.List.Elements.{All-take, filter_passes}
use Rattle.std.proofs.lemmas.List.Sums.{count_by-le-length, length-filter}
use Rattle.hdt_triples.specs.TripleSequences.{Triple}
use Rattle.hdt_triples.specs.declared.pattern.Pattern.{Pattern}
use Rattle.hdt_file.specs.File.{GraphParts}
use Rattle.hdt_file.specs.Writable.{DecidesWritable, IsWritable, AreWritableTriples, SkipsNonTerms, skipped_before}
use Rattle.hdt_file.specs.Writable.{skipped_among}
use Rattle.hdt_file.specs.TermFlags.{AreTermFlags, is_writable}
use Rattle.hdt_file.specs.TextWriting.{limited, matches_if_given}
use Rattle.hdt_file.specs.declared.writable.WritableMatches.{WritableMatches}
use Rattle.hdt_file.specs.declared.term_flags.TermFlags.{TermFlags}
use Rattle.std.specs.Prelude.{Result, Ok, Err, IfOk}
use Rattle.std.specs.declared.alloc.AllocError.{AllocError}
use Rattle.hdt_file.proofs.TermFlagLaws.{tells}

-- what was collected after `old`, with what the remaining matches give, is what all give: the first `most` of them
pub record KeepsLines (is_writable : Triple → Bool) (most : ℕ) (all old kept : List Triple) (skipped wanted : ℕ)
    (left : List Triple) : Type 0 where
  pub kept_are : old ++ take most (filter is_writable all) ≡ kept ++ take wanted (filter is_writable left)
  pub rest_is : drop most (filter is_writable all) ≡ drop wanted (filter is_writable left)
  pub so_many : length kept + wanted ≡ length old + most
  pub skipped_is : (k : ℕ) → skipped_before is_writable (most + k) all
      ≡ skipped + skipped_before is_writable (wanted + k) left
  pub bound : skipped + length left ≤ length all

pub begins : (is_writable : Triple → Bool) (most : ℕ) (all old : List Triple)
    → KeepsLines is_writable most all old old 0 most all
begins is_writable most all old = record {
  kept_are = refl;
  rest_is = refl;
  so_many = refl;
  skipped_is = λ k. omega arith;
  bound = omega arith;
}

-- one more match
pub keeps : (is_writable : Triple → Bool) (most : ℕ) (all old kept new : List Triple) (skipped n : ℕ) (t : Triple)
    (left rest : List Triple) → left ≡ t ∷ rest → is_writable t ≡ true → new ≡ kept ++ t ∷ []
    → KeepsLines is_writable most all old kept skipped (suc n) left
    → KeepsLines is_writable most all old new skipped n rest
keeps is_writable most all old kept new skipped n t left rest first line grown h =
    let k = subst (λ (l : List Triple). KeepsLines is_writable most all old kept skipped (suc n) l) first h in
    let one : (m : ℕ) → suc n + m ≡ suc (n + m) = λ m. omega arith in
    record {
      kept_are = k.kept_are ∙ ap (λ (b : Bool). kept
          ++ take (suc n) (cond b (t ∷ filter is_writable rest) (filter is_writable rest))) line
          ∙ sym (append_assoc kept (t ∷ []) (take n (filter is_writable rest)))
          ∙ ap (λ (l : List Triple). l ++ take n (filter is_writable rest)) (sym grown);
      rest_is = k.rest_is ∙ ap (λ (b : Bool). drop (suc n)
          (cond b (t ∷ filter is_writable rest) (filter is_writable rest))) line;
      so_many = omega (arith, k.so_many, ap length grown, length-append kept (t ∷ []));
      skipped_is = λ m. k.skipped_is m ∙ ap (λ x. skipped + skipped_before is_writable x (t ∷ rest)) (one m)
          ∙ ap (λ (b : Bool). skipped + cond b (skipped_before is_writable (n + m) rest)
          (suc (skipped_before is_writable (suc (n + m)) rest))) line;
      bound = omega (arith, k.bound);
    }

pub skips : (is_writable : Triple → Bool) (most : ℕ) (all old kept : List Triple) (skipped more n : ℕ) (t : Triple)
    (left rest : List Triple) → left ≡ t ∷ rest → is_writable t ≡ false → more ≡ skipped + 1
    → KeepsLines is_writable most all old kept skipped (suc n) left
    → KeepsLines is_writable most all old kept more (suc n) rest
skips is_writable most all old kept skipped more n t left rest first line grown h =
    let k = subst (λ (l : List Triple). KeepsLines is_writable most all old kept skipped (suc n) l) first h in
    let one : (m : ℕ) → suc n + m ≡ suc (n + m) = λ m. omega arith in
    let same : (m : ℕ) → skipped + suc (skipped_before is_writable (suc (n + m)) rest)
    ≡ more + skipped_before is_writable (suc n + m) rest =
    λ m. omega (arith, grown, ap (λ x. skipped_before is_writable x rest) (one m)) in
    record {
      kept_are = k.kept_are ∙ ap (λ (b : Bool). kept
          ++ take (suc n) (cond b (t ∷ filter is_writable rest) (filter is_writable rest))) line;
      rest_is = k.rest_is ∙ ap (λ (b : Bool). drop (suc n)
          (cond b (t ∷ filter is_writable rest) (filter is_writable rest))) line;
      so_many = k.so_many;
      skipped_is = λ m. k.skipped_is m ∙ ap (λ x. skipped + skipped_before is_writable x (t ∷ rest)) (one m)
          ∙ ap (λ (b : Bool). skipped + cond b (skipped_before is_writable (n + m) rest)
          (suc (skipped_before is_writable (suc (n + m)) rest))) line
          ∙ same m;
      bound = omega (arith, k.bound, grown);
    }

-- the end: no match is left, or no line is wanted any more
pub record KeptLines (is_writable : Triple → Bool) (most : ℕ) (all old kept : List Triple) (skipped : ℕ)
    (left : List Triple) : Type 0 where
  pub kept_are : kept ≡ old ++ take most (filter is_writable all)
  pub rest_is : filter is_writable left ≡ drop most (filter is_writable all)
  pub whole : (left ≡ []) ⊎ (length kept ≡ length old + most)
  pub skipped_is : (k : ℕ) → skipped_before is_writable (most + k) all ≡ skipped + skipped_before is_writable k left
  pub bound : skipped + length left ≤ length all

none_before : (is_writable : Triple → Bool) (n : ℕ) (ts : List Triple) → (ts ≡ []) ⊎ (n ≡ 0)
    → skipped_before is_writable n ts ≡ 0
none_before is_writable n [] h = refl
none_before is_writable zero (t ∷ ts) h = refl
none_before is_writable (suc n) (t ∷ ts) (inl h) = absurd cc
none_before is_writable (suc n) (t ∷ ts) (inr h) = absurd (omega (arith, h))

pub ended : (is_writable : Triple → Bool) (most : ℕ) (all old kept : List Triple) (skipped wanted : ℕ)
    (left : List Triple) → KeepsLines is_writable most all old kept skipped wanted left
    → (left ≡ []) ⊎ (wanted ≡ 0) → KeptLines is_writable most all old kept skipped left
ended is_writable most all old kept skipped wanted left h (inl none) =
    let k = subst (λ (l : List Triple). KeepsLines is_writable most all old kept skipped wanted l) none h in
    subst (λ (l : List Triple). KeptLines is_writable most all old kept skipped l) (sym none) (record {
      kept_are = sym (k.kept_are ∙ ap (λ (l : List Triple). kept ++ l) (take_all wanted [] (omega arith))
          ∙ append-nil kept);
      rest_is = sym (k.rest_is ∙ drop_all wanted [] (omega arith));
      whole = inl refl;
      skipped_is = k.skipped_is;
      bound = k.bound;
    })
ended is_writable most all old kept skipped wanted left h (inr none) =
    let k = subst (λ (n : ℕ). KeepsLines is_writable most all old kept skipped n left) none h in
    let zero_and : (m : ℕ) → 0 + m ≡ m = λ m. omega arith in
    record {
      kept_are = sym (k.kept_are ∙ append-nil kept);
      rest_is = sym k.rest_is;
      whole = inr (omega (arith, k.so_many));
      skipped_is = λ m. k.skipped_is m
          ∙ ap (λ x. skipped + skipped_before is_writable x left) (zero_and m);
      bound = k.bound;
    }

-- ---- a limit that is none

by_flag : (b : Bool) (t : Triple) (rest : List Triple) (one other : ℕ) → one ≡ length rest → other ≡ length rest
    → cond b one (suc other) ≡ length (cond (not b) (t ∷ rest) rest)
by_flag true t rest one other e f = e
by_flag false t rest one other e f = ap suc f

all_skipped : (tells : Triple → Bool) (n : ℕ) (ts : List Triple) → length ts ≤ n
    → skipped_before tells n ts ≡ length (filter (λ t. not (tells t)) ts)
all_skipped tells n [] h = refl
all_skipped tells zero (t ∷ ts) h = absurd (omega (arith, h))
all_skipped tells (suc n) (t ∷ ts) h =
    by_flag (tells t) t (filter (λ t. not (tells t)) ts) (skipped_before tells n ts) (skipped_before tells (suc n) ts)
    (all_skipped tells n ts (omega (arith, h))) (all_skipped tells (suc n) ts (omega (arith, h)))

pub filter_short : (is_writable : Triple → Bool) (ts : List Triple) → length (filter is_writable ts) ≤ length ts
filter_short is_writable ts = omega (arith, length-filter is_writable ts, count_by-le-length is_writable ts)

pub limited_kept : (is_writable : Triple → Bool) (most : Option ℕ) (all : List Triple) (limit : ℕ) → length all ≤ limit
    → limited most (filter is_writable all) ≡ take (unwrap_or most limit) (filter is_writable all)
limited_kept is_writable None all limit long =
    sym (take_all limit (filter is_writable all) (omega (arith, long, filter_short is_writable all)))
limited_kept is_writable (Some n) all limit long = refl

pub limited_skipped : (is_writable : Triple → Bool) (most : Option ℕ) (all : List Triple) (limit : ℕ)
    → length all ≤ limit
    → skipped_among is_writable most all ≡ skipped_before is_writable (unwrap_or most limit) all
limited_skipped is_writable None all limit long = sym (all_skipped is_writable limit all long)
limited_skipped is_writable (Some n) all limit long = refl

-- all lines that are wanted were collected at once
pub collected : (is_writable : Triple → Bool) (most : Option ℕ) (all left : List Triple) (skipped limit : ℕ)
    → length all ≤ limit
    → ((k : ℕ) → skipped_before is_writable (unwrap_or most limit + k) all
    ≡ skipped + skipped_before is_writable k left)
    → skipped ≡ skipped_among is_writable most all
collected is_writable most all left skipped limit long told =
    let whole : unwrap_or most limit + 0 ≡ unwrap_or most limit = omega arith in
    omega (
      arith,
      told 0,
      ap (λ m. skipped_before is_writable m all) whole,
      none_before is_writable 0 left (inr refl),
      limited_skipped is_writable most all limit long,
    )

-- ---- matches that are collected in parts

pub part_skipped : (is_writable : Triple → Bool) (all skipped one n left : ℕ) (ts rest : List Triple) → n ≤ left
    → all ≡ skipped + skipped_before is_writable left ts
    → ((k : ℕ) → skipped_before is_writable (n + k) ts ≡ one + skipped_before is_writable k rest)
    → all ≡ (skipped + one) + skipped_before is_writable (left - n) rest
part_skipped is_writable all skipped one n left ts rest le before told =
    let whole : n + (left - n) ≡ left = omega (arith, le) in
    omega (arith, before, told (left - n), ap (λ m. skipped_before is_writable m ts) whole)

pub last_skipped : (is_writable : Triple → Bool) (all skipped one n left old len : ℕ) (ts rest : List Triple) → n ≤ left
    → 0 < n → all ≡ skipped + skipped_before is_writable left ts
    → ((k : ℕ) → skipped_before is_writable (n + k) ts ≡ one + skipped_before is_writable k rest)
    → (rest ≡ []) ⊎ (len ≡ old + n) → len ≡ 0 → skipped + one ≡ all
last_skipped is_writable all skipped one n left old len ts rest le some before told (inl none) empty =
    omega (
      arith,
      part_skipped is_writable all skipped one n left ts rest le before told,
      none_before is_writable (left - n) rest (inl none),
    )
last_skipped is_writable all skipped one n left old len ts rest le some before told (inr many) empty =
    absurd (omega (arith, some, many, empty))

pub no_more_skipped : (is_writable : Triple → Bool) (all skipped left : ℕ) (ts : List Triple) → left ≡ 0
    → all ≡ skipped + skipped_before is_writable left ts → skipped ≡ all
no_more_skipped is_writable all skipped left ts none before =
    omega (arith, before, none_before is_writable left ts (inr none))

-- ---- matches of a graph

pub passing : (g : GraphParts) (is_writable : Triple → Bool) (ts : List Triple) → DecidesWritable g is_writable
    → AreWritableTriples g (filter is_writable ts)
passing g is_writable ts h k d below = h.some _ (filter_passes is_writable ts k d below)

-- the matches that were kept have lines
pub have_lines : (g : GraphParts) (is_writable : Triple → Bool) (most : Option ℕ) (ts : List Triple)
    → DecidesWritable g is_writable → AreWritableTriples g (limited most (filter is_writable ts))
have_lines g is_writable None ts h = passing g is_writable ts h
have_lines g is_writable (Some n) ts h = All-take (IsWritable g) n (filter is_writable ts) (passing g is_writable ts h)

-- no match is skipped before the last of those that all have lines
flag_of : (g : GraphParts) (is_writable : Triple → Bool) (t : Triple) (b : Bool) → is_writable t ≡ b
    → DecidesWritable g is_writable → IsWritable g t → is_writable t ≡ true
flag_of g is_writable t true e h line = e
flag_of g is_writable t false e h line =
    let none = h.none t e in absurd (none.1 ((line none.0).0) ((line none.0).1))

first_lines : (g : GraphParts) (is_writable : Triple → Bool) (n : ℕ) (ts : List Triple)
    → DecidesWritable g is_writable → AreWritableTriples g (take n ts) → take n (filter is_writable ts) ≡ take n ts
first_lines g is_writable zero ts h lines = refl
first_lines g is_writable (suc n) [] h lines = refl
first_lines g is_writable (suc n) (t ∷ ts) h lines =
    let one = flag_of g is_writable t (is_writable t) refl h (lines 0 t (omega arith)) in
    ap (λ (b : Bool). take (suc n) (cond b (t ∷ filter is_writable ts) (filter is_writable ts))) one
    ∙ ap (λ (l : List Triple). t ∷ l)
    (first_lines g is_writable n ts h (λ k d below. lines (suc k) d (omega (arith, below))))

pub all_kept : (g : GraphParts) (is_writable : Triple → Bool) (most : Option ℕ) (ts : List Triple)
    → DecidesWritable g is_writable → AreWritableTriples g (limited most ts)
    → limited most (filter is_writable ts) ≡ limited most ts
all_kept g is_writable None ts h lines =
    let n = length ts in
    sym (take_all n (filter is_writable ts) (filter_short is_writable ts))
    ∙ first_lines g is_writable n ts h (subst (AreWritableTriples g) (sym (take_all n ts (omega arith))) lines)
    ∙ take_all n ts (omega arith)
all_kept g is_writable (Some n) ts h lines = first_lines g is_writable n ts h lines

-- the lines of a search
pub lines_found : (g : GraphParts) (flags : TermFlags) (most : Option ℕ) (pattern : Option Pattern)
    (found : List Triple) (r : Result WritableMatches AllocError) → found ≡ matches_if_given g pattern
    → AreTermFlags g flags → IfOk r (λ kept. kept.triples.items ≡ limited most (filter (is_writable flags) found))
    → IfOk r (λ kept. kept.skipped ≡ skipped_among (is_writable flags) most found)
    → IfOk r (λ kept. SkipsNonTerms g most (matches_if_given g pattern) kept.triples.items kept.skipped)
lines_found g flags most pattern found (Ok kept) same are a b =
    subst (λ (ts : List Triple). SkipsNonTerms g most ts kept.triples.items kept.skipped) same
    (record { is_writable = is_writable flags; tells = tells g flags are; kept_are = a; skipped_is = b })
lines_found g flags most pattern found (Err e) same are a b = tt

pub lines_have : (g : GraphParts) (flags : TermFlags) (most : Option ℕ) (found : List Triple)
    (r : Result WritableMatches AllocError) → AreTermFlags g flags
    → IfOk r (λ kept. kept.triples.items ≡ limited most (filter (is_writable flags) found))
    → IfOk r (λ kept. AreWritableTriples g kept.triples.items)
lines_have g flags most found (Ok kept) are a =
    subst (AreWritableTriples g) (sym a) (have_lines g (is_writable flags) most found (tells g flags are))
lines_have g flags most found (Err e) are a = tt
