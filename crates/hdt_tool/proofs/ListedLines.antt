-- The lines of the strings that begin with a prefix, one after another.
use Rattle.std.proofs.Common.{◌≡◌, ◌↔◌, ◌⊎◌, ◌+◌, ◌-◌, ◌<◌, ◌≤◌, ℕ, zero, suc, Bool, true, List, [], ◌∷◌, ◌++◌, Option}
use Rattle.std.proofs.Common.{None, Some, refl, sym, ap, subst, ◌∙◌, inl, inr, arith, length, take, drop, get_or}
use Rattle.std.proofs.Common.{append_assoc, append-nil}
use Rattle.std.proofs.Math.Seq.{get_or-append_right, take-length}
use Rattle.std.proofs.Math.ListN.{get_or-append}
use Rattle.std.proofs.lemmas.Bool.{cases_lt}
use Rattle.std.proofs.lemmas.Grind.{get_or_default_zero}
use Rattle.std.proofs.lemmas.List.{length-append, take_more}
use Rattle.std.proofs.lemmas.Option.{slice_get_within}
use Rattle.std.proofs.lemmas.List.FromFn.{get_or-range_with_len, length-range_with_len}
use Rattle.std.proofs.lemmas.List.Elements.{Contains-append_left, Contains-append_right, Contains-get_or}
use Rattle.std.specs.List.{Contains, range_with_len}
use Rattle.hdt_wire.specs.declared.Role.{Role}
use Rattle.hdt_dict.specs.Ids.{string_at_id, AppendsString}
use Rattle.hdt_dict.specs.Iteration.{RoleIterState, next_id}
use Rattle.hdt_dict.specs.Prefixes.{IsInRanges, RangesAscend, SomeBeginsWith}
use Rattle.hdt_dict.specs.declared.prefix.PrefixRanges.{PrefixRanges}
use Rattle.hdt_tool.specs.ListedStrings.{AreAscendingIds, AreLinesOfIds, ArePrefixIds, IsLineOfId, IsLineFault}
use Rattle.hdt_tool.specs.ListedStrings.{IsListedLine}
use Rattle.hdt_tool.specs.StringsText.{IsFirstWithoutLine}
use Rattle.hdt_terms.specs.Strings.{IsTermOfString}
use Rattle.hdt_tool.specs.declared.fault.ToolFault.{ToolFault}
use Rattle.hdt_tool.specs.declared.fault.ToolFault.TheVariants.{NotATerm, OutOfMemory}
use Rattle.hdt_tool.proofs.CountLines.{HasReturned, Steps, appended_is, around, lines_on, none_ahead, range_split}
use Rattle.hdt_tool.proofs.CountLines.{returned_on, string_is}

-- ---- ranges

-- One more number of a range.
pub range_more : (old new : List ℕ) (start count : ℕ)
    → new ≡ (old ++ range_with_len start count) ++ (start + count) ∷ [] → new ≡ old ++ range_with_len start (count + 1)
range_more old new start count is = is ∙ append_assoc old (range_with_len start count) ((start + count) ∷ [])
    ∙ ap (λ l. old ++ l) (sym (range_split start count 1))

-- The IDs of two ranges, in order.
abbrev range_ids : PrefixRanges → List ℕ
range_ids r = range_with_len r.first.start (r.first.end - r.first.start)
    ++ range_with_len r.second.start (r.second.end - r.second.start)

-- An element of two ranges is in one of them, and no other number is.
in_range : (start end n : ℕ) → start ≤ n → n < end → Contains (range_with_len start (end - start)) n
in_range start end n low high =
    let within : n - start < end - start = omega (arith, low, high) in (
      n - start,
      omega (arith, within, length-range_with_len start (end - start)),
      get_or-range_with_len start (end - start) (n - start) n within ∙ omega (arith, low),
    )

among_range_ids : (r : PrefixRanges) (n : ℕ) → IsInRanges r n → Contains (range_ids r) n
among_range_ids r n (inl h) = Contains-append_left _ _ n (in_range r.first.start r.first.end n h.0 h.1)
among_range_ids r n (inr h) = Contains-append_right _ _ n (in_range r.second.start r.second.end n h.0 h.1)

in_ranges : (r : PrefixRanges) (i d : ℕ) → i < length (range_ids r) → IsInRanges r (get_or (range_ids r) i d)
in_ranges r i d lt = elim (cases_lt i (length first)) [
  | inl low ↦
      let below : i < r.first.end - r.first.start = omega (arith, low, firsts) in
      let is : get_or (first ++ second) i d ≡ r.first.start + i = get_or-append first second d i low
      ∙ get_or-range_with_len r.first.start (r.first.end - r.first.start) i d below in
      subst (IsInRanges r) (sym is) (inl (omega arith, omega (arith, below)))
  | inr high ↦
      let below : i - length first < r.second.end - r.second.start =
      omega (arith, lt, high, length-append first second, seconds) in
      let is : get_or (first ++ second) i d ≡ r.second.start + (i - length first) =
      get_or-append_right first second i d high
      ∙ get_or-range_with_len r.second.start (r.second.end - r.second.start) (i - length first) d below in
      subst (IsInRanges r) (sym is) (inr (omega arith, omega (arith, below)))
]
  where
    first : List ℕ
    first = range_with_len r.first.start (r.first.end - r.first.start)

    second : List ℕ
    second = range_with_len r.second.start (r.second.end - r.second.start)

    firsts : length first ≡ r.first.end - r.first.start
    firsts = length-range_with_len r.first.start (r.first.end - r.first.start)

    seconds : length second ≡ r.second.end - r.second.start
    seconds = length-range_with_len r.second.start (r.second.end - r.second.start)

some_string : (prefix : List ℕ) (there : Option (List ℕ)) → SomeBeginsWith prefix there → (string : List ℕ)
    × (there ≡ Some string)
some_string prefix None h = absurd h
some_string prefix (Some string) h = (string, refl)

-- Two elements of two ranges, one behind the other.
ranges_ascend : (r : PrefixRanges) (count i d : ℕ) → RangesAscend r count → suc i < length (range_ids r)
    → get_or (range_ids r) i d < get_or (range_ids r) (suc i) d
ranges_ascend r count i d h lt = elim (cases_lt (suc i) (length first)) [
  | inl low ↦
      let a : get_or (first ++ second) i d ≡ r.first.start + i =
      get_or-append first second d i (omega (arith, low))
      ∙ get_or-range_with_len r.first.start (r.first.end - r.first.start) i d (omega (arith, low, firsts)) in
      let b : get_or (first ++ second) (suc i) d ≡ r.first.start + suc i =
      get_or-append first second d (suc i) low
      ∙ get_or-range_with_len r.first.start (r.first.end - r.first.start) (suc i) d (omega (arith, low, firsts)) in
      omega (arith, a, b)
  | inr high ↦
      let k : suc i - length first < r.second.end - r.second.start =
      omega (arith, lt, high, length-append first second, seconds) in
      let b : get_or (first ++ second) (suc i) d ≡ r.second.start + (suc i - length first) =
      get_or-append_right first second (suc i) d high
      ∙ get_or-range_with_len r.second.start (r.second.end - r.second.start) (suc i - length first) d k in
      elim (cases_lt i (length first)) [
        | inl low ↦
            let a : get_or (first ++ second) i d ≡ r.first.start + i =
            get_or-append first second d i low
            ∙ get_or-range_with_len r.first.start (r.first.end - r.first.start) i d (omega (arith, low, firsts)) in
            omega (arith, a, b, low, firsts, h.1, h.2)
        | inr behind ↦
            let a : get_or (first ++ second) i d ≡ r.second.start + (i - length first) =
            get_or-append_right first second i d behind
            ∙ get_or-range_with_len r.second.start (r.second.end - r.second.start) (i - length first) d
            (omega (arith, k, behind)) in
            omega (arith, a, b, behind)
      ]
]
  where
    first : List ℕ
    first = range_with_len r.first.start (r.first.end - r.first.start)

    second : List ℕ
    second = range_with_len r.second.start (r.second.end - r.second.start)

    firsts : length first ≡ r.first.end - r.first.start
    firsts = length-range_with_len r.first.start (r.first.end - r.first.start)

    seconds : length second ≡ r.second.end - r.second.start
    seconds = length-range_with_len r.second.start (r.second.end - r.second.start)

pub prefix_ids_are : (strings : List (List ℕ)) (prefix ids : List ℕ) (r : PrefixRanges)
    → ((n : ℕ) → IsInRanges r n ↔ SomeBeginsWith prefix (string_at_id strings n)) → RangesAscend r (length strings)
    → ids ≡ range_with_len r.first.start (r.first.end - r.first.start)
    ++ range_with_len r.second.start (r.second.end - r.second.start) → ArePrefixIds strings prefix ids
prefix_ids_are strings prefix ids r exact ascend is = subst (ArePrefixIds strings prefix) (sym is) (record {
  exact = λ n. (
    λ h. (exact n).0 (subst (IsInRanges r) h.2 (in_ranges r h.0 n h.1)),
    λ begins. among_range_ids r n ((exact n).1 begins),
  );
  ascend = λ i d lt. ranges_ascend r (length strings) i d ascend lt;
})

pub ascending_ids : (strings : List (List ℕ)) (prefix ids : List ℕ) → ArePrefixIds strings prefix ids
    → AreAscendingIds strings ids
ascending_ids strings prefix ids h = record {
  found = λ i d lt. some_string prefix (string_at_id strings (get_or ids i d))
      ((h.exact (get_or ids i d)).0 (Contains-get_or ids i d lt));
  ascend = h.ascend;
}

-- The string of an ID was decoded.
pub decoded_id : (strings : List (List ℕ)) (ids : List ℕ) (at number d : ℕ) (appended : Bool) (old new : List ℕ)
    → AreAscendingIds strings ids → at < length ids → number ≡ get_or ids at d → old ≡ []
    → AppendsString (string_at_id strings number) appended old new → string_at_id strings number ≡ Some new
decoded_id strings ids at number d appended old new h lt is empty done =
    let there = subst (λ (n : ℕ). (string : List ℕ)
    × (string_at_id strings n ≡ Some string)) (sym is) (h.found at d lt) in
    appended_is (string_at_id strings number) appended old new there.0 there.1 empty done

-- ---- lines

-- One more line.
pub ids_on : (strings : List (List ℕ)) (terms : Bool) (ids : List ℕ) (at number d : ℕ) (text new line string : List ℕ)
    → at < length ids → number ≡ get_or ids at d
    → AreLinesOfIds strings terms (take at ids) text → string_at_id strings number ≡ Some string
    → IsListedLine terms number string line → new ≡ text ++ line
    → AreLinesOfIds strings terms (take (at + 1) ids) new
ids_on strings terms ids at number d text new line string lt is lines there one added =
    rw (take_more ids at d lt, ← is, added)
    (lines_on (IsLineOfId strings terms) (take at ids) number text line lines
    (record { string = string; found = there; listed = one }))

pub ids_all : (strings : List (List ℕ)) (terms : Bool) (ids : List ℕ) (at : ℕ) (text : List ℕ) → at ≡ length ids
    → AreLinesOfIds strings terms (take at ids) text → AreLinesOfIds strings terms ids text
ids_all strings terms ids at text is lines =
    subst (λ (l : List ℕ). AreLinesOfIds strings terms l text) (ap (λ n. take n ids) is ∙ take-length ids) lines

-- The line of an ID fails.
abbrev pub ListedLineFails : Role → ℕ → Bool → List ℕ → ToolFault → Type 0
ListedLineFails role number terms string e = (e ≡ OutOfMemory)
    ⊎ ((e ≡ NotATerm role number) × (terms ≡ true) × IsTermOfString string None)

pub id_fails : (strings : List (List ℕ)) (role : Role) (terms : Bool) (ids : List ℕ) (at number d : ℕ)
    (text string : List ℕ) (e : ToolFault) → at < length ids → number ≡ get_or ids at d
    → AreLinesOfIds strings terms (take at ids) text → string_at_id strings number ≡ Some string
    → ListedLineFails role number terms string e → IsLineFault strings ids role terms e
id_fails strings role terms ids at number d text string e lt is lines there (inl out) =
    subst (IsLineFault strings ids role terms) (sym out) tt
id_fails strings role terms ids at number d text string e lt is lines there (inr fails) =
    let cut : ids ≡ take at ids ++ number ∷ drop (suc at) ids = around ids at d lt
    ∙ ap (λ n. take at ids ++ n ∷ drop (suc at) ids) (sym is) in
    let last : IsFirstWithoutLine (IsLineOfId strings true) strings ids number = record {
      before = take at ids;
      after = drop (suc at) ids;
      text = text;
      position = cut;
      lines = subst (λ (b : Bool). AreLinesOfIds strings b (take at ids) text) fails.1 lines;
      none = (string, there, fails.2);
    } in
    subst (IsLineFault strings ids role terms) (sym fails.0) (refl, fails.1, last)

-- ---- walking

-- The default of an element that is there makes no difference.
any_default : (xs : List ℕ) (i d e : ℕ) → i < length xs → get_or xs i d ≡ get_or xs i e
any_default xs i d e lt = get_or_default_zero xs i d lt ∙ sym (get_or_default_zero xs i e lt)

-- The IDs up to the last string have lines, and the next one is behind it.
pub record AreWalkedIds (strings : List (List ℕ)) (terms : Bool) (ids : List ℕ) (w : RoleIterState) (at : ℕ)
    (text : List ℕ) : Type 0 where
  pub returned : HasReturned strings w
  pub within : at ≤ length ids
  pub next : (d : ℕ) → at < length ids → w.given < get_or ids at d
  pub lines : AreLinesOfIds strings terms (take at ids) text

pub starts : (strings : List (List ℕ)) (terms : Bool) (ids : List ℕ) → AreAscendingIds strings ids
    → AreWalkedIds strings terms ids (record { given = 0; last = []; ahead = strings }) 0 []
starts strings terms ids h = record {
  returned = record { done = []; all = refl; given = refl };
  within = omega arith;
  next = λ d lt. some_is_positive strings (get_or ids 0 d) (h.found 0 d lt).0 (h.found 0 d lt).1;
  lines = refl;
}
  where
    some_is_positive : (strings : List (List ℕ)) (n : ℕ) (string : List ℕ) → string_at_id strings n ≡ Some string
        → 0 < n
    some_is_positive strings zero string is = absurd cc
    some_is_positive strings (suc n) string is = omega arith

-- The string's ID is none of the IDs.
pub passed : (strings : List (List ℕ)) (terms : Bool) (ids : List ℕ) (w v : RoleIterState) (at n d : ℕ) (text : List ℕ)
    → AreWalkedIds strings terms ids w at text → Steps w v n → at < length ids → (n ≡ get_or ids at d → ⊥)
    → AreWalkedIds strings terms ids v at text
passed strings terms ids w v at n d text h s lt other = record {
  returned = returned_on strings w v n h.returned s;
  within = h.within;
  next = λ e below. let same : get_or ids at e ≡ get_or ids at d = any_default ids at e d lt in let apart =
      not_equal n (get_or ids at d) other in omega (arith, same, s.given, s.number, h.next d lt, apart);
  lines = h.lines;
}
  where
    not_equal : (m k : ℕ) → (m ≡ k → ⊥) → (m < k) ⊎ (k < m)
    not_equal m k other = elim (cases_lt m k) [
      | inl lt ↦ inl lt
      | inr le ↦ elim (cases_lt k m) [
        | inl lt ↦ inr lt
        | inr ge ↦ absurd (other (omega (arith, le, ge)))
      ]
    ]

-- The string's ID is the next of the IDs, and has a line.
pub kept : (strings : List (List ℕ)) (terms : Bool) (ids : List ℕ) (w v : RoleIterState) (at n d : ℕ)
    (text new line last : List ℕ) → AreAscendingIds strings ids → AreWalkedIds strings terms ids w at text → Steps w v n
    → at < length ids → n ≡ get_or ids at d → last ≡ v.last → IsListedLine terms n last line → new ≡ text ++ line
    → AreWalkedIds strings terms ids v (at + 1) new
kept strings terms ids w v at n d text new line last up h s lt same is one added = record {
  returned = returned_on strings w v n h.returned s;
  within = omega (arith, lt);
  next = λ e below. let more : suc at ≡ at + 1 = omega arith in let above =
      subst (λ k. get_or ids at d < get_or ids k d) more (up.ascend at d (omega (arith, below))) in
      omega (arith, above, same, s.given, s.number, any_default ids (at + 1) e d below);
  lines = ids_on strings terms ids at n d text new line last lt same h.lines
      (string_is strings w v n last h.returned s is) one added;
}

-- All strings were returned.
pub walked_to_the_end : (strings : List (List ℕ)) (terms : Bool) (ids : List ℕ) (w : RoleIterState) (r : Option ℕ)
    (at : ℕ) (text : List ℕ) → AreAscendingIds strings ids → AreWalkedIds strings terms ids w at text
    → r ≡ next_id w w.ahead
    → ((n : ℕ) → r ≡ Some n → ⊥) → AreLinesOfIds strings terms ids text
walked_to_the_end strings terms ids w r at text up h e not = elim (cases_lt at (length ids)) [
  | inl lt ↦
      let back = h.returned in
      let all : strings ≡ back.done = back.all ∙ ap (λ l. back.done ++ l) (none_ahead w w.ahead r e not)
      ∙ append-nil back.done in
      let last = within (get_or ids at 0) (up.found at 0 lt).0 (up.found at 0 lt).1 in
      absurd (omega (arith, h.next 0 lt, back.given, ap length all, last))
  | inr le ↦ ids_all strings terms ids at text (omega (arith, le, h.within)) h.lines
]
  where
    within : (n : ℕ) (string : List ℕ) → string_at_id strings n ≡ Some string → n ≤ length strings
    within zero string is = omega arith
    within (suc i) string is = omega (arith, slice_get_within strings i string is)
