-- The lines of IDs with their counts, one after another.
use Rattle.std.proofs.Common.{◌≡◌, ◌⊎◌, ◌+◌, ◌-◌, ◌^◌, ◌<◌, ◌≤◌, ℕ, zero, suc, Bool, false, List, [], ◌∷◌, ◌++◌, Option}
use Rattle.std.proofs.Common.{None, Some, refl, sym, ap, subst, ◌∙◌, inl, inr, arith, length, map, take, drop, min}
use Rattle.std.proofs.Common.{get_or, append_assoc, append-nil, take-append-drop, take-take}
use Rattle.std.proofs.Math.Numerals.{add-one}
use Rattle.std.proofs.Math.Seq.{drop-cons, get_or-append_seam, take-length}
use Rattle.std.proofs.lemmas.List.{get_or-map, get_or-take, length-append, length-map, length-take, map-append}
use Rattle.std.proofs.lemmas.List.{take-map, take_more, take_all}
use Rattle.std.proofs.lemmas.Bool.{cases_lt}
use Rattle.std.proofs.lemmas.List.FromFn.{get_or-map-range_with_len, length-map-range_with_len}
use Rattle.std.proofs.lemmas.List.Sorted.{All-permutation, IsPermutation-map}
use Rattle.std.proofs.lemmas.Option.{slice_get-get_or}
use Rattle.std.specs.Cmp.{nat_cmp_is, ranks}
use Rattle.std.specs.List.{All, range_with_len}
use Rattle.std.specs.List.Sorted.{IsPermutation, IsSorted}
use Rattle.std.specs.Ordering.{MatchOrdering, is_lt, nat_cmp, ordering_then}
use Rattle.std.specs.declared.cmp.Ordering.{Ordering}
use Rattle.std.specs.declared.cmp.Ordering.TheVariants.{Less, Equal, Greater}
use Rattle.hdt_wire.specs.declared.Role.{Role}
use Rattle.hdt_terms.specs.Strings.{AppendsDictionaryTermText}
use Rattle.hdt_terms.specs.declared.triple.TermKind.{TermKind}
use Rattle.hdt_dict.specs.Dictionary.{role_strings}
use Rattle.hdt_dict.specs.Ids.{string_at_id, AppendsString}
use Rattle.hdt_dict.specs.Iteration.{RoleIterState, step_role_iter, step_role_iter_by, next_id}
use Rattle.hdt_file.specs.File.{GraphParts}
use Rattle.hdt_tool.specs.StringsText.{AreLinesOf, IsIdOfNonTerm}
use Rattle.hdt_tool.specs.TermCounts.{AreCountedIds, AreCountLines, IsCountFault, IsCountLine, IsStringOrTerm}
use Rattle.hdt_tool.specs.TermCounts.{PrintsCounts, role_ids, use_cmp, use_count}
use Rattle.hdt_tool.specs.Inside.FrequencyKeys.{AreFrequencyKeys, CountsFit, frequency_key, pair_cmp}
use Rattle.hdt_tool.specs.declared.fault.ToolFault.{ToolFault}
use Rattle.hdt_tool.specs.declared.fault.ToolFault.TheVariants.{NotATerm, OutOfMemory}

pub shown_term : (raw : Bool) (string old new : List ℕ) (kind : TermKind) → raw ≡ false
    → AppendsDictionaryTermText string old new kind → (shown : List ℕ) × IsStringOrTerm raw string shown
    × (new ≡ old ++ shown)
shown_term raw string old new kind is h =
    subst (λ (b : Bool). (shown : List ℕ) × IsStringOrTerm b string shown × (new ≡ old ++ shown)) (sym is) (
      _,
      (h.term, h.dictionary, h.is, refl),
      h.puts.grown,
    )

-- One more line.
pub lines_on : (IsLine : ℕ → List ℕ → Type 0) (ids : List ℕ) (n : ℕ) (text line : List ℕ) → AreLinesOf IsLine ids text
    → IsLine n line → AreLinesOf IsLine (ids ++ n ∷ []) (text ++ line)
lines_on IsLine [] n text line h one = (line, [], one, refl, ap (λ t. t ++ line) h ∙ sym (append-nil line))
lines_on IsLine (m ∷ ids) n text line h one =
    (h.0, h.1 ++ line, h.2, lines_on IsLine ids n h.1 line h.3 one, ap (λ t. t ++ line) h.4 ∙ append_assoc h.0 h.1 line)

-- The line of an ID fails.
abbrev pub LineFails : GraphParts → Role → Bool → ℕ → ToolFault → Type 0
LineFails g role raw n e = (e ≡ OutOfMemory)
    ⊎ ((e ≡ NotATerm role n) × (raw ≡ false) × IsIdOfNonTerm (role_strings g.dictionary role) n)

pub line_fails : (g : GraphParts) (role : Role) (top : Option ℕ) (raw : Bool) (ids front behind text : List ℕ) (n : ℕ)
    (e : ToolFault) → AreCountedIds g role top ids → ids ≡ front ++ n ∷ behind → AreCountLines g role raw front text
    → LineFails g role raw n e → IsCountFault g role top raw e
line_fails g role top raw ids front behind text n e counted cut lines (inl is) =
    subst (IsCountFault g role top raw) (sym is) tt
line_fails g role top raw ids front behind text n e counted cut lines (inr h) =
    subst (IsCountFault g role top raw) (sym h.0) (
      refl,
      h.1,
      (
        ids,
        counted,
        record {
          before = front;
          after = behind;
          text = text;
          position = cut;
          lines =
              subst (λ (b : Bool). AreCountLines g role b front text) h.1 lines;
          none = h.2;
        },
      ),
    )

-- ---- all IDs

pub range_split : (a n m : ℕ) → range_with_len a (n + m) ≡ range_with_len a n ++ range_with_len (a + n) m
range_split a zero m =
    let e : 0 + m ≡ m = omega arith in
    let f : a + 0 ≡ a = omega arith in
    rw (e, f) refl
range_split a (suc n) m =
    let e : suc n + m ≡ suc (n + m) = omega arith in
    let f : a + 1 + n ≡ a + suc n = omega arith in
    rw e (ap (λ l. a ∷ l) (range_split (a + 1) n m ∙ ap (λ k. range_with_len (a + 1) n ++ range_with_len k m) f))

range_more : (given : ℕ) (xs : List (List ℕ)) → range_with_len 1 (given + suc (length xs)) ≡ range_with_len 1 given
    ++ (given + 1) ∷ range_with_len (given + 2) (length xs)
range_more given xs =
    let e : 1 + given ≡ given + 1 = omega arith in
    let f : given + 1 + 1 ≡ given + 2 = omega arith in
    range_split 1 given (suc (length xs)) ∙ ap (λ k. range_with_len 1 given ++ k ∷ range_with_len (k + 1) (length xs)) e
    ∙ ap (λ k. range_with_len 1 given ++ (given + 1) ∷ range_with_len k (length xs)) f

range_last : (given : ℕ) → range_with_len 1 (given + 1) ≡ range_with_len 1 given ++ (given + 1) ∷ []
range_last given =
    let e : 1 + given ≡ given + 1 = omega arith in
    range_split 1 given 1 ∙ ap (λ k. range_with_len 1 given ++ k ∷ []) e

-- The strings that a cursor has returned, and those ahead of it.
pub record HasReturned (strings : List (List ℕ)) (w : RoleIterState) : Type 0 where
  pub done : List (List ℕ)
  pub all : strings ≡ done ++ w.ahead
  pub given : w.given ≡ length done

-- The strings that were returned have lines.
pub record AreWalked (g : GraphParts) (role : Role) (raw : Bool) (w : RoleIterState) (text : List ℕ) : Type 0 where
  pub returned : HasReturned (role_strings g.dictionary role) w
  pub lines : AreCountLines g role raw (range_with_len 1 w.given) text

-- One more string is returned.
pub record Steps (w v : RoleIterState) (n : ℕ) : Type 0 where
  pub string : List ℕ
  pub ahead : w.ahead ≡ string ∷ v.ahead
  pub number : n ≡ w.given + 1
  pub given : v.given ≡ w.given + 1
  pub last : v.last ≡ string

steps_by : (w v : RoleIterState) (ahead : List (List ℕ)) (n : ℕ) → w.ahead ≡ ahead → Some n ≡ next_id w ahead
    → v ≡ step_role_iter_by w ahead → Steps w v n
steps_by w v [] n is e step = absurd cc
steps_by w v (x ∷ xs) n is e step = record {
  string = x;
  ahead = is ∙ ap (λ l. x ∷ l) (sym (ap (λ p. p.ahead) step));
  number = cc;
  given = ap (λ p. p.given) step;
  last = ap (λ p. p.last) step;
}

pub steps : (w v : RoleIterState) (n : ℕ) → Some n ≡ next_id w w.ahead → v ≡ step_role_iter w → Steps w v n
steps w v n e step = steps_by w v w.ahead n refl e step

pub returned_on : (strings : List (List ℕ)) (w v : RoleIterState) (n : ℕ) → HasReturned strings w → Steps w v n
    → HasReturned strings v
returned_on strings w v n h s = record {
  done = h.done ++ s.string ∷ [];
  all = h.all ∙ ap (λ l. h.done ++ l) s.ahead ∙ sym (append_assoc h.done (s.string ∷ []) v.ahead);
  given = omega (arith, s.given, h.given, length-append h.done (s.string ∷ []));
}

-- The string that is returned is that of its ID.
pub string_is : (strings : List (List ℕ)) (w v : RoleIterState) (n : ℕ) (last : List ℕ) → HasReturned strings w
    → Steps w v n → last ≡ v.last → string_at_id strings n ≡ Some last
string_is strings w v n last h s is =
    let all : strings ≡ h.done ++ s.string ∷ v.ahead = h.all ∙ ap (λ l. h.done ++ l) s.ahead in
    let number : n ≡ suc (length h.done) = s.number ∙ ap (λ k. k + 1) h.given ∙ add-one (length h.done) in
    let within : length h.done < length (h.done ++ s.string ∷ v.ahead) =
    omega (arith, length-append h.done (s.string ∷ v.ahead)) in
    rw (number, all) (slice_get-get_or (h.done ++ s.string ∷ v.ahead) (length h.done) [] within
    ∙ ap Some (get_or-append_seam h.done s.string v.ahead [] ∙ sym s.last ∙ sym is))

pub walked_on : (g : GraphParts) (role : Role) (raw : Bool) (w v : RoleIterState) (n : ℕ) (text new line : List ℕ)
    → AreWalked g role raw w text → Steps w v n → IsCountLine g role raw n line → new ≡ text ++ line
    → AreWalked g role raw v new
walked_on g role raw w v n text new line h s one added = record {
  returned = returned_on (role_strings g.dictionary role) w v n h.returned s;
  lines =
      rw (
        s.given,
        range_last w.given,
        added,
      ) (lines_on (IsCountLine g role raw) (range_with_len 1 w.given) (w.given + 1) text line h.lines
      (subst (λ k. IsCountLine g role raw k line) s.number one));
}

pub walk_fails : (g : GraphParts) (role : Role) (raw : Bool) (w v : RoleIterState) (n : ℕ) (text : List ℕ)
    (e : ToolFault) → AreWalked g role raw w text → Steps w v n → LineFails g role raw n e
    → IsCountFault g role None raw e
walk_fails g role raw w v n text e h s fails =
    let back = h.returned in
    let all : role_strings g.dictionary role ≡ back.done ++ s.string ∷ v.ahead =
    back.all ∙ ap (λ l. back.done ++ l) s.ahead in
    let len : length (role_strings g.dictionary role) ≡ w.given + suc (length v.ahead) =
    ap length all ∙ omega (arith, back.given, length-append back.done (s.string ∷ v.ahead)) in
    line_fails g role None raw (role_ids g role) (range_with_len 1 w.given)
    (range_with_len (w.given + 2) (length v.ahead)) text n e refl
    (ap (range_with_len 1) len ∙ range_more w.given v.ahead
    ∙ ap (λ k. range_with_len 1 w.given ++ k ∷ range_with_len (w.given + 2) (length v.ahead)) (sym s.number))
    h.lines fails

pub none_ahead : (w : RoleIterState) (ahead : List (List ℕ)) (r : Option ℕ) → r ≡ next_id w ahead
    → ((n : ℕ) → r ≡ Some n → ⊥) → ahead ≡ []
none_ahead w [] r e not = refl
none_ahead w (x ∷ xs) r e not = absurd (not (w.given + 1) e)

-- ---- the most frequent IDs

pub fits_more : (g : GraphParts) (role : Role) (count : ℕ) → CountsFit g role count
    → use_count g role (count + 1) < 2 ^ 64 → CountsFit g role (count + 1)
fits_more g role count h one n lt = elim (cases_lt n count) [
  | inl below ↦ h n below
  | inr le ↦ let same : count + 1 ≡ 1 + n = omega (arith, lt, le) in
      subst (λ (k : ℕ). use_count g role k < 2 ^ 64) same one
]

-- Each key is that of an ID of the role.
pub key_string : (g : GraphParts) (role : Role) (keys : List (ℕ × ℕ)) → AreFrequencyKeys g role keys
    → All (λ (k : ℕ × ℕ). (string : List ℕ) × (string_at_id (role_strings g.dictionary role) k.1 ≡ Some string)) keys
key_string g role keys h =
    All-permutation (λ (k : ℕ × ℕ). (string : List ℕ)
    × (string_at_id (role_strings g.dictionary role) k.1 ≡ Some string))
    (map (frequency_key g role) (role_ids g role)) keys h.all made
  where
    strings : List (List ℕ)
    strings = role_strings g.dictionary role

    one : (i : ℕ) → i < length strings → (string : List ℕ) × (string_at_id strings (1 + i) ≡ Some string)
    one i lt = let e : 1 + i ≡ suc i = omega arith in (get_or strings i [], rw e (slice_get-get_or strings i [] lt))

    made : All (λ (k : ℕ × ℕ). (string : List ℕ)
        × (string_at_id strings k.1 ≡ Some string)) (map (frequency_key g role) (range_with_len 1 (length strings)))
    made i d lt =
        let within : i < length strings =
        omega (arith, lt, length-map-range_with_len (frequency_key g role) 1 (length strings)) in
        subst (λ (k : ℕ × ℕ). (string : List ℕ)
        × (string_at_id strings k.1 ≡ Some string))
        (sym (get_or-map-range_with_len (frequency_key g role) 1 (length strings) i (1 + i) d within refl))
        (one i within)

pub appended_is : (there : Option (List ℕ)) (appended : Bool) (old new string : List ℕ) → there ≡ Some string → old ≡ []
    → AppendsString there appended old new → there ≡ Some new
appended_is None appended old new string is empty h = absurd cc
appended_is (Some x) appended old new string is empty h = ap Some (sym (h.1 ∙ ap (λ l. l ++ x) empty))

-- Each key is that of its ID.
abbrev IsKey : GraphParts → Role → ℕ × ℕ → Type 0
IsKey g role k = (k ≡ frequency_key g role k.1) × (use_count g role k.1 < 2 ^ 64)

are_keys : (g : GraphParts) (role : Role) (keys : List (ℕ × ℕ)) → AreFrequencyKeys g role keys → All (IsKey g role) keys
are_keys g role keys h = All-permutation (IsKey g role) (map (frequency_key g role) (role_ids g role)) keys h.all made
  where
    count : ℕ
    count = length (role_strings g.dictionary role)

    made : All (IsKey g role) (map (frequency_key g role) (range_with_len 1 count))
    made i d lt =
        let within : i < count = omega (arith, lt, length-map-range_with_len (frequency_key g role) 1 count) in
        subst (IsKey g role) (sym (get_or-map-range_with_len (frequency_key g role) 1 count i (1 + i) d within refl))
        (refl, h.fit i within)

-- The order of two numbers turns around if both are taken from a third one.
turned : (m a b : ℕ) (r : Ordering) → a ≤ m → b ≤ m → MatchOrdering r (b < a) (b ≡ a) (a < b)
    → MatchOrdering r (m - a < m - b) (m - a ≡ m - b) (m - b < m - a)
turned m a b Less la lb h = omega (arith, la, lb, h)
turned m a b Equal la lb h = omega (arith, h)
turned m a b Greater la lb h = omega (arith, la, lb, h)

flipped : (m a b : ℕ) → a ≤ m → b ≤ m → nat_cmp b a ≡ nat_cmp (m - a) (m - b)
flipped m a b la lb = nat_cmp_is (m - a) (m - b) (nat_cmp b a) (turned m a b (nat_cmp b a) la lb (ranks b a))

-- So the order of keys is that of their IDs by frequency.
by_use : (g : GraphParts) (role : Role) (x y : ℕ × ℕ) → IsKey g role x → IsKey g role y → is_lt (pair_cmp y x) ≡ false
    → is_lt (use_cmp g role y.1 x.1) ≡ false
by_use g role x y is_x is_y h =
    let m = 2 ^ 64 - 1 in
    let same : nat_cmp (use_count g role x.1) (use_count g role y.1) ≡ nat_cmp y.0 x.0 =
    flipped m (use_count g role y.1) (use_count g role x.1) (omega (arith, is_y.1)) (omega (arith, is_x.1))
    ∙ ap (λ (n : ℕ). nat_cmp n (m - use_count g role x.1)) (sym (ap (λ (k : ℕ × ℕ). k.0) is_y.0))
    ∙ ap (nat_cmp y.0) (sym (ap (λ (k : ℕ × ℕ). k.0) is_x.0)) in
    ap (λ (r : Ordering). is_lt (ordering_then r (nat_cmp y.1 x.1))) same ∙ h

ids_by_use : (g : GraphParts) (role : Role) (keys : List (ℕ × ℕ)) → AreFrequencyKeys g role keys
    → IsSorted (use_cmp g role) (map (λ (k : ℕ × ℕ). k.1) keys)
ids_by_use g role keys h i d low lt =
    let id : ℕ × ℕ → ℕ = λ k. k.1 in
    let within : i + 1 < length keys = omega (arith, lt, length-map keys id) in
    let x = get_or keys i (0, d) in
    let y = get_or keys (i + 1) (0, d) in
    let x_is : get_or (map id keys) i d ≡ x.1 = get_or-map id keys i (0, d) d (omega (arith, within)) in
    let y_is : get_or (map id keys) (i + 1) d ≡ y.1 = get_or-map id keys (i + 1) (0, d) d within in
    let keyed = by_use g role x y (are_keys g role keys h i (0, d) (omega (arith, within)))
    (are_keys g role keys h (i + 1) (0, d) within) (h.sorted i (0, d) low within) in
    subst (λ (n : ℕ). is_lt (use_cmp g role n (get_or (map id keys) i d))
    ≡ false) (sym y_is) (subst (λ (n : ℕ). is_lt (use_cmp g role y.1 n) ≡ false) (sym x_is) keyed)

ids_of_keys : (g : GraphParts) (role : Role) (ids : List ℕ) → map (λ (k : ℕ × ℕ). k.1) (map (frequency_key g role) ids)
    ≡ ids
ids_of_keys g role [] = refl
ids_of_keys g role (n ∷ ids) = ap (λ l. n ∷ l) (ids_of_keys g role ids)

counted_ids : (g : GraphParts) (role : Role) (top : ℕ) (keys : List (ℕ × ℕ)) → AreFrequencyKeys g role keys
    → AreCountedIds g role (Some top) (map (λ (k : ℕ × ℕ). k.1) (take top keys))
counted_ids g role top keys h = (
  map (λ (k : ℕ × ℕ). k.1) keys,
  subst (λ (ids : List ℕ). IsPermutation ids (map (λ (k : ℕ × ℕ). k.1) keys)) (ids_of_keys g role (role_ids g role))
      (IsPermutation-map (λ (k : ℕ × ℕ). k.1) (map (frequency_key g role) (role_ids g role)) keys h.all),
  ids_by_use g role keys h,
  sym (take-map (λ (k : ℕ × ℕ). k.1) top keys),
)

-- The string of a key's ID was decoded.
pub decoded : (g : GraphParts) (role : Role) (keys : List (ℕ × ℕ)) (at : ℕ) (key d : ℕ
    × ℕ) (appended : Bool) (old new : List ℕ) → AreFrequencyKeys g role keys → at < length keys → key ≡ get_or keys at d
    → old ≡ []
    → AppendsString (string_at_id (role_strings g.dictionary role) key.1) appended old new
    → string_at_id (role_strings g.dictionary role) key.1 ≡ Some new
decoded g role keys at key d appended old new h lt is empty done =
    let there = subst (λ (k : ℕ × ℕ). (string : List ℕ)
    × (string_at_id (role_strings g.dictionary role) k.1 ≡ Some string)) (sym is)
    (key_string g role keys h at d lt) in
    appended_is (string_at_id (role_strings g.dictionary role) key.1) appended old new there.0 there.1 empty done

-- One more key has a line.
pub keys_on : (g : GraphParts) (role : Role) (raw : Bool) (keys : List (ℕ × ℕ)) (at : ℕ) (key d : ℕ
    × ℕ) (text new line : List ℕ) → at < length keys → key ≡ get_or keys at d
    → AreCountLines g role raw (map (λ (k : ℕ × ℕ). k.1) (take at keys)) text → IsCountLine g role raw key.1 line
    → new ≡ text ++ line → AreCountLines g role raw (map (λ (k : ℕ × ℕ). k.1) (take (at + 1) keys)) new
keys_on g role raw keys at key d text new line lt is lines one added =
    rw (
      take_more keys at d lt,
      map-append (λ (k : ℕ × ℕ). k.1) (take at keys) (get_or keys at d ∷ []),
      ← is,
      added,
    ) (lines_on (IsCountLine g role raw) (map (λ (k : ℕ × ℕ). k.1) (take at keys)) key.1 text line lines one)

-- A list around one of its elements.
pub around : {X : Type 0} (xs : List X) (i : ℕ) (d : X) → i < length xs
    → xs ≡ take i xs ++ get_or xs i d ∷ drop (suc i) xs
around xs i d lt = sym (take-append-drop i xs) ∙ ap (λ l. take i xs ++ l) (drop-cons xs i d lt)

pub key_fails : (g : GraphParts) (role : Role) (top : ℕ) (raw : Bool) (keys : List (ℕ × ℕ)) (at : ℕ) (key d : ℕ
    × ℕ) (text : List ℕ) (e : ToolFault) → AreFrequencyKeys g role keys → at < top → at < length keys
    → key ≡ get_or keys at d
    → AreCountLines g role raw (map (λ (k : ℕ × ℕ). k.1) (take at keys)) text → LineFails g role raw key.1 e
    → IsCountFault g role (Some top) raw e
key_fails g role top raw keys at key d text e h below lt is lines fails =
    let first = take top keys in
    let within : at < length first = omega (arith, below, lt, length-take top keys) in
    let one : get_or first at d ≡ key = get_or-take top keys at d below ∙ sym is in
    let front : take at first ≡ take at keys = take-take at top keys (omega (arith, below)) in
    let cut : map (λ (k : ℕ × ℕ). k.1) first ≡ map (λ (k : ℕ × ℕ). k.1) (take at keys) ++ key.1
    ∷ map (λ (k : ℕ × ℕ). k.1) (drop (suc at) first) =
    ap (map (λ (k : ℕ × ℕ). k.1)) (around first at d within
    ∙ ap (λ l. l ++ get_or first at d ∷ drop (suc at) first) front
    ∙ ap (λ k. take at keys ++ k ∷ drop (suc at) first) one)
    ∙ map-append (λ (k : ℕ × ℕ). k.1) (take at keys) (key ∷ drop (suc at) first) in
    line_fails g role (Some top) raw (map (λ (k : ℕ × ℕ). k.1) first) (map (λ (k : ℕ × ℕ). k.1) (take at keys))
    (map (λ (k : ℕ × ℕ). k.1) (drop (suc at) first)) text key.1 e (counted_ids g role top keys h) cut lines fails

pub keys_all : (g : GraphParts) (role : Role) (top : ℕ) (raw : Bool) (keys : List (ℕ × ℕ)) (at : ℕ) (text : List ℕ)
    → AreFrequencyKeys g role keys → at ≡ min top (length keys)
    → AreCountLines g role raw (map (λ (k : ℕ × ℕ). k.1) (take at keys)) text → PrintsCounts g role (Some top) raw text
keys_all g role top raw keys at text h is lines = record {
  ids = map (λ (k : ℕ × ℕ). k.1) (take top keys);
  counted = counted_ids g role top keys h;
  lines = subst (λ (l : List (ℕ × ℕ)). AreCountLines g role raw (map (λ (k : ℕ × ℕ). k.1) l) text)
      (same at top keys is) lines;
}
  where
    same : (at top : ℕ) (keys : List (ℕ × ℕ)) → at ≡ min top (length keys) → take at keys ≡ take top keys
    same at top keys is =
        elim (cases_lt top (length keys)) [
          | inl lt ↦ ap (λ n. take n keys) (omega (arith, is, lt))
          | inr le ↦ let all : at ≡ length keys = omega (arith, is, le) in ap (λ n. take n keys) all ∙ take-length keys
              ∙ sym (take_all top keys (omega (arith, le)))
        ]
