-- The strings of an arena: their number, the string at an index, and appending one.
use Rattle.std.proofs.Common.{◌≡◌, ℕ, ◌+◌, ◌-◌, ◌<◌, ◌≤◌, List, [], ◌∷◌, ◌++◌, map, length, get_or, set, take, drop}
use Rattle.std.proofs.Common.{refl, ap, sym, ◌∙◌, inl, inr, arith}
use Rattle.std.specs.List.{range_with_len}
use Rattle.std.proofs.lemmas.Bool.{cases_lt}
use Rattle.std.proofs.lemmas.List.{get_or_append_left, get_or_push, length_push, length-append, length-drop}
use Rattle.std.proofs.lemmas.List.{take-append-le, drop-append-le, drop_at, take_all, same_lists}
use Rattle.std.proofs.lemmas.List.FromFn.{length-map-range_with_len, get_or-map-range_with_len, map-range_with_len_more}
use Rattle.hdt_dict.specs.Arena.{arena_string, arena_strings, AreStringStarts}

pub size : (bytes starts : List ℕ) → length (arena_strings bytes starts) ≡ length starts - 1
unfolding arena_strings
size bytes starts = length-map-range_with_len (arena_string bytes starts) 0 (length starts - 1)

pub text_is : (bytes starts : List ℕ) (i : ℕ) → i + 1 < length starts
    → get_or (arena_strings bytes starts) i [] ≡ arena_string bytes starts i
unfolding arena_strings
text_is bytes starts i below =
    get_or-map-range_with_len (arena_string bytes starts) 0 (length starts - 1) i i [] (omega arith) (omega arith)

-- an arena without bytes, whose only start is 0, has no strings
pub none : arena_strings [] (0 ∷ []) ≡ []
unfolding arena_strings
none = refl

pub none_starts : AreStringStarts [] (0 ∷ [])
none_starts = record {
  some = omega arith;
  ascend = λ i below. absurd (omega arith);
  within = λ i below. let e : i ≡ 0 = omega arith in rw e (omega arith);
  last = refl;
}

-- the starts after `clear`
pub one_start : (starts : List ℕ) → 0 < length starts → set (take 1 starts) 0 0 ≡ 0 ∷ []
one_start [] some = absurd (omega arith)
one_start (s ∷ starts) some = refl

map_range : {X : Type 0} (f g : ℕ → X) (n : ℕ) → ((i : ℕ) → i < n → f i ≡ g i)
    → map f (range_with_len 0 n) ≡ map g (range_with_len 0 n)
map_range f g n same =
    let long = length-map-range_with_len f 0 n in
    same_lists _ _ (long ∙ sym (length-map-range_with_len g 0 n))
    (λ k d below. let lt : k < n = omega arith in get_or-map-range_with_len f 0 n k k d lt (omega arith) ∙ same k lt
    ∙ sym (get_or-map-range_with_len g 0 n k k d lt (omega arith)))

-- appending the bytes x, and the offset e at which they end, appends one string
module _ (bytes starts x : List ℕ) (e : ℕ) (h : AreStringStarts bytes starts) (end : e ≡ length bytes + length x) where
  front : (i : ℕ) → i < length starts → get_or (starts ++ e ∷ []) i 0 ≡ get_or starts i 0
  front i below = get_or_append_left starts (e ∷ []) 0 i below

  back : get_or (starts ++ e ∷ []) (length starts) 0 ≡ e
  back = get_or_push starts e 0 (length starts) refl

  kept : (i : ℕ) → i + 1 < length starts → arena_string (bytes ++ x) (starts ++ e ∷ []) i ≡ arena_string bytes starts i
  kept i below =
      let here : i < length starts = omega arith in
      let up : get_or starts i 0 ≤ get_or starts (i + 1) 0 = h.ascend i below in
      let in' : get_or starts (i + 1) 0 ≤ length bytes = h.within (i + 1) below in
      let from : get_or starts i 0 ≤ length bytes = omega arith in
      let long = length-drop (get_or starts i 0) bytes in
      let fits : get_or starts (i + 1) 0 - get_or starts i 0 ≤ length (drop (get_or starts i 0) bytes) = omega arith in
      rw (front i here, front (i + 1) below, drop-append-le (get_or starts i 0) bytes x from)
      (take-append-le (get_or starts (i + 1) 0 - get_or starts i 0) (drop (get_or starts i 0) bytes) x fits)

  new : (n : ℕ) → n + 1 ≡ length starts → arena_string (bytes ++ x) (starts ++ e ∷ []) n ≡ x
  new n long =
      let here : n < length starts = omega arith in
      let same : n ≡ length starts - 1 = omega arith in
      let from : get_or starts n 0 ≡ length bytes = ap (λ j. get_or starts j 0) same ∙ h.last in
      let all : length x ≤ e - length bytes = omega arith in
      rw (front n here, from, long, back, drop_at bytes x (length bytes) refl) (take_all (e - length bytes) x all)

  pub texts_push : arena_strings (bytes ++ x) (starts ++ e ∷ []) ≡ arena_strings bytes starts ++ x ∷ []
  unfolding arena_strings
  texts_push =
      let some = h.some in
      let n = length starts - 1 in
      let long : n + 1 ≡ length starts = omega arith in
      let more : length (starts ++ e ∷ []) - 1 ≡ n + 1 = omega (arith, length_push starts e) in
      ap (λ k. map (arena_string (bytes ++ x) (starts ++ e ∷ [])) (range_with_len 0 k)) more
      ∙ map-range_with_len_more (arena_string (bytes ++ x) (starts ++ e ∷ [])) 0 n n (omega arith)
      ∙ ap (λ l. l ++ arena_string (bytes ++ x) (starts ++ e ∷ []) n
      ∷ []) (map_range (arena_string (bytes ++ x) (starts ++ e ∷ [])) (arena_string bytes starts) n
      (λ i below. kept i (omega arith)))
      ∙ ap (λ t. map (arena_string bytes starts) (range_with_len 0 n) ++ t ∷ []) (new n long)

  pub starts_push : AreStringStarts (bytes ++ x) (starts ++ e ∷ [])
  starts_push =
      let some = h.some in
      let longer = length_push starts e in
      let wide = length-append bytes x in
      record {
        some = omega arith;
        ascend = λ i below.
            elim (cases_lt (i + 1) (length starts)) as (λ _. get_or (starts ++ e ∷ []) i 0
            ≤ get_or (starts ++ e ∷ []) (i + 1) 0) [
              | inl before ↦ rw (front i (omega arith), front (i + 1) before) (h.ascend i before)
              | inr behind ↦
                  let at : i + 1 ≡ length starts = omega arith in
                  let in' = h.within i (omega arith) in
                  rw (front i (omega arith), at, back) (omega arith)
            ];
        within = λ i below.
            elim (cases_lt i (length starts)) as (λ _. get_or (starts ++ e ∷ []) i 0 ≤ length (bytes ++ x)) [
              | inl before ↦ let in' = h.within i before in rw (front i before) (omega arith)
              | inr behind ↦ let at : i ≡ length starts = omega arith in rw (at, back) (omega arith)
            ];
        last = let at : length (starts ++ e ∷ []) - 1 ≡ length starts = omega arith in rw (at, back) (omega arith);
      }
