-- Laws of checks: what they return is in the input, and what is in the input passes them.
use Rattle.std.proofs.Common.{◌≡◌, ◌≢◌, ℕ, ◌+◌, ◌-◌, ◌<◌, ◌≤◌, Bool, true, false, List, [], ◌∷◌, ◌++◌, length, get_or}
use Rattle.std.proofs.Common.{take, drop, leb, ltb, eqb, Result, Ok, Err, refl, sym, ap, subst, ◌∙◌, arith, inl, inr}
use Rattle.std.proofs.Common.{append_assoc, length-append, take-add}
use Rattle.std.specs.Prelude.{slice_range, not, All}
use Rattle.std.proofs.Math.Seq.{take-append_seam, drop-append_seam, get_or-append_seam, get_or-append_right}
use Rattle.std.proofs.lemmas.Bool.{cases_lt, leb-true, le-leb, ltb-true, lt-ltb, eqb-true, eqb-false}
use Rattle.std.proofs.lemmas.List.Sums.{prefix_len_passes, prefix_len_stops, position_or_len_is}
use Rattle.std.proofs.lemmas.List.{take_more, take-take, drop-take, get_or-take, get_or-drop, get_or_past}
use Rattle.std.proofs.lemmas.List.{get_or_default, get_or_append_left, length-take, length-drop, drop-drop}
use Rattle.hdt_wire.specs.declared.fault.Fault.{Fault}
use Rattle.hdt_wire.specs.declared.fault.Reason.{Reason}
use Rattle.hdt_wire.specs.declared.fault.Reason.TheVariants.{Truncated}
use Rattle.hdt_wire.specs.Checks.{◌>>=◌, demand, bytes_at, len_before_zero, text_at, IsBytes, HasSlice}

-- ---- sequences of checks

-- if a check and the rest succeed, the condition holds and the rest succeeds
pub demand_ok : {B P : Type 0} (holds : Bool) (place : ℕ) (reason : Reason) (f : Unit {0} → Result B Fault) (y : B)
    → (demand holds place reason >>= f) ≡ Ok y → (holds ≡ true → f tt ≡ Ok y → P) → P
demand_ok true place reason f y e k = k refl e
demand_ok false place reason f y e k = absurd cc

-- if a part and the rest succeed, the part returns a value with which the rest succeeds
pub bind_ok : {A B P : Type 0} (r : Result A Fault) (f : A → Result B Fault) (y : B) → (r >>= f) ≡ Ok y
    → ((x : A) → r ≡ Ok x → f x ≡ Ok y → P) → P
bind_ok (Ok x) f y e k = k x refl e
bind_ok (Err d) f y e k = absurd cc

-- ---- Booleans

pub not-false : (b : Bool) → not b ≡ false → b ≡ true
not-false true e = refl
not-false false e = sym e

pub not-true : (b : Bool) → not b ≡ true → b ≡ false
not-true true e = sym e
not-true false e = refl

-- ---- bytes

pub IsBytes-drop : (n : ℕ) (bytes : List ℕ) → IsBytes bytes → IsBytes (drop n bytes)
IsBytes-drop n bytes h i = rw get_or-drop (h (n + i))

pub IsBytes-take : (n : ℕ) (bytes : List ℕ) → IsBytes bytes → IsBytes (take n bytes)
IsBytes-take n bytes h i =
    elim (cases_lt i n) [
      | inl lt ↦ rw (get_or-take n bytes i 0 lt) (h i)
      | inr le ↦ rw (get_or_past (take n bytes) i 0 (omega (arith, length-take n bytes))) (omega arith)
    ]

pub IsBytes-front : (x y : List ℕ) → IsBytes (x ++ y) → IsBytes x
IsBytes-front x y h i =
    elim (cases_lt i (length x)) [
      | inl lt ↦ rw (← get_or_append_left x y 0 i lt) (h i)
      | inr le ↦ rw (get_or_past x i 0 le) (omega arith)
    ]

pub IsBytes-append : (x y : List ℕ) → IsBytes x → IsBytes y → IsBytes (x ++ y)
IsBytes-append x y hx hy i =
    elim (cases_lt i (length x)) [
      | inl lt ↦ rw (get_or_append_left x y 0 i lt) (hx i)
      | inr le ↦ rw (get_or-append_right x y i 0 le) (hy (i - length x))
    ]

-- ---- encodings at an offset

-- a text is at the offset after the bytes before it
pub HasSlice-after : (before text after : List ℕ)
    → HasSlice (before ++ text ++ after) (length before) text (length before + length text)
HasSlice-after before text after =
    let size : length before + length text - length before ≡ length text = omega arith in
    let rest : drop (length before) (before ++ text ++ after) ≡ text ++ after =
    ap (drop (length before)) (append_assoc before text after) ∙ drop-append_seam before (text ++ after) in
    record {
      end_is = refl;
      within = omega (arith, length-append (before ++ text) after, length-append before text);
      here = rw (size, rest) (take-append_seam text after);
    }

-- two consecutive texts are one
pub HasSlice-then : (bytes : List ℕ) (a : ℕ) (x : List ℕ) (b : ℕ) (y : List ℕ) (c : ℕ) → HasSlice bytes a x b
    → HasSlice bytes b y c → HasSlice bytes a (x ++ y) c
HasSlice-then bytes a x b y c p q = record {
  end_is = omega (arith, p.end_is, q.end_is, length-append x y);
  within = q.within;
  here =
      let n : c - a ≡ (b - a) + (c - b) = omega (arith, p.end_is, q.end_is) in
      let m : a + (b - a) ≡ b = omega (arith, p.end_is) in
      let split : slice_range bytes a c ≡ slice_range bytes a b ++ take (c - b) (drop (b - a) (drop a bytes)) =
      rw n (take-add (b - a) (c - b) (drop a bytes)) in
      let next : take (c - b) (drop (b - a) (drop a bytes)) ≡ slice_range bytes b c =
      ap (take (c - b)) (drop-drop (b - a) a bytes ∙ ap (λ (i : ℕ). drop i bytes) m) in
      split ∙ ap (λ (t : List ℕ). slice_range bytes a b ++ t) next
      ∙ ap (λ (t : List ℕ). t ++ slice_range bytes b c) p.here ∙ ap (λ (t : List ℕ). x ++ t) q.here;
}

-- the first of two texts
pub HasSlice-front : (bytes : List ℕ) (a : ℕ) (x y : List ℕ) (c : ℕ) → HasSlice bytes a (x ++ y) c
    → HasSlice bytes a x (a + length x)
HasSlice-front bytes a x y c h =
    let size : c - a ≡ length x + length y = omega (arith, h.end_is, length-append x y) in
    let short : length x ≤ c - a = omega (arith, size) in
    let sub : a + length x - a ≡ length x = omega arith in
    record {
      end_is = refl;
      within = omega (arith, h.within, h.end_is, length-append x y);
      here = rw sub (sym (take-take (length x) (c - a) (drop a bytes) short) ∙ ap (take (length x)) h.here
          ∙ take-append_seam x y);
    }

-- the second of two texts
pub HasSlice-back : (bytes : List ℕ) (a : ℕ) (x y : List ℕ) (c : ℕ) → HasSlice bytes a (x ++ y) c
    → HasSlice bytes (a + length x) y c
HasSlice-back bytes a x y c h =
    let size : c - a ≡ length x + length y = omega (arith, h.end_is, length-append x y) in
    let left : c - (a + length x) ≡ length y = omega (arith, h.end_is, length-append x y) in
    let moved : take (length y) (drop (a + length x) bytes)
    ≡ drop (length x) (take (length x + length y) (drop a bytes)) =
    ap (take (length y)) (sym (drop-drop (length x) a bytes)) ∙ sym (drop-take (length x) (length y) (drop a bytes)) in
    record {
      end_is = omega (arith, h.end_is, length-append x y);
      within = h.within;
      here = rw left (moved ∙ ap (λ (n : ℕ). drop (length x) (take n (drop a bytes))) (sym size)
          ∙ ap (drop (length x)) h.here ∙ drop-append_seam x y);
    }

-- ---- bytes and texts

abbrev done : List ℕ × ℕ → Result (List ℕ × ℕ) Fault
done x = Ok x

ok_part : (x y : List ℕ × ℕ) → done x ≡ done y → x ≡ y
ok_part x y e = cc

-- the bytes that are returned are there
pub bytes_found : (n : ℕ) (bytes : List ℕ) (a : ℕ) (x : List ℕ × ℕ) → bytes_at n bytes a ≡ Ok x
    → HasSlice bytes a x.0 x.1 × (length x.0 ≡ n)
unfolding bytes_at
bytes_found n bytes a x e =
    demand_ok (leb (a + n) (length bytes)) a Truncated _ x e (λ h e.
    let le = leb-true _ _ h in
    let size : length (slice_range bytes a (a + n)) ≡ n =
    omega (arith, length-take (a + n - a) (drop a bytes), length-drop a bytes, le) in
    let made : HasSlice bytes a (slice_range bytes a (a + n)) (a + n) × (length (slice_range bytes a (a + n)) ≡ n) =
    (record { end_is = omega (arith, size); within = le; here = refl }, size) in
    subst (λ (y : List ℕ × ℕ). HasSlice bytes a y.0 y.1 × (length y.0 ≡ n)) (ok_part _ _ e) made)

-- the bytes that are there are returned
pub bytes_only : (n : ℕ) (bytes : List ℕ) (a : ℕ) (x : List ℕ) (end : ℕ) → HasSlice bytes a x end → length x ≡ n
    → bytes_at n bytes a ≡ Ok (x, end)
unfolding bytes_at
bytes_only n bytes a x end h size =
    let end_is : a + n ≡ end = omega (arith, h.end_is, size) in
    rw (end_is, le-leb end (length bytes) h.within, h.here) refl

-- the text that is returned is there, with a zero byte after it and none in it
pub text_found : (bytes : List ℕ) (a : ℕ) (x : List ℕ × ℕ) → text_at bytes a ≡ Ok x
    → HasSlice bytes a (x.0 ++ 0 ∷ []) x.1 × All (λ b. b ≢ 0) x.0
unfolding text_at
text_found bytes a x e =
    let rest : List ℕ = drop a bytes in
    let len : ℕ = len_before_zero rest in
    demand_ok (ltb len (length rest)) a Truncated _ x e (λ h e.
    let lt = ltb-true _ _ h in
    let p : ℕ → Bool = λ n. not (eqb n 0) in
    let zero_is : get_or rest len 0 ≡ 0 = eqb-true _ _ (not-false _ (prefix_len_stops p rest 0 lt)) in
    let sub : a + len + 1 - a ≡ len + 1 = omega arith in
    let here : slice_range bytes a (a + len + 1) ≡ take len rest ++ 0 ∷ [] =
    rw sub (take_more rest len 0 lt ∙ ap (λ (b : ℕ). take len rest ++ b ∷ []) zero_is) in
    let none : All (λ b. b ≢ 0) (take len rest) = λ (k : ℕ) (d : ℕ) (below : k < length (take len rest)).
    let inside : k < len = omega (arith, length-take len rest, below) in
    let inside' : k < length rest = omega (arith, inside, lt) in
    let same : get_or (take len rest) k d ≡ get_or rest k 0 = get_or-take len rest k d inside
    ∙ get_or_default rest k d 0 inside' in
    rw same (eqb-false _ _ (not-true _ (prefix_len_passes p rest k 0 inside))) in
    let made : HasSlice bytes a (take len rest ++ 0 ∷ []) (a + len + 1) × All (λ b. b ≢ 0) (take len rest) = (
      record {
        end_is = omega (arith, length-append (take len rest) (0 ∷ []), length-take len rest, lt);
        within =
            omega (arith, lt, length-drop a bytes);
        here = here;
      },
      none,
    ) in
    subst (λ (y : List ℕ × ℕ). HasSlice bytes a (y.0 ++ 0 ∷ []) y.1 × All (λ b. b ≢ 0) y.0) (ok_part _ _ e) made)

nonzero : (b : ℕ) → b ≢ 0 → eqb b 0 ≡ false
nonzero b ne = grind (arith, ne)

-- a text without a zero byte, followed by one, is returned
pub text_only : (bytes : List ℕ) (a : ℕ) (x : List ℕ) (end : ℕ) → HasSlice bytes a (x ++ 0 ∷ []) end
    → All (λ b. b ≢ 0) x → text_at bytes a ≡ Ok (x, end)
unfolding text_at
text_only bytes a x end h none =
    let rest : List ℕ = drop a bytes in
    let n : ℕ = length x in
    let size : end - a ≡ n + 1 = omega (arith, h.end_is, length-append x (0 ∷ [])) in
    let lt : n < length rest = omega (arith, h.end_is, h.within, length-append x (0 ∷ []), length-drop a bytes) in
    let whole : take (n + 1) rest ≡ x ++ 0 ∷ [] = ap (λ (k : ℕ). take k rest) (sym size) ∙ h.here in
    let reads = λ (k : ℕ) (le : k < n + 1). sym (get_or-take (n + 1) rest k 0 le)
    ∙ ap (λ (xs : List ℕ). get_or xs k 0) whole in
    let low = λ (k : ℕ) (le : k < n). reads k (omega arith) ∙ get_or_append_left x (0 ∷ []) 0 k le in
    let ends : get_or rest n 0 ≡ 0 = reads n (omega arith) ∙ get_or-append_seam x 0 [] 0 in
    let len_is : len_before_zero rest ≡ n =
    position_or_len_is (λ b. eqb b 0) rest n 0 (omega (arith, lt))
    (λ j le. rw (low j le) (nonzero (get_or x j 0) (none j 0 le))) (λ _. rw ends refl) in
    let front : take n rest ≡ x = sym (take-take n (n + 1) rest (omega arith)) ∙ ap (take n) whole
    ∙ take-append_seam x (0 ∷ []) in
    let place : a + n + 1 ≡ end = omega (arith, h.end_is, length-append x (0 ∷ [])) in
    rw (len_is, lt-ltb n (length rest) lt, front, place) refl
