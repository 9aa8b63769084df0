-- Soundness: if the checks hold, the bytes are a front coding of the decoded strings.
use Rattle.std.proofs.Common.{◌≡◌, ℕ, zero, suc, ◌+◌, ◌-◌, ◌^◌, ◌<◌, ◌≤◌, ◌++◌, ◌||◌, Bool, true, false, not, cond}
use Rattle.std.proofs.Common.{List, [], ◌∷◌, length, take, drop, get_or, Ok, refl, sym, ap, ◌∙◌, arith, subst, nat_eq}
use Rattle.std.proofs.Common.{eqb, eqb-true, ltb, ltb-true, length-append, length-take-le, append_assoc}
use Rattle.std.proofs.lemmas.List.{take_more, take-append-drop, take_at, drop_at, nil_from_length}
use Rattle.std.proofs.lemmas.List.Sums.{prefix_len_stops}
use Rattle.std.proofs.lemmas.Bool.Decides.{nat_tests}
use Rattle.hdt_wire.specs.declared.fault.Reason.TheVariants.{NumberTooLarge, OverlongNumber, PackedLength, BlockPlace}
use Rattle.hdt_wire.specs.Checks.{demand, len_before_zero}
use Rattle.hdt_wire.specs.VByte.{vbyte_at, window, last_digit_index, base128_value}
use Rattle.hdt_wire.specs.Checks.{IsBytes}
use Rattle.hdt_wire.specs.Laws.Checks.{IsBytes-drop}
use Rattle.hdt_wire.specs.Laws.VByte.{vbyte_found}
use Rattle.hdt_wire.specs.Laws.Checks.{demand_ok}
use Rattle.hdt_front.specs.Decoding.{is_block_start, stored_prefix_len, bytes_from_suffix, suffix_of, decoded_string}
use Rattle.hdt_front.specs.Decoding.{after_entry, value_or}
use Rattle.hdt_front.specs.Decoding.{decoded_strings}
use Rattle.hdt_front.specs.StringChecks.{BlockLayout, rest_offset, strings_check}
use Rattle.hdt_front.specs.FrontCoding.{IsEntry}
use Rattle.hdt_front.specs.Laws.FrontCodingSteps.{AreEntries, AreBlockStarts, IsFrontCodedFrom, NoZero, Ascending}
use Rattle.hdt_front.specs.Laws.StringSteps.{step}
use Rattle.hdt_front.specs.Laws.CheckedEntries.{ok_is}

pub take_no_zero : (k : ℕ) (xs : List ℕ) → NoZero xs → NoZero (take k xs)
unfolding NoZero
take_no_zero zero xs h = tt
take_no_zero (suc k) [] h = tt
take_no_zero (suc k) (c ∷ xs) h = (h.0, take_no_zero k xs h.1)

append_no_zero : (xs ys : List ℕ) → NoZero xs → NoZero ys → NoZero (xs ++ ys)
unfolding NoZero
append_no_zero [] ys h k = k
append_no_zero (c ∷ xs) ys h k = (h.0, append_no_zero xs ys h.1 k)

text_by_test : (c : ℕ) (xs : List ℕ) (b : Bool) → nat_eq c 0 ≡ b → NoZero (take (len_before_zero xs) xs)
    → NoZero (take (cond (not b) (1 + len_before_zero xs) 0) (c ∷ xs))
unfolding NoZero
text_by_test c xs true e h = tt
text_by_test c xs false e h =
    let one : suc (len_before_zero xs) ≡ 1 + len_before_zero xs = omega arith in
    let made : NoZero (take (suc (len_before_zero xs)) (c ∷ xs)) = (e, h) in
    subst (λ (k : ℕ). NoZero (take k (c ∷ xs))) one made

pub text_no_zero : (xs : List ℕ) → NoZero (take (len_before_zero xs) xs)
unfolding NoZero
text_no_zero [] = tt
text_no_zero (c ∷ xs) = text_by_test c xs (nat_eq c 0) refl (text_no_zero xs)

not-false : (b : Bool) → not b ≡ false → b ≡ true
not-false true e = refl
not-false false e = sym e

pub split_zero : (t : List ℕ) → len_before_zero t < length t
    → t ≡ (take (len_before_zero t) t ++ 0 ∷ []) ++ drop (len_before_zero t + 1) t
split_zero t h =
    let zero_is : get_or t (len_before_zero t) 0 ≡ 0 =
    eqb-true _ _ (not-false _ (prefix_len_stops (λ n. not (nat_eq n 0)) t 0 h)) in
    sym (take-append-drop (len_before_zero t + 1) t)
    ∙ ap (λ (l : List ℕ). l ++ drop (len_before_zero t + 1) t) (take_more t (len_before_zero t) 0 h
    ∙ ap (λ (c : ℕ). take (len_before_zero t) t ++ c ∷ []) zero_is)

small : (rest : List ℕ) (x : ℕ × ℕ) → vbyte_at rest 0 ≡ Ok x → x.0 < 2 ^ 64
unfolding vbyte_at
small rest x e =
    let seen : List ℕ = window rest 0 in
    let last : ℕ = last_digit_index seen in
    let value : ℕ = base128_value (take (last + 1) seen) in
    demand_ok (ltb last (length seen)) 0 _ _ _ e (λ h1 e.
    demand_ok (ltb value (2 ^ 64)) 0 NumberTooLarge _ _ e (λ h2 e.
    demand_ok (eqb last 0 || not (eqb (get_or seen last 0) 128)) 0 OverlongNumber _ _ e (λ h3 e.
    let is : value ≡ x.0 = ap (λ (y : ℕ × ℕ). y.0) (ok_is _ _ e) in
    omega (arith, is, ltb-true _ _ h2))))

pub record Piece (h : Bool) (before rest : List ℕ) : Type 0 where
  pub entry : List ℕ
  pub joined : rest ≡ entry ++ after_entry h rest
  pub is : IsEntry h before (decoded_string h before rest) entry

piece_found : (h : Bool) (before rest : List ℕ) → IsBytes rest
    → (h ≡ false → vbyte_at rest 0 ≡ Ok (value_or (0, 0) (vbyte_at rest 0))) → stored_prefix_len h rest ≤ length before
    → len_before_zero (bytes_from_suffix h rest) < length (bytes_from_suffix h rest) → Piece h before rest
unfolding stored_prefix_len bytes_from_suffix suffix_of decoded_string after_entry
piece_found true before rest bytes number fits ends = record {
  entry = take (len_before_zero rest) rest ++ 0 ∷ [];
  joined = split_zero rest ends;
  is = refl;
}
piece_found false before rest bytes number fits ends =
    let x : ℕ × ℕ = value_or (0, 0) (vbyte_at rest 0) in
    let s = vbyte_found rest 0 (value_or (0, 0) (vbyte_at rest 0)) bytes (number refl) in
    let text : List ℕ = suffix_of false rest in
    let size : length (take (stored_prefix_len false rest) before) ≡ stored_prefix_len false rest =
    length-take-le (stored_prefix_len false rest) before fits in
    record {
      entry = take (x.1 - 0) rest ++ (text ++ 0 ∷ []);
      joined = sym (take-append-drop x.1 rest)
          ∙ ap (λ (l : List ℕ). take x.1 rest ++ l) (split_zero (drop x.1 rest) ends)
          ∙ sym (append_assoc (take x.1 rest) (text ++ 0
          ∷ []) (drop (len_before_zero (drop x.1 rest) + 1) (drop x.1 rest)))
          ∙ ap (λ (k : ℕ). (take k rest ++ (text ++ 0 ∷ [])) ++ after_entry false rest) (let e : x.1 ≡ x.1 - 0 =
          omega arith in e);
      is = record {
        prefix_len = x.0;
        front = take (x.1 - 0) rest;
        spelled = s.spelled;
        small = small rest (value_or (0, 0) (vbyte_at rest 0)) (number refl);
        fits = fits;
        agree = sym (take_at (take x.0 before) text x.0 size);
        is = ap (λ (l : List ℕ). take (x.1 - 0) rest ++ (l ++ 0 ∷ [])) (sym (drop_at (take x.0 before) text x.0 size));
      };
    }

or_right : (a b : Bool) → (a || b) ≡ true → (a ≡ false → b ≡ true)
or_right true b h = λ e. absurd (cc)
or_right false b h = λ e. h

pub string_no_zero : (h : Bool) (before rest : List ℕ) → NoZero before → NoZero (decoded_string h before rest)
unfolding decoded_string suffix_of
string_no_zero h before rest none =
    append_no_zero (take (stored_prefix_len h rest) before) _ (take_no_zero (stored_prefix_len h rest) before none)
    (text_no_zero (bytes_from_suffix h rest))

after_bytes : (h : Bool) (rest : List ℕ) → IsBytes rest → IsBytes (after_entry h rest)
unfolding after_entry bytes_from_suffix
after_bytes true rest b = IsBytes-drop (len_before_zero rest + 1) rest b
after_bytes false rest b =
    IsBytes-drop (len_before_zero (drop (value_or (0, 0) (vbyte_at rest 0)).1 rest) + 1) _
    (IsBytes-drop (value_or (0, 0) (vbyte_at rest 0)).1 rest b)

pub found_from : (p : BlockLayout) (n i at : ℕ) (before rest : List ℕ) → p.size ≡ at + length rest → NoZero before
    → IsBytes rest → strings_check p n i before rest ≡ Ok tt
    → IsFrontCodedFrom p.block_size i at before (decoded_strings p.block_size n i before rest) rest p.block_offsets
    × Ascending i before (decoded_strings p.block_size n i before rest)
unfolding strings_check decoded_strings AreEntries AreBlockStarts Ascending
found_from p zero i at before rest size none bytes e =
    demand_ok (eqb (length rest) 0) (rest_offset p rest) PackedLength _ _ e (λ h1 e.
    let nil : rest ≡ [] = nil_from_length rest (eqb-true _ _ h1) in (
      record {
        entries = [];
        each = tt;
        joined = nil;
        places = λ some. eqb-true _ _ (or_right (eqb i 0) _ (last _ _ _ e) (not_zero i some)) ∙ size
            ∙ (omega (arith, ap length nil));
      },
      tt,
    ))
  where
    last : (b : Bool) (place : ℕ) (r : Unit {0}) → demand b place BlockPlace ≡ Ok r → b ≡ true
    last true place r e = refl
    last false place r e = absurd (cc)

    not_zero : (i : ℕ) → 0 < i → eqb i 0 ≡ false
    not_zero i h = grind (arith, nat_tests)
found_from p (suc n) i at before rest size none bytes e =
    let s = step p n i before rest e in
    let h : Bool = is_block_start p.block_size i in
    let string : List ℕ = decoded_string (is_block_start p.block_size i) before rest in
    let after : List ℕ = after_entry (is_block_start p.block_size i) rest in
    let f = piece_found (is_block_start p.block_size i) before rest bytes s.0.number s.0.fits s.0.ends in
    let long : length rest ≡ length f.entry + length after = ap length f.joined ∙ length-append f.entry after in
    let clean = string_no_zero (is_block_start p.block_size i) before rest none in
    let r = found_from p n (i + 1) (at + length f.entry) string after (omega (arith, size, long)) clean
    (after_bytes (is_block_start p.block_size i) rest bytes) s.1 in (
      record {
        entries = f.entry ∷ r.0.entries;
        each = (f.is, r.0.each);
        joined = f.joined ∙ ap (λ (l : List ℕ). f.entry ++ l) r.0.joined;
        places = (λ head. s.0.start head ∙ (omega (arith, size)), r.0.places);
      },
      (s.0.utf8, clean, s.0.ascends, r.1),
    )
