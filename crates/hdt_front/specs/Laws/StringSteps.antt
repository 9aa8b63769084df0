-- What the checks of all strings establish about the string of each index.
use Rattle.std.proofs.Common.{◌≡◌, ℕ, zero, suc, ◌+◌, ◌-◌, ◌<◌, ◌≤◌, Bool, true, false, cond, List, [], ◌∷◌, length}
use Rattle.std.proofs.Common.{drop, get_or, Ok, refl, sym, ap, ◌∙◌, arith, length-drop, add-one, add-zero, zero-add}
use Rattle.std.proofs.lemmas.List.{drop-drop}
use Rattle.hdt_wire.specs.Checks.{len_before_zero}
use Rattle.hdt_wire.specs.VByte.{vbyte_at}
use Rattle.hdt_wire.specs.Laws.Checks.{bind_ok}
use Rattle.hdt_front.specs.Decoding.{is_block_start, bytes_from_suffix, decoded_string, after_entry, value_or}
use Rattle.hdt_front.specs.Decoding.{decoded_strings}
use Rattle.hdt_front.specs.StringChecks.{BlockLayout, string_check, strings_check}
use Rattle.hdt_front.specs.EntryFacts.{IsCheckedEntry, bytes_from_entry, string_before_entry}
use Rattle.hdt_front.specs.Laws.CheckedEntries.{entry_is_checked}

pub step : (p : BlockLayout) (m i : ℕ) (before rest : List ℕ) → strings_check p (suc m) i before rest ≡ Ok tt
    → IsCheckedEntry p i before rest
    × (strings_check p m (i + 1) (decoded_string (is_block_start p.block_size i) before rest)
    (after_entry (is_block_start p.block_size i) rest) ≡ Ok tt)
unfolding strings_check
step p m i before rest e =
    bind_ok (string_check p i before rest) _ _ e (λ y ey more.
    let h = entry_is_checked p i before rest y ey in
    (h.0, sym (ap (λ (z : List ℕ × List ℕ). strings_check p m (i + 1) z.0 z.1) h.1) ∙ more))

-- The checks from string i on hold.
pub checks_from_entry : (p : BlockLayout) (n i : ℕ) (bytes : List ℕ) → i ≤ n → strings_check p n 0 [] bytes ≡ Ok tt
    → strings_check p (n - i) i (string_before_entry p.block_size i bytes) (bytes_from_entry p.block_size i bytes)
    ≡ Ok tt
unfolding string_before_entry bytes_from_entry
checks_from_entry p n zero bytes h e = let same : n - 0 ≡ n = omega arith in ap (λ k. strings_check p k 0 [] bytes) same
    ∙ e
checks_from_entry p n (suc i) bytes h e =
    let k : n - i ≡ suc (n - suc i) = omega (arith, h) in
    let so_far = checks_from_entry p n i bytes (omega (arith, h)) e in
    let s = step p (n - suc i) i (string_before_entry p.block_size i bytes) (bytes_from_entry p.block_size i bytes)
    (sym (ap (λ m. strings_check p m i (string_before_entry p.block_size i bytes)
    (bytes_from_entry p.block_size i bytes)) k) ∙ so_far) in
    ap (λ m. strings_check p (n - suc i) m
    (decoded_string (is_block_start p.block_size i) (string_before_entry p.block_size i bytes)
    (bytes_from_entry p.block_size i bytes))
    (after_entry (is_block_start p.block_size i) (bytes_from_entry p.block_size i bytes))) (sym (add-one i)) ∙ s.1

pub entry_check_at : (p : BlockLayout) (n i : ℕ) (bytes : List ℕ) → i < n → strings_check p n 0 [] bytes ≡ Ok tt
    → IsCheckedEntry p i (string_before_entry p.block_size i bytes) (bytes_from_entry p.block_size i bytes)
entry_check_at p n i bytes h e =
    let k : n - i ≡ suc (n - suc i) = omega (arith, h) in
    (step p (n - suc i) i (string_before_entry p.block_size i bytes) (bytes_from_entry p.block_size i bytes)
    (sym (ap (λ m. strings_check p m i (string_before_entry p.block_size i bytes)
    (bytes_from_entry p.block_size i bytes)) k) ∙ checks_from_entry p n i bytes (omega (arith, h)) e)).0

-- The strings by index.
strings_from : (b n i j : ℕ) (bytes : List ℕ) → j < n
    → get_or (decoded_strings b n i (string_before_entry b i bytes) (bytes_from_entry b i bytes)) j []
    ≡ string_before_entry b (suc (i + j)) bytes
unfolding decoded_strings string_before_entry bytes_from_entry
strings_from b zero i j bytes h = absurd (omega (arith, h))
strings_from b (suc n) i zero bytes h = ap (λ k. string_before_entry b (suc k) bytes) (sym (add-zero i))
strings_from b (suc n) i (suc j) bytes h =
    let next : suc i ≡ i + 1 = omega arith in
    let k : suc i + j ≡ i + suc j = omega arith in
    ap (λ m. get_or (decoded_strings b n m (string_before_entry b (suc i) bytes) (bytes_from_entry b (suc i) bytes)) j
    []) (sym next)
    ∙ strings_from b n (suc i) j bytes (omega (arith, h)) ∙ ap (λ m. string_before_entry b (suc m) bytes) k

pub string_is : (b n i : ℕ) (bytes : List ℕ) → i < n
    → get_or (decoded_strings b n 0 [] bytes) i [] ≡ string_before_entry b (suc i) bytes
unfolding string_before_entry bytes_from_entry
string_is b n i bytes h = strings_from b n 0 i bytes h ∙ ap (λ k. string_before_entry b (suc k) bytes) (zero-add i)

-- The unread bytes are a suffix of all bytes.
behind : (b i : ℕ) (bytes : List ℕ) → (m : ℕ) × (bytes_from_entry b i bytes ≡ drop m bytes)
unfolding bytes_from_entry after_entry bytes_from_suffix
behind b zero bytes = (0, refl)
behind b (suc i) bytes =
    let r = behind b i bytes in
    let d : ℕ = cond (is_block_start b i) 0 (value_or (0, 0) (vbyte_at (bytes_from_entry b i bytes) 0)).1 in
    let z : ℕ = len_before_zero (bytes_from_suffix (is_block_start b i) (bytes_from_entry b i bytes)) + 1 in (
      r.0 + d + z,
      ap (drop z) (opened (is_block_start b i) (value_or (0, 0) (vbyte_at (bytes_from_entry b i bytes) 0)).1
          (bytes_from_entry b i bytes)) ∙ drop-drop z d (bytes_from_entry b i bytes)
          ∙ ap (drop (d + z)) r.1 ∙ drop-drop (d + z) r.0 bytes
          ∙ ap (λ k. drop k bytes) (let e : r.0 + (d + z) ≡ r.0 + d + z = omega arith in e),
    )
  where
    opened : (h : Bool) (e : ℕ) (rest : List ℕ) → cond h rest (drop e rest) ≡ drop (cond h 0 e) rest
    opened true e rest = refl
    opened false e rest = refl

drop_past : (m : ℕ) (xs : List ℕ) → drop (length xs - length (drop m xs)) xs ≡ drop m xs
drop_past zero xs = ap (λ k. drop k xs) (let e : length xs - length xs ≡ 0 = omega arith in e)
drop_past (suc m) [] = refl
drop_past (suc m) (x ∷ xs) =
    let e : suc (length xs) - length (drop m xs) ≡ suc (length xs - length (drop m xs)) =
    omega (arith, length-drop m xs) in
    ap (λ k. drop k (x ∷ xs)) e ∙ drop_past m xs

pub rest_is : (b i : ℕ) (bytes : List ℕ)
    → (bytes_from_entry b i bytes ≡ drop (length bytes - length (bytes_from_entry b i bytes)) bytes)
rest_is b i bytes =
    let r = behind b i bytes in
    r.1 ∙ sym (drop_past r.0 bytes) ∙ ap (λ l. drop (length bytes - length l) bytes) (sym r.1)

pub length-decoded_strings : (b n i : ℕ) (before bytes : List ℕ) → length (decoded_strings b n i before bytes) ≡ n
unfolding decoded_strings
length-decoded_strings b zero i before bytes = refl
length-decoded_strings b (suc n) i before bytes =
    ap suc (length-decoded_strings b n (i + 1) (decoded_string (is_block_start b i) before bytes)
    (after_entry (is_block_start b i) bytes))

pub shorter : (h : Bool) (rest : List ℕ)
    → len_before_zero (bytes_from_suffix h rest) < length (bytes_from_suffix h rest)
    → length (after_entry h rest) + 1 ≤ length rest
unfolding after_entry bytes_from_suffix
shorter true rest ends = omega (arith, ends, length-drop (len_before_zero rest + 1) rest)
shorter false rest ends =
    let e : ℕ = (value_or (0, 0) (vbyte_at rest 0)).1 in
    omega (
      arith,
      ends,
      length-drop (len_before_zero (drop (value_or (0, 0) (vbyte_at rest 0)).1 rest) + 1)
          (drop (value_or (0, 0) (vbyte_at rest 0)).1 rest),
      length-drop (value_or (0, 0) (vbyte_at rest 0)).1 rest,
    )

-- Each string takes at least one byte.
pub few : (p : BlockLayout) (n i : ℕ) (before rest : List ℕ) → strings_check p n i before rest ≡ Ok tt → n ≤ length rest
few p zero i before rest e = omega arith
few p (suc n) i before rest e =
    let s = step p n i before rest e in
    omega (
      arith,
      few p n (i + 1) (decoded_string (is_block_start p.block_size i) before rest)
          (after_entry (is_block_start p.block_size i) rest) s.1,
      shorter (is_block_start p.block_size i) rest s.0.ends,
    )
