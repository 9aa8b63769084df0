-- Decoding a string from the first string of its block on.
use Rattle.std.proofs.Common.{◌≡◌, ℕ, zero, suc, ◌+◌, ◌-◌, ◌*◌, ◌/◌, ◌%◌, ◌<◌, ◌≤◌, ◌++◌, Bool, true, false, nat_eq}
use Rattle.std.proofs.Common.{eqb, List, [], length, take, get_or, drop, Ok, Result, sym, ap, ◌∙◌, arith, subst, eq-eqb}
use Rattle.std.proofs.Common.{add-zero, append_assoc, length-drop, length-take-le}
use Rattle.std.proofs.Math.Nat.{mul-mod_left}
use Rattle.std.proofs.lemmas.Nat.{mod-mul-add, div-add-mod', le-div}
use Rattle.std.proofs.Math.Seq.{take-append-add, take-add}
use Rattle.std.proofs.lemmas.List.{append-nil, take-take, drop-drop}
use Rattle.std.proofs.lemmas.Simd.{take_more_put_chunk, length-chunk}
use lib.Lanes.{chunk, put_chunk}
use Rattle.hdt_wire.specs.Checks.{len_before_zero}
use Rattle.hdt_front.specs.Decoding.{is_block_start, stored_prefix_len, value_or, bytes_from_suffix, suffix_of}
use Rattle.hdt_front.specs.Decoding.{decoded_string, after_entry}
use Rattle.hdt_front.specs.Decoding.{decoded_strings}
use Rattle.hdt_front.specs.StringChecks.{BlockLayout, strings_check}
use Rattle.hdt_front.specs.EntryFacts.{bytes_from_entry, string_before_entry}
use Rattle.hdt_front.specs.Inside.PartialStrings.{partial_string, IsPartlyDecoded}
use Rattle.hdt_wire.specs.VByte.{vbyte_at}
use Rattle.hdt_wire.specs.declared.fault.Fault.{Fault}
use Rattle.hdt_front.specs.Laws.StringSteps.{entry_check_at, string_is, rest_is}
use Rattle.hdt_front.proofs.SimdLoads.{zero_behind}
use Rattle.hdt_front.specs.Laws.IterationSteps.{not_zero}

pub record Unfolds (b q k : ℕ) (bytes rest : List ℕ) : Type 0 where
  pub ends : len_before_zero (bytes_from_suffix (nat_eq k 0) rest) < length (bytes_from_suffix (nat_eq k 0) rest)
  pub fits : stored_prefix_len (nat_eq k 0) rest ≤ length (partial_string b q k bytes)
  pub string : take (stored_prefix_len (nat_eq k 0) rest) (partial_string b q k bytes) ++ suffix_of (nat_eq k 0) rest
      ≡ partial_string b q (k + 1) bytes
  pub after : after_entry (nat_eq k 0) rest ≡ bytes_from_entry b (q * b + (k + 1)) bytes

unfolds : (p : BlockLayout) (n q k : ℕ) (bytes : List ℕ) → k < p.block_size → q * p.block_size + k < n
    → strings_check p n 0 [] bytes ≡ Ok tt
    → Unfolds p.block_size q k bytes (bytes_from_entry p.block_size (q * p.block_size + k) bytes)
unfolding bytes_from_entry string_before_entry decoded_string stored_prefix_len bytes_from_suffix suffix_of after_entry
unfolds p n q zero bytes short h e =
    let i : ℕ = q * p.block_size + 0 in
    let rest : List ℕ = bytes_from_entry p.block_size (q * p.block_size + 0) bytes in
    let before : List ℕ = string_before_entry p.block_size (q * p.block_size + 0) bytes in
    let head : is_block_start p.block_size (q * p.block_size + 0) ≡ true =
    ap (λ k. eqb (k % p.block_size) 0) (add-zero (q * p.block_size)) ∙ eq-eqb _ _ (mul-mod_left q p.block_size) in
    let row = entry_check_at p n (q * p.block_size + 0) bytes h e in
    let next : q * p.block_size + (0 + 1) ≡ suc (q * p.block_size + 0) = omega arith in
    record {
      ends = subst (λ (g : Bool). len_before_zero (bytes_from_suffix g rest)
          < length (bytes_from_suffix g rest)) head row.ends;
      fits = omega arith;
      string = ap (λ g. decoded_string g before rest) (sym head)
          ∙ ap (λ k. string_before_entry p.block_size k bytes) (sym next);
      after = ap (λ g. after_entry g rest) (sym head) ∙ ap (λ k. bytes_from_entry p.block_size k bytes) (sym next);
    }
unfolds p n q (suc k) bytes short h e =
    let rest : List ℕ = bytes_from_entry p.block_size (q * p.block_size + suc k) bytes in
    let before : List ℕ = string_before_entry p.block_size (q * p.block_size + suc k) bytes in
    let zero_test : nat_eq (suc k) 0 ≡ false = not_zero (suc k) (omega arith) in
    let head : is_block_start p.block_size (q * p.block_size + suc k) ≡ nat_eq (suc k) 0 =
    ap (λ k. eqb k 0) (mod-mul-add q p.block_size (suc k) short) in
    let row = entry_check_at p n (q * p.block_size + suc k) bytes h e in
    let next : q * p.block_size + (suc k + 1) ≡ suc (q * p.block_size + suc k) = omega arith in
    let up : q * p.block_size + suc (suc k) ≡ suc (q * p.block_size + suc k) = omega arith in
    let two : suc k + 1 ≡ suc (suc k) = omega arith in
    record {
      ends = subst (λ (g : Bool). len_before_zero (bytes_from_suffix g rest)
          < length (bytes_from_suffix g rest)) head row.ends;
      fits = subst (λ (g : Bool). stored_prefix_len g rest ≤ length before) head row.fits;
      string = ap (λ g. decoded_string g before rest) (sym head)
          ∙ ap (λ m. string_before_entry p.block_size m bytes) (sym up)
          ∙ ap (λ m. partial_string p.block_size q m bytes) (sym two);
      after = ap (λ g. after_entry g rest) (sym head) ∙ ap (λ k. bytes_from_entry p.block_size k bytes) (sym next);
    }

pub unfolds_here : (p : BlockLayout) (n q k : ℕ) (bytes rest : List ℕ) → k < p.block_size → q * p.block_size + k < n
    → strings_check p n 0 [] bytes ≡ Ok tt → rest ≡ bytes_from_entry p.block_size (q * p.block_size + k) bytes
    → Unfolds p.block_size q k bytes rest
unfolds_here p n q k bytes rest short h e is =
    subst (Unfolds p.block_size q k bytes) (sym is) (unfolds p n q k bytes short h e)

pub block_inside : (n b i : ℕ) → 1 ≤ b → i < n → i / b < (n + (b - 1)) / b
block_inside n b i some h =
    let d = div-add-mod' i b in
    let k : i / b + 1 ≤ (n + (b - 1)) / b = le-div (i / b + 1) (n + (b - 1)) b some (omega (arith, d, h, some)) in
    omega (arith, k)

pub block_within : (n b q many : ℕ) → 1 ≤ b → 0 < many → q * b + many ≤ n → q < (n + (b - 1)) / b
block_within n b q many some few h = let k : q + 1 ≤ (n + (b - 1)) / b =
    le-div (q + 1) (n + (b - 1)) b some (omega (arith, h, some, few)) in omega (arith, k)

-- The last decoded entry is string i.
pub string_complete : (b n i : ℕ) (bytes : List ℕ) → i < n
    → partial_string b (i / b) (i % b + 1) bytes ≡ get_or (decoded_strings b n 0 [] bytes) i []
string_complete b n i bytes h =
    let two : i % b + 1 ≡ suc (i % b) = omega arith in
    let same : i / b * b + suc (i % b) ≡ suc i = omega (arith, div-add-mod' i b) in
    ap (λ k. partial_string b (i / b) k bytes) two ∙ ap (λ k. string_before_entry b k bytes) same
    ∙ sym (string_is b n i bytes h)

-- The appended string is cut to the shared prefix, and the suffix is appended.
pub append_over_prefix : (old so out cut new text next : List ℕ) (n k : ℕ) → n ≡ length old → out ≡ old ++ so
    → cut ≡ take (n + k) out → new ≡ cut ++ text → take k so ++ text ≡ next → new ≡ old ++ next
append_over_prefix old so out cut new text next n k size is cuts made string =
    made ∙ ap (λ l. l ++ text) (cuts ∙ ap (take (n + k)) is ∙ ap (λ m. take (m + k) (old ++ so)) size
    ∙ take-append-add old so k)
    ∙ append_assoc old (take k so) text ∙ ap (λ l. old ++ l) string

-- The unread bytes are no longer than all bytes.
pub rest_within : (b i : ℕ) (bytes : List ℕ) → length (bytes_from_entry b i bytes) ≤ length bytes
rest_within b i bytes = omega (
  arith,
  ap length (rest_is b i bytes),
  length-drop (length bytes - length (bytes_from_entry b i bytes)) bytes,
)

-- The first bytes of a load are copied to the end of the decoded bytes.
pub copied : (at n run : ℕ) (buffer bytes : List ℕ) → run ≤ n → at + n ≤ length buffer → n ≤ length bytes
    → take (at + run) (put_chunk at buffer (chunk 0 n bytes)) ≡ take at buffer ++ take run bytes
copied at n run buffer bytes few in_room in_bytes =
    let part : List ℕ = chunk 0 n bytes in
    let long : length (chunk 0 n bytes) ≡ n = length-chunk 0 n bytes (omega (arith, in_bytes)) in
    let here : length (take at buffer) ≡ at = length-take-le at buffer (omega (arith, in_room)) in
    let whole : take (at + n) (put_chunk at buffer part) ≡ take at buffer ++ part =
    take_more_put_chunk at buffer part (at + n) (omega (arith, long)) in_room in
    let size : at + run ≡ length (take at buffer) + run = omega (arith, here) in
    sym (take-take (at + run) (at + n) (put_chunk at buffer part) (omega (arith, few)))
    ∙ ap (take (at + run)) whole ∙ ap (λ m. take m (take at buffer ++ part)) size
    ∙ take-append-add (take at buffer) part run
    ∙ ap (λ l. take at buffer ++ l) (take-take run n bytes few)

-- At the start of a block, nothing of its first string is decoded.
pub head_partly_decoded : (p : BlockLayout) (n q : ℕ) (bytes buffer left : List ℕ) → 0 < p.block_size
    → q * p.block_size < n → strings_check p n 0 [] bytes ≡ Ok tt
    → left ≡ bytes_from_entry p.block_size (q * p.block_size) bytes
    → IsPartlyDecoded p.block_size q 1 bytes buffer 0 left
unfolding stored_prefix_len bytes_from_suffix suffix_of after_entry
head_partly_decoded p n q bytes buffer left some h e is =
    let here = is ∙ ap (λ k. bytes_from_entry p.block_size k bytes) (sym (add-zero (q * p.block_size))) in
    let u = unfolds_here p n q 0 bytes left some (omega (arith, h)) e here in
    record { within = omega arith; string = u.string; ends = u.ends; after = u.after }

-- Copying more bytes decodes more of the string.
pub more_partly_decoded : (b q k : ℕ) (bytes buffer grown left : List ℕ) (at run : ℕ)
    → IsPartlyDecoded b q k bytes buffer at left → run ≤ len_before_zero left → at + run ≤ length grown
    → take (at + run) grown ≡ take at buffer ++ take run left
    → IsPartlyDecoded b q k bytes grown (at + run) (drop run left)
more_partly_decoded b q k bytes buffer grown left at run s part within made =
    let rest : ℕ = len_before_zero (drop run left) in
    let all : run + rest ≡ len_before_zero left = zero_behind run left part in
    let behind : run + (rest + 1) ≡ len_before_zero left + 1 = omega (arith, all) in
    record {
      within = within;
      string = ap (λ l. l ++ take rest (drop run left)) made
          ∙ append_assoc (take at buffer) (take run left) (take rest (drop run left))
          ∙ ap (λ l. take at buffer ++ l) (sym (take-add run rest left)) ∙ ap (λ n. take at buffer ++ take n left) all
          ∙ s.string;
      ends = omega (arith, s.ends, all, length-drop run left);
      after = drop-drop (rest + 1) run left ∙ ap (λ n. drop n left) behind ∙ s.after;
    }

-- After a complete string, a one-byte prefix length says how many bytes of the next one are already in the buffer.
pub next_partly_decoded : (p : BlockLayout) (n q k : ℕ) (bytes buffer left : List ℕ) (at m : ℕ)
    → IsPartlyDecoded p.block_size q k bytes buffer at left → len_before_zero left ≡ 0 → 0 < k → k < p.block_size
    → q * p.block_size + k < n
    → strings_check p n 0 [] bytes ≡ Ok tt → vbyte_at (drop 1 left) 0 ≡ Ok (m, 1)
    → IsPartlyDecoded p.block_size q (k + 1) bytes buffer m (drop 2 left)
unfolding stored_prefix_len bytes_from_suffix suffix_of after_entry
next_partly_decoded p n q k bytes buffer left at m s done some short h e number =
    let whole : take at buffer ≡ partial_string p.block_size q k bytes = sym (append-nil (take at buffer))
    ∙ ap (λ z. take at buffer ++ take z left) (sym done) ∙ s.string in
    let size : length (partial_string p.block_size q k bytes) ≡ at = ap length (sym whole)
    ∙ length-take-le at buffer s.within in
    let u = unfolds_here p n q k bytes (drop 1 left) short h e (ap (λ z. drop (z + 1) left) (sym done) ∙ s.after) in
    let first = not_zero k some in
    let keeps : stored_prefix_len (nat_eq k 0) (drop 1 left) ≡ m = ap (λ g. stored_prefix_len g (drop 1 left)) first
    ∙ ap (λ (r : Result (ℕ × ℕ) Fault). (value_or (0, 0) r).0) number in
    let from : bytes_from_suffix (nat_eq k 0) (drop 1 left) ≡ drop 2 left =
    ap (λ g. bytes_from_suffix g (drop 1 left)) first
    ∙ ap (λ (r : Result (ℕ × ℕ) Fault). drop (value_or (0, 0) r).1 (drop 1 left)) number ∙ drop-drop 1 1 left in
    let few : m ≤ at = omega (arith, u.fits, keeps, size) in
    record {
      within = omega (arith, few, s.within);
      string = ap (λ l. l ++ take (len_before_zero (drop 2 left)) (drop 2 left)) (sym (take-take m at buffer few)
          ∙ ap (take m) whole)
          ∙ ap (λ z. take z (partial_string p.block_size q k bytes)
          ++ take (len_before_zero (drop 2 left)) (drop 2 left)) (sym keeps)
          ∙ ap (λ l. take (stored_prefix_len (nat_eq k 0) (drop 1 left)) (partial_string p.block_size q k bytes)
          ++ take (len_before_zero l) l) (sym from) ∙ u.string;
      ends = subst (λ l. len_before_zero l < length l) from u.ends;
      after = ap (λ l. drop (len_before_zero l + 1) l) (sym from) ∙ u.after;
    }
