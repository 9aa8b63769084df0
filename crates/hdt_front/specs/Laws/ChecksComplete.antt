-- Completeness: on a front coding of strings the checks hold, and the bytes decode to these strings.
use Rattle.std.proofs.Common.{◌≡◌, ℕ, zero, suc, ◌+◌, ◌-◌, ◌/◌, ◌<◌, ◌≤◌, ◌++◌, ◌||◌, Bool, true, false, not, cond}
use Rattle.std.proofs.Common.{List, [], ◌∷◌, length, take, drop, get_or, Result, Ok, refl, sym, ap, ◌∙◌, arith, subst}
use Rattle.std.proofs.Common.{eqb, nat_le, nat_lt, eq-eqb, le-leb, lt-ltb, length-append, append_assoc}
use Rattle.std.specs.Prelude.{if◌then◌else◌}
use Rattle.std.specs.List.{concat}
use Rattle.std.specs.Str.{is_utf8}
use Rattle.std.proofs.lemmas.List.{take-append-drop, take_at, drop_at}
use Rattle.hdt_wire.specs.declared.fault.Fault.{Fault}
use Rattle.hdt_wire.specs.declared.fault.Reason.TheVariants.{PackedLength, BlockPlace}
use Rattle.hdt_wire.specs.Checks.{◌>>=◌, demand, len_before_zero}
use Rattle.hdt_wire.specs.VByte.{VByte, vbyte_at}
use Rattle.hdt_wire.specs.Laws.VByte.{vbyte_only}
use Rattle.hdt_seq.specs.Sequence.{entry_offset}
use Rattle.hdt_front.specs.Decoding.{is_block_start, stored_prefix_len, bytes_from_suffix, suffix_of, decoded_string}
use Rattle.hdt_front.specs.Decoding.{after_entry, value_or}
use Rattle.hdt_front.specs.Decoding.{decoded_strings}
use Rattle.hdt_front.specs.StringChecks.{BlockLayout, rest_offset, prefix_result, precedes, prefix_check, string_check}
use Rattle.hdt_front.specs.StringChecks.{strings_check}
use Rattle.hdt_front.specs.EntryFacts.{IsCheckedEntry}
use Rattle.hdt_front.specs.FrontCoding.{IsEntry}
use Rattle.hdt_front.specs.Laws.FrontCodingSteps.{AreEntries, AreBlockStarts, IsFrontCodedFrom, NoZero, Ascending}

opened_is : (h test : Bool) (at place : ℕ) (rest : List ℕ) (r : Result (ℕ × ℕ) Fault) → (h ≡ true → test ≡ true)
    → (h ≡ false → r ≡ Ok (value_or (0, 0) r))
    → (if h then demand test at BlockPlace >>= (λ _. Ok (0, rest)) else prefix_result place rest r)
    ≡ Ok (cond h 0 (value_or (0, 0) r).0, cond h rest (drop (value_or (0, 0) r).1 rest))
opened_is true test at place rest r f g = ap (λ t. demand t at BlockPlace >>= (λ _. Ok (0, rest))) (f refl)
opened_is false test at place rest r f g = ap (prefix_result place rest) (g refl)

prefix_read : (p : BlockLayout) (i : ℕ) (before rest : List ℕ) → IsCheckedEntry p i before rest
    → prefix_check p i rest ≡ Ok (
      stored_prefix_len (is_block_start p.block_size i) rest,
      bytes_from_suffix
          (is_block_start p.block_size i) rest,
    )
unfolding prefix_check stored_prefix_len bytes_from_suffix
prefix_read p i before rest r =
    opened_is (is_block_start p.block_size i) (eqb (get_or p.block_offsets (i / p.block_size) 0) (p.size - length rest))
    (entry_offset p.block_offsets_at (i / p.block_size)) (rest_offset p rest) rest (vbyte_at rest 0)
    (λ h. eq-eqb _ _ (r.start h)) r.number

pub string_checked : (p : BlockLayout) (i : ℕ) (before rest : List ℕ) → IsCheckedEntry p i before rest
    → string_check p i before rest
    ≡ Ok (decoded_string (is_block_start p.block_size i) before rest, after_entry (is_block_start p.block_size i) rest)
unfolding string_check decoded_string after_entry suffix_of
string_checked p i before rest r =
    let o = prefix_read p i before rest r in
    let h1 : nat_le (stored_prefix_len (is_block_start p.block_size i) rest) (length before)
    ≡ true = le-leb _ _ r.fits in
    let h2 : nat_lt (len_before_zero (bytes_from_suffix (is_block_start p.block_size i) rest))
    (length (bytes_from_suffix (is_block_start p.block_size i) rest)) ≡ true = lt-ltb _ _ r.ends in
    let h3 = r.utf8 in
    let h4 = r.ascends in
    rw (o, h1, h2, h3, h4) refl

drop_no_zero : (k : ℕ) (xs : List ℕ) → NoZero xs → NoZero (drop k xs)
unfolding NoZero
drop_no_zero zero xs h = h
drop_no_zero (suc k) [] h = tt
drop_no_zero (suc k) (c ∷ xs) h = drop_no_zero k xs h.1

zero_at_end : (x more : List ℕ) → NoZero x → len_before_zero ((x ++ 0 ∷ []) ++ more) ≡ length x
unfolding NoZero
zero_at_end [] more h = refl
zero_at_end (c ∷ x) more h =
    let one : 1 + len_before_zero ((x ++ 0 ∷ []) ++ more) ≡ suc (length x) = omega (arith, zero_at_end x more h.1) in
    ap (λ b. cond (not b) (1 + len_before_zero ((x ++ 0 ∷ []) ++ more)) 0) h.0 ∙ one

pub record DecodedEntry (h : Bool) (before string rest more : List ℕ) : Type 0 where
  pub number : h ≡ false → vbyte_at rest 0 ≡ Ok (value_or (0, 0) (vbyte_at rest 0))
  pub fits : stored_prefix_len h rest ≤ length before
  pub ends : len_before_zero (bytes_from_suffix h rest) < length (bytes_from_suffix h rest)
  pub string_is : decoded_string h before rest ≡ string
  pub after_is : after_entry h rest ≡ more

-- The bytes t are the text x, a zero byte, and then `more`.
record IsTerminated (t x more : List ℕ) : Type 0 where
  ends : len_before_zero t < length t
  text : take (len_before_zero t) t ≡ x
  after : drop (len_before_zero t + 1) t ≡ more

terminated_text : (t x more : List ℕ) → t ≡ (x ++ 0 ∷ []) ++ more → NoZero x → IsTerminated t x more
terminated_text t x more e h =
    let z : len_before_zero t ≡ length x = ap len_before_zero e ∙ zero_at_end x more h in
    let long : length t ≡ length x + 1 + length more = ap length e ∙ length-append (x ++ 0 ∷ []) more
    ∙ ap (λ n. n + length more) (length-append x (0 ∷ [])) in
    record {
      ends = omega (arith, z, long);
      text = ap (λ k. take k t) z ∙ ap (take (length x)) (e ∙ append_assoc x (0 ∷ []) more)
          ∙ take_at x (0 ∷ [] ++ more) (length x) refl;
      after = ap (λ k. drop (k + 1) t) z ∙ ap (drop (length x + 1)) e
          ∙ drop_at (x ++ 0 ∷ []) more (length x + 1) (length-append x (0 ∷ []));
    }

pub entry_decodes : (h : Bool) (before string entry rest more : List ℕ) → IsEntry h before string entry → NoZero string
    → rest ≡ entry ++ more → DecodedEntry h before string rest more
unfolding stored_prefix_len bytes_from_suffix suffix_of decoded_string after_entry
entry_decodes true before string entry rest more is none e =
    let t = terminated_text rest string more (e ∙ ap (λ (l : List ℕ). l ++ more) is) none in
    record {
      number = λ f. absurd (cc);
      fits = omega arith;
      ends = t.ends;
      string_is = t.text;
      after_is = t.after;
    }
entry_decodes false before string entry rest more is none e =
    let x : List ℕ = drop is.prefix_len string in
    let whole : rest ≡ is.front ++ ((x ++ 0 ∷ []) ++ more) = e ∙ ap (λ (l : List ℕ). l ++ more) is.is
    ∙ append_assoc is.front (x ++ 0 ∷ []) more in
    let size : length is.front - 0 ≡ length is.front = omega arith in
    let front : take (length is.front - 0) rest ≡ is.front = ap (λ (k : ℕ). take k rest) size
    ∙ ap (take (length is.front)) whole ∙ take_at is.front ((x ++ 0 ∷ []) ++ more) (length is.front) refl in
    let number : vbyte_at rest 0
    ≡ Ok (is.prefix_len, length is.front) = vbyte_only rest 0 is.prefix_len (length is.front) is.small
    (record {
      in_order = omega arith;
      within =
          omega (arith, ap length whole, length-append is.front ((x ++ 0 ∷ []) ++ more));
      spelled =
          subst (λ (l : List ℕ). VByte l is.prefix_len) (sym front) is.spelled;
    }) in
    let read : value_or (0, 0) (vbyte_at rest 0) ≡ (is.prefix_len, length is.front) = ap (value_or (0, 0)) number in
    let k : (value_or (0, 0) (vbyte_at rest 0)).0 ≡ is.prefix_len = ap (λ (y : ℕ × ℕ). y.0) read in
    let from : drop (value_or (0, 0) (vbyte_at rest 0)).1 rest ≡ (x ++ 0 ∷ []) ++ more =
    ap (λ (y : ℕ × ℕ). drop y.1 rest) read ∙ ap (drop (length is.front)) whole
    ∙ drop_at is.front ((x ++ 0 ∷ []) ++ more) (length is.front) refl in
    let t = terminated_text (drop (value_or (0, 0) (vbyte_at rest 0)).1 rest) x more from
    (drop_no_zero is.prefix_len string none) in
    record {
      number = λ _. number ∙ ap Ok (sym read);
      fits = omega (arith, k, is.fits);
      ends = t.ends;
      string_is = ap (λ (n : ℕ). take n before ++ suffix_of false rest) k
          ∙ ap (λ (l : List ℕ). l ++ suffix_of false rest) is.agree
          ∙ ap (λ (l : List ℕ). take is.prefix_len string ++ l) t.text ∙ take-append-drop is.prefix_len string;
      after_is = t.after;
    }

pub or_holds : (a b : Bool) → b ≡ true → (a || b) ≡ true
or_holds true b e = refl
or_holds false b e = e

only_by : (p : BlockLayout) (i at : ℕ) (before : List ℕ) (strings entries : List (List ℕ)) (rest : List ℕ)
    → p.size ≡ at + length rest → AreEntries p.block_size i before strings entries → rest ≡ concat entries
    → AreBlockStarts p.block_size i at entries p.block_offsets → Ascending i before strings
    → (strings_check p (length strings) i before rest ≡ Ok tt)
    × (decoded_strings p.block_size (length strings) i before rest ≡ strings)
unfolding strings_check decoded_strings AreEntries AreBlockStarts Ascending
only_by p i at before [] [] rest size each joined places asc =
    let nil : eqb (length rest) 0 ≡ true = eq-eqb _ _ (ap length joined) in (
      ap (λ b. demand b (rest_offset p rest) PackedLength >>=
          (λ _. demand (eqb i 0 || eqb (get_or p.block_offsets ((i + (p.block_size - 1)) / p.block_size) 0) p.size)
          (entry_offset p.block_offsets_at ((i + (p.block_size - 1)) / p.block_size)) BlockPlace)) nil
          ∙ ap (λ b. demand b (entry_offset p.block_offsets_at ((i + (p.block_size - 1)) / p.block_size)) BlockPlace)
          (last_holds i (get_or p.block_offsets ((i + (p.block_size - 1)) / p.block_size) 0) p.size (λ h. places h
          ∙ (omega (arith, size, ap length joined)))),
      refl,
    )
  where
    last_holds : (i a b : ℕ) → (0 < i → a ≡ b) → (eqb i 0 || eqb a b) ≡ true
    last_holds zero a b h = refl
    last_holds (suc i) a b h = let e : eqb a b ≡ true = eq-eqb a b (h (omega arith)) in
        or_holds (eqb (suc i) 0) (eqb a b) e
only_by p i at before [] (pc ∷ entries) rest size each joined places asc = absurd each
only_by p i at before (string ∷ strings) [] rest size each joined places asc = absurd each
only_by p i at before (string ∷ strings) (pc ∷ entries) rest size each joined places asc =
    let s = entry_decodes (is_block_start p.block_size i) before string pc rest (concat entries) each.0 asc.1 joined in
    let long : length rest ≡ length pc + length (concat entries) = ap length joined
    ∙ length-append pc (concat entries) in
    let row : IsCheckedEntry p i before rest = record {
      start = λ h. places.0 h ∙ (omega (arith, size));
      number = s.number;
      fits = s.fits;
      ends = s.ends;
      utf8 = ap is_utf8 s.string_is ∙ asc.0;
      ascends = ap (λ (x : List ℕ). eqb i 0 || precedes before x) s.string_is ∙ asc.2;
    } in
    let r = only_by p (i + 1) (at + length pc) string strings entries (concat entries)
    (omega (arith, size, long)) each.1 refl places.1 asc.3 in
    let one = string_checked p i before rest row in (
      ap (λ o. o >>= (λ x. strings_check p (length strings) (i + 1) x.0 x.1)) one
          ∙ ap (λ (x : List ℕ). strings_check p (length strings) (i + 1) x
          (after_entry (is_block_start p.block_size i) rest))
          s.string_is
          ∙ ap (λ (x : List ℕ). strings_check p (length strings) (i + 1) string x) s.after_is ∙ r.0,
      ap (λ (x : List ℕ). x ∷ decoded_strings p.block_size (length strings) (i + 1) x
          (after_entry (is_block_start p.block_size i) rest)) s.string_is
          ∙ ap (λ (x : List ℕ). string ∷ decoded_strings p.block_size (length strings) (i + 1) string x) s.after_is
          ∙ ap (λ (xs : List (List ℕ)). string ∷ xs) r.1,
    )

pub strings_only : (p : BlockLayout) (strings : List (List ℕ)) (bytes : List ℕ) → p.size ≡ length bytes
    → IsFrontCodedFrom p.block_size 0 0 [] strings bytes p.block_offsets → Ascending 0 [] strings
    → (strings_check p (length strings) 0 [] bytes ≡ Ok tt)
    × (decoded_strings p.block_size (length strings) 0 [] bytes ≡ strings)
strings_only p strings bytes size f asc =
    only_by p 0 0 [] strings f.entries bytes (omega (arith, size)) f.each f.joined f.places asc
