-- The entries of a section whose checks hold: first entries of blocks, and others.
use Rattle.std.proofs.Common.{◌≡◌, ℕ, zero, suc, ◌+◌, ◌-◌, ◌*◌, ◌/◌, ◌<◌, ◌≤◌, ◌++◌, ◌||◌, Bool, true, false, cond}
use Rattle.std.proofs.Common.{List, [], length, take, drop, get_or, Ok, refl, sym, ap, ◌∙◌, arith, subst, eq-eqb, eqb}
use Rattle.std.proofs.Common.{add-one, zero-add}
use Rattle.std.proofs.Math.Nat.{mul-div_left, mul-mod_left, div-eq_of_lt, div-zero, mul-le-mul_left, le-div_iff_mul-le}
use Rattle.std.proofs.lemmas.Nat.{mod-mul-add}
use Rattle.hdt_wire.specs.Checks.{len_before_zero}
use Rattle.hdt_front.specs.Decoding.{is_block_start, stored_prefix_len, bytes_from_suffix, suffix_of, decoded_string}
use Rattle.hdt_front.specs.Decoding.{after_entry}
use Rattle.hdt_front.specs.Decoding.{decoded_strings}
use Rattle.hdt_front.specs.StringChecks.{BlockLayout, strings_check, precedes}
use Rattle.hdt_front.specs.EntryFacts.{IsCheckedEntry, bytes_from_entry, string_before_entry}
use Rattle.hdt_front.specs.Laws.StringSteps.{entry_check_at, string_is, rest_is, length-decoded_strings}
use Rattle.hdt_front.proofs.AscendingIds.{Ascends}
use Rattle.hdt_front.specs.declared.section.Section.{Section}
use Rattle.hdt_front.specs.Cost.{section_search_cost}
use Rattle.hdt_front.specs.Strings.{strings_of, blocks_of, section_of}
use Rattle.hdt_front.specs.PackedView.{block_layout}
use Rattle.hdt_front.specs.Laws.Strings.{count_is}
use Rattle.hdt_seq.specs.Width.{digits}
use Rattle.hdt_front.specs.Laws.FrontCoding.{less_from}
use Rattle.hdt_front.specs.Laws.IterationSteps.{not_zero}

-- If there is a block, the block size is at least 1.
pub some_block : (n b q : ℕ) → q < (n + (b - 1)) / b → 1 ≤ b
some_block n zero q h = absurd (omega (arith, h, div-zero (n + (0 - 1))))
some_block n (suc b) q h = omega arith

pub head_inside : (n b q : ℕ) → 1 ≤ b → q < (n + (b - 1)) / b → q * b < n
head_inside n b q some h = omega (arith, mul-le-mul_left b (let k : q + 1 ≤ (n + (b - 1)) / b = omega (arith, h) in k))

-- The first entry of block q begins at the block offset, and is its string in full.
pub record IsBlockHead (b q : ℕ) (bytes starts : List ℕ) (strings : List (List ℕ)) : Type 0 where
  pub here : bytes_from_entry b (q * b) bytes ≡ drop (get_or starts q 0) bytes
  pub fits : get_or starts q 0 ≤ length bytes
  pub ends : len_before_zero (drop (get_or starts q 0) bytes) < length (drop (get_or starts q 0) bytes)
  pub string : get_or strings (q * b) []
      ≡ take (len_before_zero (drop (get_or starts q 0) bytes)) (drop (get_or starts q 0) bytes)
  pub after : bytes_from_entry b (q * b + 1) bytes
      ≡ drop (len_before_zero (drop (get_or starts q 0) bytes) + 1) (drop (get_or starts q 0) bytes)

at_head : (p : BlockLayout) (i : ℕ) (before rest : List ℕ) → is_block_start p.block_size i ≡ true
    → IsCheckedEntry p i before rest
    → (get_or p.block_offsets (i / p.block_size) 0 ≡ p.size - length rest) × (len_before_zero rest < length rest)
    × (decoded_string (is_block_start p.block_size i) before rest ≡ take (len_before_zero rest) rest)
    × (after_entry (is_block_start p.block_size i) rest ≡ drop (len_before_zero rest + 1) rest)
unfolding decoded_string after_entry suffix_of bytes_from_suffix stored_prefix_len
at_head p i before rest h r = (
  r.start h,
  subst (λ (g : Bool). len_before_zero (bytes_from_suffix g rest)
      < length (bytes_from_suffix g rest)) h r.ends,
  ap (λ g. decoded_string g before rest) h,
  ap (λ g. after_entry g rest) h,
)

pub block_head : (p : BlockLayout) (n q : ℕ) (bytes : List ℕ) → p.size ≡ length bytes → 1 ≤ p.block_size
    → q < (n + (p.block_size - 1)) / p.block_size → strings_check p n 0 [] bytes ≡ Ok tt
    → IsBlockHead p.block_size q bytes p.block_offsets (decoded_strings p.block_size n 0 [] bytes)
unfolding bytes_from_entry string_before_entry
block_head p n q bytes size some h e =
    let b : ℕ = p.block_size in
    let i : ℕ = q * p.block_size in
    let inside : q * p.block_size < n = head_inside n p.block_size q some h in
    let rest : List ℕ = bytes_from_entry p.block_size (q * p.block_size) bytes in
    let head : is_block_start p.block_size (q * p.block_size) ≡ true = eq-eqb _ _ (mul-mod_left q p.block_size) in
    let row = at_head p (q * p.block_size) (string_before_entry p.block_size (q * p.block_size) bytes) rest head
    (entry_check_at p n (q * p.block_size) bytes inside e) in
    let entry : q * p.block_size / p.block_size ≡ q = mul-div_left q some in
    let start : get_or p.block_offsets q 0 ≡ length bytes - length rest =
    ap (λ k. get_or p.block_offsets k 0) (sym entry) ∙ row.0 ∙ ap (λ k. k - length rest) size in
    let here : rest ≡ drop (get_or p.block_offsets q 0) bytes = rest_is p.block_size (q * p.block_size) bytes
    ∙ ap (λ k. drop k bytes) (sym start) in
    record {
      here = here;
      fits = omega (arith, start);
      ends = subst (λ (r : List ℕ). len_before_zero r < length r) here row.1;
      string = string_is p.block_size n (q * p.block_size) bytes inside ∙ row.2
          ∙ ap (λ r. take (len_before_zero r) r) here;
      after = ap (λ k. bytes_from_entry p.block_size k bytes) (add-one (q * p.block_size)) ∙ row.3
          ∙ ap (λ r. drop (len_before_zero r + 1) r) here;
    }

-- An entry that is not the first of its block.
pub record IsBlockEntry (b i : ℕ) (bytes rest : List ℕ) (strings : List (List ℕ)) : Type 0 where
  pub fits : stored_prefix_len false rest ≤ length (get_or strings (i - 1) [])
  pub string : get_or strings i [] ≡ take (stored_prefix_len false rest) (get_or strings (i - 1) [])
      ++ suffix_of false rest
  pub ends : len_before_zero (bytes_from_suffix false rest) < length (bytes_from_suffix false rest)
  pub after : bytes_from_entry b (i + 1) bytes ≡ after_entry false rest

before_is : (b n i : ℕ) (bytes : List ℕ) → 0 < i → i < n
    → string_before_entry b i bytes ≡ get_or (decoded_strings b n 0 [] bytes) (i - 1) []
before_is b n zero bytes some h = absurd (omega (arith, some))
before_is b n (suc i) bytes some h = let e : suc i - 1 ≡ i = omega arith in
    sym (ap (λ k. get_or (decoded_strings b n 0 [] bytes) k []) e ∙ string_is b n i bytes (omega (arith, h)))

or_right : (a b : Bool) → a ≡ false → (a || b) ≡ true → b ≡ true
or_right true b e h = absurd (cc)
or_right false b e h = h

piece_at : (p : BlockLayout) (n q r : ℕ) (bytes : List ℕ) → 1 ≤ r → r < p.block_size → q * p.block_size + r < n
    → strings_check p n 0 [] bytes ≡ Ok tt
    → IsBlockEntry p.block_size (q * p.block_size + r) bytes
    (bytes_from_entry p.block_size (q * p.block_size + r) bytes) (decoded_strings p.block_size n 0 [] bytes)
unfolding bytes_from_entry string_before_entry decoded_string
piece_at p n q r bytes some short h e =
    let i : ℕ = q * p.block_size + r in
    let rest : List ℕ = bytes_from_entry p.block_size (q * p.block_size + r) bytes in
    let before : List ℕ = string_before_entry p.block_size (q * p.block_size + r) bytes in
    let head : is_block_start p.block_size (q * p.block_size + r) ≡ false =
    ap (λ k. eqb k 0) (mod-mul-add q p.block_size r short) ∙ not_zero r some in
    let row = entry_check_at p n (q * p.block_size + r) bytes h e in
    let last = before_is p.block_size n (q * p.block_size + r) bytes (omega (arith, some)) h in
    record {
      fits = subst (λ (l : List ℕ). stored_prefix_len false rest
          ≤ length l) last (subst (λ (g : Bool). stored_prefix_len g rest ≤ length before) head row.fits);
      string = string_is p.block_size n (q * p.block_size + r) bytes h ∙ ap (λ g. decoded_string g before rest) head
          ∙ ap (λ l. decoded_string false l rest) last;
      ends = subst (λ (g : Bool). len_before_zero (bytes_from_suffix g rest)
          < length (bytes_from_suffix g rest)) head row.ends;
      after = ap (λ k. bytes_from_entry p.block_size k bytes) (add-one (q * p.block_size + r))
          ∙ ap (λ g. after_entry g rest) head;
    }

pub ascends : (p : BlockLayout) (n : ℕ) (bytes : List ℕ) → strings_check p n 0 [] bytes ≡ Ok tt
    → Ascends (decoded_strings p.block_size n 0 [] bytes)
unfolding string_before_entry
ascends p n bytes e = record {
  next = λ i h.
      let k : i + 1 < n = omega (arith, h, length-decoded_strings p.block_size n 0 [] bytes) in
      let row = entry_check_at p n (suc i) bytes (omega (arith, k)) e in
      let is : precedes (string_before_entry p.block_size (suc i) bytes)
      (string_before_entry p.block_size (suc (suc i)) bytes) ≡ true =
      or_right _ _ (not_zero (suc i) (omega arith)) row.ascends in
      let two : i + 1 ≡ suc i = omega arith in
      less_from _ (ap (λ m. precedes (get_or (decoded_strings p.block_size n 0 [] bytes) i [])
      (get_or (decoded_strings p.block_size n 0 [] bytes) m [])) two
      ∙ ap (λ s. precedes s (get_or (decoded_strings p.block_size n 0 [] bytes) (suc i) []))
      (string_is p.block_size n i bytes (omega (arith, k)))
      ∙ ap (λ s. precedes (string_before_entry p.block_size (suc i) bytes) s)
      (string_is p.block_size n (suc i) bytes (omega (arith, k))) ∙ is);
}

pub next_inside : (n b q : ℕ) → 1 ≤ b → q * b + b < n → q + 1 < (n + (b - 1)) / b
next_inside n b q some h = let k : q + 2 ≤ (n + (b - 1)) / b =
    (le-div_iff_mul-le some).1 (let m : (q + 2) * b ≤ n + (b - 1) = omega (arith, h, some) in m) in omega (arith, k)

pub block_entry : (p : BlockLayout) (n q r : ℕ) (bytes rest : List ℕ) → 1 ≤ r → r < p.block_size
    → q * p.block_size + r < n → strings_check p n 0 [] bytes ≡ Ok tt
    → rest ≡ bytes_from_entry p.block_size (q * p.block_size + r) bytes
    → IsBlockEntry p.block_size (q * p.block_size + r) bytes rest (decoded_strings p.block_size n 0 [] bytes)
block_entry p n q r bytes rest some short h e is =
    subst (λ (l : List ℕ). IsBlockEntry p.block_size (q * p.block_size + r) bytes l
    (decoded_strings p.block_size n 0 [] bytes)) (sym is) (piece_at p n q r bytes some short h e)

-- An entry that was read after the first one of a block: the prefix length, the suffix, and the bytes after it.
pub record IsReadEntry (s : Section) (i k : ℕ) (text after : List ℕ) : Type 0 where
  pub inside : i < length (strings_of s)
  pub fits : k ≤ length (get_or (strings_of s) (i - 1) [])
  pub string : take k (get_or (strings_of s) (i - 1) []) ++ text ≡ get_or (strings_of s) i []
  pub rest : after ≡ bytes_from_entry s.packed.block_size (i + 1) s.packed.bytes.now

pub read_entry_is : (s : Section) (q r k : ℕ) (before text rest : List ℕ) → 1 ≤ r → r < s.packed.block_size
    → q * s.packed.block_size + r < s.packed.count
    → before ≡ bytes_from_entry s.packed.block_size (q * s.packed.block_size + r) s.packed.bytes.now
    → k ≡ stored_prefix_len false before → text ≡ suffix_of false before → rest ≡ after_entry false before
    → IsReadEntry s (q * s.packed.block_size + r) k text rest
unfolding strings_of
read_entry_is s q r k before text rest some short inside is kept_is text_is rest_is =
    let p = s.packed in
    let here = block_entry (block_layout p) p.count q r p.bytes.now before some short inside s.read is in
    let last : List ℕ = get_or (strings_of s) (q * p.block_size + r - 1) [] in
    record {
      inside = omega (arith, inside, length-decoded_strings p.block_size p.count 0 [] p.bytes.now);
      fits = omega (arith, kept_is, here.fits);
      string = ap (λ (k : ℕ). take k last ++ text) kept_is
          ∙ ap (λ (t : List ℕ). take (stored_prefix_len false before) last ++ t) text_is ∙ sym here.string;
      rest = rest_is ∙ sym here.after;
    }

pub no_blocks : (n b : ℕ) → (0 < n → 1 ≤ b) → (n + (b - 1)) / b ≡ 0 → n ≡ 0
no_blocks zero b some e = refl
no_blocks (suc n) b some e =
    let k : 1 ≤ (suc n + (b - 1)) / b =
    (le-div_iff_mul-le (some (omega arith))).1 (let m : 1 * b ≤ suc n + (b - 1) =
    omega (arith, some (omega arith)) in m) in
    absurd (omega (arith, k, e))

pub no_strings : (b : ℕ) → (0 + (b - 1)) / b ≡ 0
no_strings zero = div-zero (0 + (0 - 1))
no_strings (suc b) = div-eq_of_lt (omega arith)

looks_by : (n b d : ℕ) → 1 ≤ b → 0 < (n + (b - 1)) / b → cond (eqb n 0) 0 d ≡ d
looks_by zero b d some h = let none : (0 + (b - 1)) / b ≡ 0 = ap (λ k. k / b) (zero-add (b - 1))
    ∙ div-eq_of_lt (omega (arith, some)) in absurd (omega (arith, h, none))
looks_by (suc n) b d some h = ap (λ t. cond t 0 d) (not_zero (suc n) (omega arith))

pub some_looks : (s : Section) → 0 < blocks_of s
    → section_search_cost (section_of s) ≡ digits (blocks_of s) + (s.packed.block_size - 1)
unfolding section_search_cost section_of blocks_of
some_looks s h =
    ap (λ n. cond (eqb n 0) 0
    (digits ((n + (s.packed.block_size - 1)) / s.packed.block_size) + (s.packed.block_size - 1))) (count_is s)
    ∙ looks_by s.packed.count s.packed.block_size _ (some_block s.packed.count s.packed.block_size 0 h) h
