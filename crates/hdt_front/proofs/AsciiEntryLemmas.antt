-- The usual entry: its suffix is ASCII, and the first byte of that decides the order.
use Rattle.std.proofs.Common.{◌≡◌, ℕ, zero, suc, ◌+◌, ◌-◌, ◌%◌, ◌<◌, ◌≤◌, ◌++◌, ◌||◌, Bool, true, false, List, length}
use Rattle.std.proofs.Common.{take, drop, get_or, Ok, refl, sym, ap, subst, ◌∙◌, arith, eqb, nat_le, nat_lt, le-leb}
use Rattle.std.proofs.Common.{lt-ltb, length-drop, length-take-le, add-zero}
use Rattle.std.proofs.lemmas.Bool.Decides.{nat_tests}
use Rattle.std.specs.Ordering.{is_lt}
use Rattle.std.specs.Str.{is_utf8}
use Rattle.std.proofs.lemmas.Str.{IsCharBoundary-before_ascii}
use Rattle.std.proofs.lemmas.List.{get_or-take, get_or-drop}
use Rattle.hdt_front.specs.Decoding.{is_block_start}
use Rattle.hdt_front.specs.StringChecks.{BlockLayout, precedes, prefix_check, string_check}
use Rattle.hdt_front.specs.Inside.LoadRuns.{ascii_run}
use Rattle.hdt_front.specs.Inside.AsciiEntries.{IsAsciiEntry}
use Rattle.hdt_front.proofs.BlockIndex.{one_byte}
use Rattle.hdt_front.proofs.SimdLoads.{ascii_text_at_front, ascii_byte}
use Rattle.hdt_front.proofs.Order.{kept_order, first_decides}
use Rattle.hdt_front.proofs.Utf8.{from_character, behind_kept}

valid_is : (before text : List ℕ) (kept : ℕ) → is_utf8 before ≡ true → kept < length before → get_or before kept 0 < 128
    → is_utf8 text ≡ true → is_utf8 (take kept before ++ text) ≡ true
valid_is before text kept utf8 fits ascii valid =
    let le : kept ≤ length before = omega (arith, fits) in
    sym (from_character before text kept kept utf8 le (omega arith)
    (IsCharBoundary-before_ascii before kept fits ascii)) ∙ ap is_utf8 (behind_kept before text kept kept le refl)
    ∙ valid

later_is : (before text : List ℕ) (kept : ℕ) → kept < length before → 0 < length text
    → get_or before kept 0 < get_or text 0 0 → precedes before (take kept before ++ text) ≡ true
later_is before text kept fits some less =
    let first : get_or (drop kept before) 0 0 ≡ get_or before kept 0 = get_or-drop kept before 0 0
    ∙ ap (λ k. get_or before k 0) (add-zero kept) in
    ap is_lt (kept_order before text kept (omega (arith, fits)))
    ∙ first_decides (drop kept before) text (omega (arith, fits, length-drop kept before)) some
    (λ e. omega (arith, e, first, less))
    ∙ lt-ltb _ _ (omega (arith, first, less))

-- The tests of the fast path make an entry the usual one.
ascii_entry_is : (before rest : List ℕ) (kept len : ℕ) → is_utf8 before ≡ true → 0 < length rest → 128 ≤ get_or rest 0 0
    → get_or rest 0 0 < 256 → kept ≡ get_or rest 0 0 - 128
    → kept < length before → len ≤ ascii_run (drop 1 rest) → len < length (drop 1 rest) → get_or (drop 1 rest) len 0 ≡ 0
    → get_or before kept 0 < get_or (drop 1 rest) 0 0
    → IsAsciiEntry before rest kept len
ascii_entry_is before rest kept len utf8 some top byte number fits plain inside ends less =
    let t = ascii_text_at_front (drop 1 rest) len plain inside ends in
    let long : 0 < len = not_first (drop 1 rest) len (get_or before kept 0) ends less in
    let first : get_or (take len (drop 1 rest)) 0 0 ≡ get_or (drop 1 rest) 0 0 =
    get_or-take len (drop 1 rest) 0 0 long in
    let ascii : get_or (drop 1 rest) 0 0 < 128 = ascii_byte (drop 1 rest) 0 (omega (arith, long, plain)) in
    record {
      number = sym (one_byte rest some top byte) ∙ ap (λ k. Ok (k, 1)) (sym number);
      fits = omega (arith, fits);
      text = sym t.0;
      ends = inside;
      utf8 = valid_is before (take len (drop 1 rest)) kept utf8 fits (omega (arith, less, ascii)) t.1;
      later = later_is before (take len (drop 1 rest)) kept fits
          (omega (arith, length-take-le len (drop 1 rest) (omega (arith, inside)), long)) (omega (arith, first, less));
    }
  where
    not_first : (x : List ℕ) (n b : ℕ) → get_or x n 0 ≡ 0 → b < get_or x 0 0 → 0 < n
    not_first x zero b e h = absurd (omega (arith, e, h))
    not_first x (suc n) b e h = omega arith

-- The same, stated on the bytes after the prefix length.
pub ascii_entry_of_suffix : (before rest text : List ℕ) (kept len : ℕ) → text ≡ drop 1 rest → is_utf8 before ≡ true
    → 0 < length rest → 128 ≤ get_or rest 0 0 → get_or rest 0 0 < 256 → kept ≡ get_or rest 0 0 - 128
    → kept < length before → len ≤ ascii_run text → len < length text → get_or text len 0 ≡ 0
    → get_or before kept 0 < get_or text 0 0 → IsAsciiEntry before rest kept len
ascii_entry_of_suffix before rest text kept len e utf8 some top byte number fits plain inside ends less =
    ascii_entry_is before rest kept len utf8 some top byte number fits
    (subst (λ (t : List ℕ). len ≤ ascii_run t) e plain) (subst (λ (t : List ℕ). len < length t) e inside)
    (ap (λ (t : List ℕ). get_or t len 0) (sym e)
    ∙ ends) (subst (λ (t : List ℕ). get_or before kept 0 < get_or t 0 0) e less)

opens : (p : BlockLayout) (i : ℕ) (before rest : List ℕ) (kept len : ℕ) → is_block_start p.block_size i ≡ false
    → IsAsciiEntry before rest kept len → prefix_check p i rest ≡ Ok (kept, drop 1 rest)
unfolding prefix_check
opens p i before rest kept len head h = let number = h.number in rw (head, number) refl

-- The checks of the usual entry hold.
pub ascii_entry_check : (p : BlockLayout) (i : ℕ) (before rest : List ℕ) (kept len : ℕ) → (i % p.block_size ≡ 0 → ⊥)
    → IsAsciiEntry before rest kept len
    → string_check p i before rest ≡ Ok (take kept before ++ take len (drop 1 rest), drop (len + 1) (drop 1 rest))
unfolding string_check
ascii_entry_check p i before rest kept len inside h =
    let o = opens p i before rest kept len (not_zero (i % p.block_size) inside) h in
    let h1 : nat_le kept (length before) ≡ true = le-leb _ _ h.fits in
    let h2 : nat_lt len (length (drop 1 rest)) ≡ true = lt-ltb _ _ h.ends in
    let text = h.text in
    let h3 = h.utf8 in
    let h4 = either_later (eqb i 0) h.later in
    rw (o, h1, text, h2, h3, h4) refl
  where
    not_zero : (r : ℕ) → (r ≡ 0 → ⊥) → eqb r 0 ≡ false
    not_zero r h = grind (arith, nat_tests, h)

    either_later : (b : Bool) {later : Bool} → later ≡ true → (b || later) ≡ true
    either_later true h = refl
    either_later false h = h
