-- The canonical form of the strings of whole blocks and of later strings, by that of each: no entry depends on one of a
-- block before its own.
use Rattle.std.proofs.Common.{◌≡◌, ◌∙◌, ℕ, suc, ◌+◌, ◌%◌, ◌==◌, ◌≤◌, max, Bool, true, false, cond, fold}
use Rattle.std.proofs.Common.{List, [], ◌∷◌, ◌++◌, length, map, get_or, refl, sym, ap, arith}
use Rattle.std.proofs.Common.{append_assoc, append-nil, add-zero, zero-add, length-append}
use Rattle.std.specs.List.{concat}
use Rattle.std.proofs.Math.Nat.{mod-add-mod}
use Rattle.std.proofs.lemmas.List.{append_cancel_right}
use Rattle.std.proofs.lemmas.List.Folds.{concat-append}
use Rattle.hdt_seq.specs.Width.{digits, greatest, width_of}
use Rattle.hdt_front.specs.Decoding.{is_block_start}
use Rattle.hdt_front.specs.Canonical.{encode_entry, encode_entries, block_offsets_from, block_offsets, packed_of}

-- ---- entries

entries_joined : (b i : ℕ) (last : List ℕ) (xs ys : List (List ℕ))
    → encode_entries b i last (xs ++ ys)
    ≡ encode_entries b i last xs ++ encode_entries b (i + length xs) (get_or (last ∷ xs) (length xs) []) ys
unfolding encode_entries
entries_joined b i last [] ys = ap (λ (n : ℕ). encode_entries b n last ys) (sym (add-zero i))
entries_joined b i last (x ∷ xs) ys =
    let next : (i + 1) + length xs ≡ i + suc (length xs) = omega arith in
    let p : List ℕ = encode_entry (is_block_start b i) last x in
    ap (λ (l : List (List ℕ)). p ∷ l) (entries_joined b (i + 1) x xs ys)
    ∙ ap (λ (n : ℕ). p ∷ (encode_entries b (i + 1) x xs
    ++ encode_entries b n (get_or (x ∷ xs) (length xs) []) ys)) next

entry_count : (b i : ℕ) (last : List ℕ) (xs : List (List ℕ)) → length (encode_entries b i last xs) ≡ length xs
unfolding encode_entries
entry_count b i last [] = refl
entry_count b i last (x ∷ xs) = ap suc (entry_count b (i + 1) x xs)

-- the first entry of a block does not depend on the string before it
head_alone : (h : Bool) (x y s : List ℕ) → h ≡ true → encode_entry h x s ≡ encode_entry h y s
unfolding encode_entry
head_alone true x y s e = refl
head_alone false x y s e = absurd cc

-- blocks later, the same strings are first of their blocks
module _ (b m : ℕ) (whole : m % b ≡ 0) where
  head_later : (i : ℕ) → is_block_start b (m + i) ≡ is_block_start b i
  head_later i =
      ap (λ (n : ℕ). n == 0) (sym (mod-add-mod m b i) ∙ ap (λ (n : ℕ). (n + i) % b) whole
      ∙ ap (λ (n : ℕ). n % b) (zero-add i))

  entries_later : (i : ℕ) (last : List ℕ) (ys : List (List ℕ))
      → encode_entries b (m + i) last ys ≡ encode_entries b i last ys
  unfolding encode_entries
  entries_later i last [] = refl
  entries_later i last (y ∷ ys) =
      let next : (m + i) + 1 ≡ m + (i + 1) = omega arith in
      ap (λ (h : Bool). encode_entry h last y ∷ encode_entries b ((m + i) + 1) y ys) (head_later i)
      ∙ ap (λ (n : ℕ). encode_entry (is_block_start b i) last y ∷ encode_entries b n y ys) next
      ∙ ap (λ (l : List (List ℕ)). encode_entry (is_block_start b i) last y ∷ l) (entries_later (i + 1) y ys)

  entries_again : (last : List ℕ) (ys : List (List ℕ)) → encode_entries b m last ys ≡ encode_entries b 0 [] ys
  unfolding encode_entries
  entries_again last [] = refl
  entries_again last (y ∷ ys) =
      let head : is_block_start b m ≡ true = ap (λ (n : ℕ). n == 0) whole in
      let first : is_block_start b m ≡ is_block_start b 0 = ap (is_block_start b) (sym (add-zero m)) ∙ head_later 0 in
      let next : m + 1 ≡ m + (0 + 1) = omega arith in
      ap (λ (l : List ℕ). l ∷ encode_entries b (m + 1) y ys) (head_alone (is_block_start b m) last [] y head)
      ∙ ap (λ (h : Bool). encode_entry h [] y ∷ encode_entries b (m + 1) y ys) first
      ∙ ap (λ (n : ℕ). encode_entry (is_block_start b 0) [] y ∷ encode_entries b n y ys) next
      ∙ ap (λ (l : List (List ℕ)). encode_entry (is_block_start b 0) [] y ∷ l) (entries_later (0 + 1) y ys)

  offsets_later : (i p at : ℕ) (es : List (List ℕ))
      → block_offsets_from b (m + i) (p + at) es ≡ map (λ n. p + n) (block_offsets_from b i at es)
  unfolding block_offsets_from
  offsets_later i p at [] = refl
  offsets_later i p at (e ∷ es) =
      let next : (m + i) + 1 ≡ m + (i + 1) = omega arith in
      let place : (p + at) + length e ≡ p + (at + length e) = omega arith in
      let rest : List ℕ = block_offsets_from b (i + 1) (at + length e) es in
      ap (λ (h : Bool). cond h ((p + at) ∷ []) [] ++ block_offsets_from b ((m + i) + 1) ((p + at) + length e) es)
      (head_later i)
      ∙ ap (λ (n : ℕ). cond (is_block_start b i) ((p + at) ∷ []) []
      ++ block_offsets_from b n ((p + at) + length e) es) next
      ∙ ap (λ (n : ℕ). cond (is_block_start b i) ((p + at) ∷ []) [] ++ block_offsets_from b (m + (i + 1)) n es) place
      ∙ ap (λ (l : List ℕ). cond (is_block_start b i) ((p + at) ∷ []) [] ++ l)
      (offsets_later (i + 1) p (at + length e) es)
      ∙ first (is_block_start b i) rest
    where
      first : (h : Bool) (rest : List ℕ) → cond h ((p + at) ∷ []) [] ++ map (λ n. p + n) rest
          ≡ map (λ n. p + n) (cond h (at ∷ []) [] ++ rest)
      first true rest = refl
      first false rest = refl

-- ---- strings of whole blocks, and later ones

module _ (b : ℕ) (xs ys : List (List ℕ)) (whole : length xs % b ≡ 0) where
  pub entries_of_both : encode_entries b 0 [] (xs ++ ys) ≡ encode_entries b 0 [] xs ++ encode_entries b 0 [] ys
  entries_of_both =
      entries_joined b 0 [] xs ys
      ∙ ap (λ (n : ℕ). encode_entries b 0 [] xs ++ encode_entries b n (get_or ([] ∷ xs) (length xs) []) ys)
      (zero-add (length xs))
      ∙ ap (λ (l : List (List ℕ)). encode_entries b 0 [] xs ++ l)
      (entries_again b (length xs) whole (get_or ([] ∷ xs) (length xs) []) ys)

  pub packed_of_both : packed_of b (xs ++ ys) ≡ packed_of b xs ++ packed_of b ys
  packed_of_both = ap concat entries_of_both ∙ concat-append (encode_entries b 0 [] xs) (encode_entries b 0 [] ys)

-- ---- block offsets

-- the offsets without the end
unfoldable starts_from : ℕ → ℕ → ℕ → List (List ℕ) → List ℕ
starts_from b i at [] = []
starts_from b i at (e ∷ es) = cond (is_block_start b i) (at ∷ []) [] ++ starts_from b (i + 1) (at + length e) es

offsets_joined : (b i at : ℕ) (es fs : List (List ℕ))
    → block_offsets_from b i at (es ++ fs)
    ≡ starts_from b i at es ++ block_offsets_from b (i + length es) (at + length (concat es)) fs
unfolding block_offsets_from starts_from
offsets_joined b i at [] fs =
    ap (λ (n : ℕ). block_offsets_from b n at fs) (sym (add-zero i))
    ∙ ap (λ (n : ℕ). block_offsets_from b (i + 0) n fs) (sym (add-zero at))
offsets_joined b i at (e ∷ es) fs =
    let next : (i + 1) + length es ≡ i + suc (length es) = omega arith in
    let place : at + length e + length (concat es) ≡ at + length (e ++ concat es) =
    omega (arith, length-append e (concat es)) in
    let first : List ℕ = cond (is_block_start b i) (at ∷ []) [] in
    let rest : List ℕ = starts_from b (i + 1) (at + length e) es in
    ap (λ (l : List ℕ). first ++ l) (offsets_joined b (i + 1) (at + length e) es fs)
    ∙ ap (λ (n : ℕ). first ++ (rest ++ block_offsets_from b n (at + length e + length (concat es)) fs)) next
    ∙ ap (λ (n : ℕ). first ++ (rest ++ block_offsets_from b (i + suc (length es)) n fs)) place
    ∙ sym (append_assoc first rest (block_offsets_from b (i + suc (length es)) (at + length (e ++ concat es)) fs))

offsets_end : (b i at : ℕ) (es : List (List ℕ))
    → block_offsets_from b i at es ≡ starts_from b i at es ++ (at + length (concat es)) ∷ []
unfolding block_offsets_from
offsets_end b i at es = ap (block_offsets_from b i at) (sym (append-nil es)) ∙ offsets_joined b i at es []

-- The block offsets of both: those of the first strings without their end, and those of the later ones, as many bytes
-- further on as the first strings take.
pub offsets_of_both : (b : ℕ) (xs ys : List (List ℕ)) (starts : List ℕ) → length xs % b ≡ 0
    → starts ++ length (packed_of b xs) ∷ [] ≡ block_offsets b xs
    → block_offsets b (xs ++ ys) ≡ starts ++ map (λ n. length (packed_of b xs) + n) (block_offsets b ys)
offsets_of_both b xs ys starts whole is =
    let es : List (List ℕ) = encode_entries b 0 [] xs in
    let fs : List (List ℕ) = encode_entries b 0 [] ys in
    let size : ℕ = length (packed_of b xs) in
    let count : 0 + length es ≡ length xs + 0 = omega (arith, entry_count b 0 [] xs) in
    let place : 0 + size ≡ size + 0 = omega arith in
    let own : starts_from b 0 0 es ≡ starts =
    append_cancel_right (starts_from b 0 0 es) starts (size ∷ [])
    (ap (λ (n : ℕ). starts_from b 0 0 es ++ n ∷ []) (sym (zero-add size)) ∙ sym (offsets_end b 0 0 es) ∙ sym is) in
    ap (block_offsets_from b 0 0) (entries_of_both b xs ys whole) ∙ offsets_joined b 0 0 es fs
    ∙ ap (λ (l : List ℕ). l ++ block_offsets_from b (0 + length es) (0 + size) fs) own
    ∙ ap (λ (n : ℕ). starts ++ block_offsets_from b n (0 + size) fs) count
    ∙ ap (λ (n : ℕ). starts ++ block_offsets_from b (length xs + 0) n fs) place
    ∙ ap (λ (l : List ℕ). starts ++ l) (offsets_later b (length xs) whole 0 size 0 fs)

-- ---- the greatest block offset is the end

greatest_from : (b i at k : ℕ) (es : List (List ℕ)) → k ≤ at
    → fold max k (block_offsets_from b i at es) ≡ at + length (concat es)
unfolding block_offsets_from
greatest_from b i at k [] le = omega (arith, le)
greatest_from b i at k (e ∷ es) le =
    one (is_block_start b i) (λ j up. greatest_from b (i + 1) (at + length e) j es up)
  where
    one : (h : Bool)
        → ((j : ℕ) → j ≤ at + length e
        → fold max j (block_offsets_from b (i + 1) (at + length e) es) ≡ at + length e + length (concat es))
        → fold max k (cond h (at ∷ []) [] ++ block_offsets_from b (i + 1) (at + length e) es)
        ≡ at + length (e ++ concat es)
    one true later =
        let up : max k at ≤ at + length e = omega (arith, le) in
        omega (arith, later (max k at) up, length-append e (concat es))
    one false later =
        let up : k ≤ at + length e = omega (arith, le) in
        omega (arith, later k up, length-append e (concat es))

pub greatest_offset : (b : ℕ) (xs : List (List ℕ)) → greatest (block_offsets b xs) ≡ length (packed_of b xs)
greatest_offset b xs =
    let h : 0 ≤ 0 = omega arith in
    omega (arith, greatest_from b 0 0 0 (encode_entries b 0 [] xs) h)

pub width_of_offsets : (b : ℕ) (xs : List (List ℕ))
    → width_of (length (packed_of b xs) ∷ []) ≡ width_of (block_offsets b xs)
width_of_offsets b xs =
    let one : greatest (length (packed_of b xs) ∷ []) ≡ greatest (block_offsets b xs) =
    omega (arith, greatest_offset b xs) in
    ap (λ (n : ℕ). max 1 (digits n)) one
