-- Adding a string to a section writer.
use Rattle.std.proofs.Common.{◌≡◌, ℕ, suc, ◌+◌, ◌<◌, ◌≤◌, ◌^◌, cond, List, [], ◌∷◌, ◌++◌, length, get_or, refl, sym, ap}
use Rattle.std.proofs.Common.{subst, ◌∙◌, arith, append_assoc, append-nil, add-zero, zero-add, length-append}
use Rattle.std.specs.List.{All, concat}
use Rattle.std.proofs.lemmas.List.Elements.{All-nil, All-push}
use Rattle.std.proofs.lemmas.List.Folds.{concat-append}
use Rattle.hdt_wire.specs.Control.{HasNoZero}
use Rattle.hdt_wire.specs.Checks.{HasSlice}
use Rattle.hdt_wire.specs.Laws.Checks.{HasSlice-after}
use Rattle.hdt_front.specs.Decoding.{is_block_start, after_entry, decoded_strings}
use Rattle.hdt_front.specs.Laws.FrontCodingSteps.{AreEntries}
use Rattle.hdt_front.specs.Laws.FrontCoding.{nonzero_to}
use Rattle.hdt_front.specs.Laws.StringSteps.{length-decoded_strings}
use Rattle.hdt_front.specs.Laws.ChecksComplete.{entry_decodes}
use Rattle.hdt_front.specs.Section.{AreSectionStrings, IsSectionAt, before}
use Rattle.hdt_front.specs.SectionWriting.{section_encoding}
use Rattle.hdt_front.specs.Canonical.{encode_entry, encode_entries, block_offsets_from, packed_of, block_offsets}
use Rattle.hdt_front.specs.Canonical.{canonical, canonical_parts}
use Rattle.hdt_front.specs.Laws.Canonical.{entry_count, enough_bytes, front_coded, canonical_encoded}
use Rattle.hdt_front.specs.Inside.WriterFields.{starts_without_end, IsWriterState}

-- ---- entries decode to their strings

decode_entries : (b i : ℕ) (last : List ℕ) (strings entries : List (List ℕ)) → AreEntries b i last strings entries
    → All HasNoZero strings → decoded_strings b (length strings) i last (concat entries) ≡ strings
unfolding AreEntries decoded_strings
decode_entries b i last [] [] each clean = refl
decode_entries b i last [] (p ∷ entries) each clean = absurd each
decode_entries b i last (s ∷ strings) [] each clean = absurd each
decode_entries b i last (s ∷ strings) (p ∷ entries) each clean =
    let h = entry_decodes (is_block_start b i) last s p (p ++ concat entries) (concat entries) each.0
    (nonzero_to s (clean 0 [] (omega arith))) refl in
    ap (λ (x : List ℕ). x ∷ decoded_strings b (length strings) (i + 1) x
    (after_entry (is_block_start b i) (p ++ concat entries))) h.string_is
    ∙ ap (λ (x : List ℕ). s ∷ decoded_strings b (length strings) (i + 1) s x) h.after_is
    ∙ ap (λ (xs : List (List ℕ)). s
    ∷ xs) (decode_entries b (i + 1) s strings entries each.1 (λ k d lt. clean (suc k) d (omega (arith, lt))))

unfolds : (b : ℕ) (strings : List (List ℕ)) → 1 ≤ b → All HasNoZero strings → length (packed_of b strings) < 2 ^ 64
    → decoded_strings b (length strings) 0 [] (packed_of b strings) ≡ strings
unfolds b strings some clean small =
    let f = front_coded b strings some small in
    ap (decoded_strings b (length strings) 0 []) f.joined ∙ decode_entries b 0 [] strings f.entries f.each clean

-- ---- one more string

pieces_more : (b i : ℕ) (last : List ℕ) (strings : List (List ℕ)) (s : List ℕ)
    → encode_entries b i last (strings ++ s ∷ []) ≡ encode_entries b i last strings
    ++ encode_entry (is_block_start b (i + length strings)) (get_or (last ∷ strings) (length strings) []) s ∷ []
unfolding encode_entries
pieces_more b i last [] s = ap (λ n. encode_entry (is_block_start b n) last s ∷ []) (sym (add-zero i))
pieces_more b i last (x ∷ strings) s =
    let next : (i + 1) + length strings ≡ i + suc (length strings) = omega arith in
    let p : List ℕ = encode_entry (is_block_start b i) last x in
    ap (λ l. p ∷ l) (pieces_more b (i + 1) x strings s)
    ∙ ap (λ n. p ∷ (encode_entries b (i + 1) x strings
    ++ encode_entry (is_block_start b n) (get_or (x ∷ strings) (length strings) []) s ∷ [])) next

heads_more : (b i at : ℕ) (entries : List (List ℕ)) (p : List ℕ)
    → starts_without_end b i at (entries ++ p ∷ []) ≡ starts_without_end b i at entries
    ++ cond (is_block_start b (i + length entries)) ((at + length (concat entries)) ∷ []) []
unfolding starts_without_end
heads_more b i at [] p =
    append-nil (cond (is_block_start b i) (at ∷ []) [])
    ∙ ap (λ (n : ℕ). cond (is_block_start b n) (at ∷ []) []) (sym (add-zero i))
    ∙ ap (λ (n : ℕ). cond (is_block_start b (i + 0)) (n ∷ []) []) (sym (add-zero at))
heads_more b i at (x ∷ entries) p =
    let next : (i + 1) + length entries ≡ i + suc (length entries) = omega arith in
    let place : at + length x + length (concat entries) ≡ at + length (x ++ concat entries) =
    omega (arith, length-append x (concat entries)) in
    let first : List ℕ = cond (is_block_start b i) (at ∷ []) [] in
    let rest : List ℕ = starts_without_end b (i + 1) (at + length x) entries in
    ap (λ l. first ++ l) (heads_more b (i + 1) (at + length x) entries p)
    ∙ ap (λ (n : ℕ). first
    ++ (rest ++ cond (is_block_start b n) ((at + length x + length (concat entries)) ∷ []) [])) next
    ∙ ap (λ (n : ℕ). first ++ (rest ++ cond (is_block_start b (i + suc (length entries))) (n ∷ []) [])) place
    ∙ sym (append_assoc first rest
    (cond (is_block_start b (i + suc (length entries))) ((at + length (x ++ concat entries)) ∷ []) []))

pub none_kept : (b : ℕ) → 1 ≤ b → b < 2 ^ 32 → IsWriterState b (decoded_strings b 0 0 [] []) [] [] []
unfolding decoded_strings starts_without_end encode_entries
none_kept b some fits = record {
  block = some;
  fits = fits;
  no_zero = All-nil HasNoZero;
  last = refl;
  starts = refl;
  packed = refl;
}

module _ (b : ℕ) (strings : List (List ℕ)) (s last starts packed : List ℕ)
    (h : IsWriterState b strings last starts packed) where
  next_packed : (new : List ℕ) → new ≡ packed ++ encode_entry (is_block_start b (length strings)) last s
      → new ≡ packed_of b (strings ++ s ∷ [])
  next_packed new e =
      let entry : List ℕ = encode_entry (is_block_start b (length strings)) (before strings (length strings)) s in
      e ∙ ap (λ x. packed ++ encode_entry (is_block_start b (length strings)) x s) h.last
      ∙ ap (λ l. l ++ entry) h.packed
      ∙ ap (λ l. concat (encode_entries b 0 [] strings) ++ l) (sym (append-nil entry))
      ∙ sym (concat-append (encode_entries b 0 [] strings) (entry ∷ []))
      ∙ ap (λ (n : ℕ). concat (encode_entries b 0 [] strings
      ++ encode_entry (is_block_start b n) (before strings (length strings)) s ∷ [])) (sym (zero-add (length strings)))
      ∙ ap concat (sym (pieces_more b 0 [] strings s))

  next_starts : (new : List ℕ) → new ≡ starts ++ cond (is_block_start b (length strings)) (length packed ∷ []) []
      → new ≡ starts_without_end b 0 0 (encode_entries b 0 [] (strings ++ s ∷ []))
  next_starts new e =
      let entries : List (List ℕ) = encode_entries b 0 [] strings in
      let n : 0 + length entries ≡ length strings = omega (arith, entry_count b 0 [] strings) in
      let place : length packed ≡ 0 + length (concat entries) = ap length h.packed ∙ sym (zero-add _) in
      e ∙ ap (λ l. l ++ cond (is_block_start b (length strings)) (length packed ∷ []) []) h.starts
      ∙ ap (λ (k : ℕ). starts_without_end b 0 0 entries ++ cond (is_block_start b (length strings)) (k ∷ []) []) place
      ∙ ap (λ (k : ℕ). starts_without_end b 0 0 entries
      ++ cond (is_block_start b k) ((0 + length (concat entries)) ∷ []) [])
      (sym n)
      ∙ sym (heads_more b 0 0 entries
      (encode_entry (is_block_start b (0 + length strings)) (before strings (length strings)) s))
      ∙ ap (starts_without_end b 0 0) (sym (pieces_more b 0 [] strings s))

-- The state after adding a string.
pub record OneMore (b n : ℕ) (strings : List (List ℕ)) (s last starts packed : List ℕ) : Type 0 where
  pub strings_are : decoded_strings b (n + 1) 0 [] packed ≡ strings ++ s ∷ []
  pub kept : IsWriterState b (decoded_strings b (n + 1) 0 [] packed) last starts packed

pub one_more : (b n : ℕ) (s last starts packed last' starts' packed' : List ℕ)
    → IsWriterState b (decoded_strings b n 0 [] packed) last starts packed → HasNoZero s → length packed' < 2 ^ 64
    → packed' ≡ packed ++ encode_entry (is_block_start b n) last s
    → starts' ≡ starts ++ cond (is_block_start b n) (length packed ∷ []) [] → last' ≡ s
    → OneMore b n (decoded_strings b n 0 [] packed) s last' starts' packed'
one_more b n s last starts packed last' starts' packed' h clean small ep es el =
    let strings : List (List ℕ) = decoded_strings b n 0 [] packed in
    let many : n ≡ length (decoded_strings b n 0 [] packed) = sym (length-decoded_strings b n 0 [] packed) in
    let all : List (List ℕ) = strings ++ s ∷ [] in
    let p = next_packed b strings s last starts packed h packed' (ep
    ∙ ap (λ (k : ℕ). packed ++ encode_entry (is_block_start b k) last s) many) in
    let st = next_starts b strings s last starts packed h starts' (es
    ∙ ap (λ (k : ℕ). starts ++ cond (is_block_start b k) (length packed ∷ []) []) many) in
    let none = All-push HasNoZero strings s h.no_zero clean in
    let long : n + 1 ≡ length all = omega (arith, many, length-append strings (s ∷ [])) in
    let are : decoded_strings b (n + 1) 0 [] packed' ≡ all = ap (λ (k : ℕ). decoded_strings b k 0 [] packed') long
    ∙ ap (decoded_strings b (length all) 0 []) p ∙ unfolds b all h.block none (omega (arith, ap length p, small)) in
    record {
      strings_are = are;
      kept = subst (λ (l : List (List ℕ)). IsWriterState b l last' starts' packed') (sym are)
          (record {
            block = h.block;
            fits = h.fits;
            no_zero = none;
            last = el ∙ last_is strings s;
            starts = st;
            packed =
                p;
          });
    }
  where
    last_is : (strings : List (List ℕ)) (s : List ℕ) → s ≡ before (strings ++ s ∷ []) (length (strings ++ s ∷ []))
    last_is [] s = refl
    last_is (x ∷ strings) s = last_from x strings s
      where
        last_from : (x : List ℕ) (strings : List (List ℕ)) (s : List ℕ)
            → s ≡ get_or (x ∷ (strings ++ s ∷ [])) (length (strings ++ s ∷ [])) []
        last_from x [] s = refl
        last_from x (y ∷ strings) s = last_from y strings s

-- Each string takes at least one byte.
pub few : (b n : ℕ) (last starts packed : List ℕ) → IsWriterState b (decoded_strings b n 0 [] packed) last starts packed
    → n ≤ length packed
few b n last starts packed h =
    omega (
      arith,
      length-decoded_strings b n 0 [] packed,
      enough_bytes b 0 [] (decoded_strings b n 0 [] packed),
      ap length h.packed,
    )

-- ---- the section

starts_are : (b i at : ℕ) (entries : List (List ℕ))
    → starts_without_end b i at entries ++ (at + length (concat entries)) ∷ [] ≡ block_offsets_from b i at entries
unfolding starts_without_end block_offsets_from
starts_are b i at [] = ap (λ (n : ℕ). n ∷ []) (add-zero at)
starts_are b i at (x ∷ entries) =
    let place : at + length (x ++ concat entries) ≡ at + length x + length (concat entries) =
    omega (arith, length-append x (concat entries)) in
    let first : List ℕ = cond (is_block_start b i) (at ∷ []) [] in
    let rest : List ℕ = starts_without_end b (i + 1) (at + length x) entries in
    append_assoc first rest ((at + length (x ++ concat entries)) ∷ []) ∙ ap (λ (n : ℕ). first ++ (rest ++ n ∷ [])) place
    ∙ ap (λ l. first ++ l) (starts_are b (i + 1) (at + length x) entries)

pub all_starts : (b : ℕ) (strings : List (List ℕ)) (last starts packed : List ℕ)
    → IsWriterState b strings last starts packed → starts ++ length packed ∷ [] ≡ block_offsets b strings
all_starts b strings last starts packed h =
    let place : length packed ≡ 0 + length (packed_of b strings) = ap length h.packed ∙ sym (zero-add _) in
    ap (λ (n : ℕ). starts ++ n ∷ []) place ∙ ap (λ l. l ++ (0 + length (packed_of b strings)) ∷ []) h.starts
    ∙ starts_are b 0 0 (encode_entries b 0 [] strings)

-- The canonical section is appended.
pub all_are : (b n : ℕ) (last starts packed starts' packed' old new : List ℕ)
    → IsWriterState b (decoded_strings b n 0 [] packed) last starts packed → starts' ≡ starts ++ length packed ∷ []
    → packed' ≡ packed
    → new ≡ old ++ section_encoding n b starts' packed' → new ≡ old ++ canonical b (decoded_strings b n 0 [] packed)
unfolding canonical
all_are b n last starts packed starts' packed' old new h es ep e =
    let strings : List (List ℕ) = decoded_strings b n 0 [] packed in
    e ∙ ap (λ (k : ℕ). old ++ section_encoding k b starts' packed') (sym (length-decoded_strings b n 0 [] packed))
    ∙ ap (λ (l : List ℕ). old ++ section_encoding (length strings) b l packed') (es
    ∙ all_starts b strings last starts packed h)
    ∙ ap (λ (l : List ℕ). old ++ section_encoding (length strings) b (block_offsets b strings) l) (ep ∙ h.packed)

-- The appended bytes are a section.
pub section_appended : (b : ℕ) (strings : List (List ℕ)) (old new : List ℕ) → 1 ≤ b → b < 2 ^ 64
    → AreSectionStrings strings → length new < 2 ^ 64 → new ≡ old ++ canonical b strings
    → IsSectionAt (canonical_parts b strings (length old)) new (length old)
section_appended b strings old new some low are small e =
    canonical_encoded b strings new (length old) (length old + length (canonical b strings)) some low are small
    (subst (λ (l : List ℕ). HasSlice l (length old) (canonical b strings) (length old + length (canonical b strings)))
    (append-nil (old ++ canonical b strings) ∙ sym e) (HasSlice-after old (canonical b strings) []))
