-- The checks of a section are sound and complete: they accept exactly the sections that are encoded at the offset.
use Rattle.std.proofs.Common.{◌≡◌, ◌⊎◌, ℕ, zero, suc, ◌+◌, ◌*◌, ◌<◌, ◌||◌, true, false, not, List, [], ◌∷◌, ◌++◌}
use Rattle.std.proofs.Common.{length, slice_index, eqb, ltb, leb, Ok, inl, inr, refl, ap, subst, ◌∙◌, arith}
use Rattle.std.specs.Prelude.{slice_range}
use Rattle.std.specs.List.{concat}
use Rattle.byteorder.specs.Endian.{little_bytes}
use Rattle.hdt_wire.specs.Crc.{crc8, crc32}
use Rattle.std.proofs.lemmas.Bool.{eqb-true, ltb-true, lt-ltb, leb-true}
use Rattle.std.proofs.lemmas.Bool.Decides.{Decides-eqb, nat_tests}
use Rattle.hdt_wire.specs.declared.fault.Reason.TheVariants.{SectionKind, BlockSize, PackedLength, BlockCount}
use Rattle.hdt_wire.specs.declared.fault.Reason.TheVariants.{BlockPlace}
use Rattle.hdt_wire.specs.Checks.{IsBytes, HasSlice}
use Rattle.hdt_wire.specs.Laws.Checks.{demand_ok, bind_ok, HasSlice-front}
use Rattle.hdt_wire.specs.VByte.{vbyte_at}
use Rattle.hdt_seq.specs.Sequence.{entry_offset, byte_at, crc8_at, packed_at}
use Rattle.hdt_seq.specs.Laws.Sequence.{slice_is_bytes}
use Rattle.hdt_seq.specs.Numbers.{numbers_at}
use Rattle.hdt_wire.specs.Exact.{Exactly}
use Rattle.hdt_wire.specs.Laws.Exact.{holds_of_ok}
use Rattle.hdt_wire.specs.VByte.{IsVByteAt}
use Rattle.hdt_wire.specs.Laws.ExactPrimitives.{number_exact}
use Rattle.hdt_seq.specs.ExactSequences.{IsLogSequenceAt}
use Rattle.hdt_seq.specs.Laws.ExactSequences.{byte_exact, crc8_exact, packed_exact, numbers_exact}
use Rattle.hdt_front.specs.Decoding.{decoded_strings}
use Rattle.hdt_front.specs.Laws.FrontCodingSteps.{IsFrontCodedFrom, AreEntries, NoZero, Ascending}
use Rattle.hdt_front.specs.StringChecks.{BlockLayout, strings_check}
use Rattle.hdt_front.specs.Laws.StringSteps.{length-decoded_strings}
use Rattle.hdt_front.specs.Laws.ChecksSound.{found_from}
use Rattle.hdt_front.specs.Laws.ChecksComplete.{strings_only}
use Rattle.hdt_front.specs.Laws.FrontCoding.{front_coded_found, front_coded_only, strings_are, strings_ascend}
use Rattle.hdt_front.specs.Section.{AreSectionStrings, SectionParts, SectionPreamble, PackedParts, HasBlockOffsets}
use Rattle.hdt_front.specs.Section.{IsSectionAt, is_start_count, block_layout_with, preamble_at, packed_parts_at}
use Rattle.hdt_front.specs.Section.{section_at}

-- ---- the checks of the numbers

later : (n : ℕ) → eqb (suc n) 0 ≡ false
later n = grind (arith, nat_tests)

some_found : (n b : ℕ) → (eqb n 0 || ltb 0 b) ≡ true → 0 < n → 0 < b
some_found zero b e lt = absurd (omega (arith, lt))
some_found (suc n) b e lt = ltb-true 0 b (rw later at e)

some_only : (n b : ℕ) → (0 < n → 0 < b) → (eqb n 0 || ltb 0 b) ≡ true
some_only zero b h = refl
some_only (suc n) b h = rw later (lt-ltb 0 b (h (omega arith)))

one_or_none : (starts : List ℕ) → leb (length starts) 1 ≡ true → slice_index starts 0 ≡ 0
    → (starts ≡ []) ⊎ (starts ≡ 0 ∷ [])
one_or_none [] few first = inl refl
one_or_none (x ∷ []) few first = inr (ap (λ (y : ℕ). y ∷ []) first)
one_or_none (x ∷ y ∷ xs) few first = let le = leb-true _ _ few in absurd (omega (arith, le))

starts_found : (n b : ℕ) (starts : List ℕ) → is_start_count n b (length starts) ≡ true
    → (not (eqb n 0) || eqb (slice_index starts 0) 0) ≡ true → HasBlockOffsets n b starts
starts_found zero b starts e f = one_or_none starts e (eqb-true _ _ f)
starts_found (suc n) b starts e f = eqb-true _ _ e

starts_only : (n b : ℕ) (starts : List ℕ) → HasBlockOffsets n b starts → (is_start_count n b (length starts) ≡ true)
    × ((not (eqb n 0) || eqb (slice_index starts 0) 0) ≡ true)
starts_only zero b starts (inl e) =
    (ap (λ (l : List ℕ). leb (length l) 1) e, ap (λ (l : List ℕ). eqb (slice_index l 0) 0) e)
starts_only zero b starts (inr e) =
    (ap (λ (l : List ℕ). leb (length l) 1) e, ap (λ (l : List ℕ). eqb (slice_index l 0) 0) e)
starts_only (suc n) b starts e = ((Decides-eqb _ _).1 e, rw later refl)

no_pieces : (b : ℕ) (packed : List ℕ) (entries : List (List ℕ)) → AreEntries b 0 [] [] entries → packed ≡ concat entries
    → packed ≡ []
unfolding AreEntries
no_pieces b packed [] each e = e
no_pieces b packed (x ∷ xs) each e = absurd each

-- Without strings there are no front-coded bytes.
nothing_packed : (b at : ℕ) (strings : List (List ℕ)) (packed starts : List ℕ)
    → IsFrontCodedFrom b 0 at [] strings packed starts → (not (eqb (length strings) 0) || eqb (length packed) 0) ≡ true
nothing_packed b at [] packed starts h = (Decides-eqb _ _).1 (ap length (no_pieces b packed h.entries h.each h.joined))
nothing_packed b at (x ∷ xs) packed starts h = rw later refl

-- ---- the section

strings_found : (p : BlockLayout) (n : ℕ) (packed : List ℕ) → p.size ≡ length packed → IsBytes packed → {u : Unit {0}}
    → strings_check p n 0 [] packed ≡ Ok u
    → IsFrontCodedFrom p.block_size 0 0 [] (decoded_strings p.block_size n 0 [] packed) packed p.block_offsets
    × Ascending 0 [] (decoded_strings p.block_size n 0 [] packed)
unfolding NoZero
strings_found p n packed size bs e = found_from p n 0 0 [] packed (omega (arith, size)) tt bs e

-- The decoded strings of checked bytes can form a section.
pub strings_ascend_in : (p : BlockLayout) (n : ℕ) (packed : List ℕ) → p.size ≡ length packed → IsBytes packed
    → strings_check p n 0 [] packed ≡ Ok tt → AreSectionStrings (decoded_strings p.block_size n 0 [] packed)
strings_ascend_in p n packed size bs e =
    strings_are (decoded_strings p.block_size n 0 [] packed) (strings_found p n packed size bs e).1

-- The preamble is encoded at the offset.
pub record IsPreamble (h : SectionPreamble) (bytes : List ℕ) (at : ℕ) : Type 0 where
  pub size_offset : ℕ
  pub block_size_offset : ℕ
  pub crc_offset : ℕ
  pub kind : HasSlice bytes at (2 ∷ []) (at + 1)
  pub count : IsVByteAt h.count bytes (at + 1) size_offset
  pub size : IsVByteAt h.size bytes size_offset block_size_offset
  pub block : IsVByteAt h.block_size bytes block_size_offset crc_offset
  pub code : HasSlice bytes crc_offset (crc8 (slice_range bytes at crc_offset) ∷ []) h.starts_offset
  pub some : 0 < h.count → 0 < h.block_size
  pub none : (not (eqb h.count 0) || eqb h.size 0) ≡ true

head_exact : (bytes : List ℕ) (at : ℕ) → IsBytes bytes → Exactly (preamble_at bytes at) (λ h. IsPreamble h bytes at)
unfolding preamble_at
head_exact bytes at fits = record {
  found = λ h e.
      bind_ok (byte_at bytes at) _ _ e (λ kind e1 e. demand_ok (eqb kind.0 2) at SectionKind _ _ e (λ h1 e.
      bind_ok (vbyte_at bytes kind.1) _ _ e (λ count e2 e.
      bind_ok (vbyte_at bytes count.1) _ _ e (λ size e3 e.
      bind_ok (vbyte_at bytes size.1) _ _ e (λ block e4 e.
      bind_ok (crc8_at bytes at block.1) _ _ e (λ start e5 e.
      demand_ok (eqb count.0 0 || ltb 0 block.0) size.1 BlockSize _ _ e (λ h2 e.
      demand_ok (not (eqb count.0 0) || eqb size.0 0) count.1 PackedLength _ _ e (λ h3 e.
      let k0 = (byte_exact bytes at).found kind e1 in
      let k1 : kind.1 ≡ at + 1 = k0.end_is in
      let k : HasSlice bytes at (2 ∷ []) (at + 1) =
      subst (λ (y : ℕ × ℕ). HasSlice bytes at (y.0 ∷ []) y.1) (ap (λ (b : ℕ). (b, kind.1)) (eqb-true _ _ h1)
      ∙ ap (λ (i : ℕ). (2, i)) k1) k0 in
      holds_of_ok (λ (h : SectionPreamble). IsPreamble h bytes at) _ _ e (record {
        size_offset = count.1;
        block_size_offset = size.1;
        crc_offset = block.1;
        kind = k;
        count = rw (← k1) ((number_exact bytes kind.1 fits).found count e2);
        size = (number_exact bytes count.1 fits).found size e3;
        block = (number_exact bytes size.1 fits).found block e4;
        code = (crc8_exact bytes at block.1).found start e5;
        some = some_found count.0 block.0 h2;
        none = h3;
      })))))))));
  only = λ p h.
      let r1 = (byte_exact bytes at).only (2, at + 1) h.kind in
      let r2 = (number_exact bytes (at + 1) fits).only (p.count, h.size_offset) h.count in
      let r3 = (number_exact bytes h.size_offset fits).only (p.size, h.block_size_offset) h.size in
      let r4 = (number_exact bytes h.block_size_offset fits).only (p.block_size, h.crc_offset) h.block in
      let r5 = (crc8_exact bytes at h.crc_offset).only p.starts_offset h.code in
      let t1 = some_only p.count p.block_size h.some in
      rw (r1, r2, r3, r4, r5, t1, h.none) refl;
}

-- The parts before the strings are encoded at the offset.
pub record AreParts (p : PackedParts) (bytes : List ℕ) (at : ℕ) : Type 0 where
  pub starts_offset : ℕ
  pub head : IsPreamble (record {
    count = p.count;
    size = length p.packed;
    block_size = p.block_size;
    starts_offset =
        starts_offset;
  }) bytes at
  pub block_offsets_at : IsLogSequenceAt p.starts bytes starts_offset
  pub started : HasBlockOffsets p.count p.block_size p.starts.items
  pub packed : HasSlice bytes p.starts.end (p.packed ++ little_bytes 4 (crc32 p.packed)) p.end

parts_exact : (bytes : List ℕ) (at : ℕ) → IsBytes bytes → Exactly (packed_parts_at bytes at) (λ p. AreParts p bytes at)
unfolding packed_parts_at
parts_exact bytes at fits = record {
  found = λ p e.
      bind_ok (preamble_at bytes at) _ _ e (λ head e1 e.
      bind_ok (numbers_at bytes head.starts_offset) _ _ e (λ starts e2 e.
      demand_ok (is_start_count head.count head.block_size (length starts.items)) starts.offsets.count BlockCount _ _ e
      (λ h1 e.
      demand_ok (not (eqb head.count 0) || eqb (slice_index starts.items 0) 0)
      (entry_offset starts.offsets 0) BlockPlace _ _ e (λ h2 e.
      bind_ok (packed_at (8 * head.size) bytes starts.end) _ _ e (λ packed e3 e.
      let p = (packed_exact head.size bytes starts.end fits).found packed e3 in
      holds_of_ok (λ (p : PackedParts). AreParts p bytes at) _ _ e (record {
        starts_offset = head.starts_offset;
        head = rw p.1 ((head_exact bytes at fits).found head e1);
        block_offsets_at = (numbers_exact bytes head.starts_offset fits).found starts e2;
        started = starts_found head.count head.block_size starts.items h1 h2;
        packed = p.0;
      }))))));
  only = λ p h.
      let r1 = (head_exact bytes at fits).only _ h.head in
      let r2 = (numbers_exact bytes h.starts_offset fits).only p.starts h.block_offsets_at in
      let t = starts_only p.count p.block_size p.starts.items h.started in
      let r3 = (packed_exact (length p.packed) bytes p.starts.end fits).only (p.packed, p.end) (h.packed, refl) in
      rw (r1, r2, t.0, t.1, r3) refl;
}

pub section_exact : (bytes : List ℕ) (at : ℕ) → IsBytes bytes
    → Exactly (section_at bytes at) (λ s. IsSectionAt s bytes at)
unfolding section_at
section_exact bytes at fits = record {
  found = λ s e.
      bind_ok (packed_parts_at bytes at) _ _ e (λ p e1 e.
      bind_ok (strings_check (block_layout_with p.starts p.block_size (length p.packed)) p.count 0 [] p.packed) _ _ e
      (λ u e2 e.
      let h = (parts_exact bytes at fits).found p e1 in
      let n : length (decoded_strings p.block_size p.count 0 [] p.packed) ≡ p.count =
      length-decoded_strings p.block_size p.count 0 [] p.packed in
      let f = strings_found (block_layout_with p.starts p.block_size (length p.packed)) p.count p.packed refl
      (slice_is_bytes bytes p.starts.end p.packed _ fits
      (HasSlice-front bytes p.starts.end p.packed _ p.end h.packed)) e2 in
      holds_of_ok (λ (s : SectionParts). IsSectionAt s bytes at) _ _ e (record {
        size_offset = h.head.size_offset;
        block_size_offset = h.head.block_size_offset;
        crc_offset = h.head.crc_offset;
        starts_offset = h.starts_offset;
        starts = p.starts;
        kind = h.head.kind;
        count = rw n h.head.count;
        size = h.head.size;
        block = h.head.block;
        code = h.head.code;
        some = rw n h.head.some;
        block_offsets_at = h.block_offsets_at;
        started = rw n h.started;
        width = refl;
        packed_begins = refl;
        packed = h.packed;
        front_coded = front_coded_found p.block_size _ p.packed p.starts.items f.0;
        strings = strings_are _ f.1;
      })));
  only = λ s h.
      let folds = front_coded_only s.block_size s.strings s.packed h.starts.items h.front_coded in
      let p : PackedParts = record {
        count = length s.strings;
        block_size = s.block_size;
        starts = h.starts;
        packed =
            s.packed;
        end = s.end;
      } in
      let r1 = (parts_exact bytes at fits).only p (record {
        starts_offset = h.starts_offset;
        head = record {
          size_offset = h.size_offset;
          block_size_offset = h.block_size_offset;
          crc_offset = h.crc_offset;
          kind = h.kind;
          count = h.count;
          size = h.size;
          block = h.block;
          code = h.code;
          some = h.some;
          none = nothing_packed s.block_size 0 s.strings s.packed h.starts.items folds;
        };
        block_offsets_at = h.block_offsets_at;
        started = h.started;
        packed = subst (λ (i : ℕ). HasSlice bytes i (s.packed ++ little_bytes 4 (crc32 s.packed)) s.end) h.packed_begins
            h.packed;
      }) in
      let r2 = strings_only (block_layout_with h.starts s.block_size (length s.packed)) s.strings s.packed refl folds
      (strings_ascend s.strings h.strings) in
      rw (r1, r2.0, r2.1, ← h.packed_begins, ← h.width) refl;
}
