-- The canonical bytes of strings encode their section.
use Rattle.std.proofs.Common.{◌≡◌, ◌≢◌, ℕ, zero, suc, ◌+◌, ◌-◌, ◌*◌, ◌/◌, ◌%◌, ◌<◌, ◌≤◌, ◌^◌, Bool, true, false, cond}
use Rattle.std.proofs.Common.{List, [], ◌∷◌, ◌++◌, length, take, drop, get_or, nat_eq, min, inr, refl, sym, ap, subst}
use Rattle.std.proofs.Common.{◌∙◌, arith, Ok, length-append, length-drop, eqb-true, append_assoc}
use Rattle.std.specs.List.{concat, common_prefix_len}
use Rattle.std.proofs.Math.Nat.{mod-lt, div-eq_of_lt, mul-le-mul_left}
use Rattle.std.proofs.Math.Seq.{get_or-append_seam}
use Rattle.std.proofs.lemmas.Nat.{div-mul-add, div-add-mod'}
use Rattle.std.proofs.lemmas.Bool.{eqb-false}
use Rattle.std.proofs.lemmas.List.Sums.{common_prefix_len-le}
use Rattle.byteorder.specs.Endian.{little_bytes}
use Rattle.hdt_wire.specs.Crc.{crc8, crc32}
use Rattle.hdt_wire.specs.Checks.{IsBytes, HasSlice}
use Rattle.hdt_wire.specs.Laws.Checks.{HasSlice-after}
use Rattle.hdt_wire.specs.VByte.{vbyte}
use Rattle.hdt_wire.specs.Laws.VByte.{vbyte_encodes}
use Rattle.hdt_seq.specs.Numbers.{numbers_encoding}
use Rattle.hdt_seq.specs.Width.{width_of}
use Rattle.hdt_front.specs.Decoding.{is_block_start}
use Rattle.hdt_front.specs.FrontCoding.{IsEntry}
use Rattle.hdt_front.specs.Laws.FrontCodingSteps.{AreEntries, AreBlockStarts, IsFrontCodedFrom}
use Rattle.hdt_front.specs.Laws.FrontCoding.{front_coded_found}
use Rattle.hdt_front.specs.Section.{HasBlockOffsets, AreSectionStrings, IsSectionAt, section_at}
use Rattle.hdt_front.specs.Laws.Section.{section_exact}
use Rattle.hdt_front.specs.SectionWriting.{CanBeWritten, section_preamble}
use Rattle.hdt_front.specs.Laws.SectionWriting.{section_encoded}
use Rattle.hdt_front.specs.Canonical.{encode_entry, encode_entries, block_offsets_from, packed_of, block_offsets}
use Rattle.hdt_front.specs.Canonical.{canonical, canonical_parts}

-- ---- entries

agree_step : (e : Bool) (x y n : ℕ) (xs ys : List ℕ) → (e ≡ true → x ≡ y) → take n xs ≡ take n ys
    → take (cond e (1 + n) 0) (x ∷ xs) ≡ take (cond e (1 + n) 0) (y ∷ ys)
agree_step true x y n xs ys same rest =
    let one : 1 + n ≡ suc n = omega arith in
    ap (λ (k : ℕ). take k (x ∷ xs)) one ∙ ap (λ (c : ℕ). c ∷ take n xs) (same refl) ∙ ap (λ (l : List ℕ). y ∷ l) rest
    ∙ sym (ap (λ (k : ℕ). take k (y ∷ ys)) one)
agree_step false x y n xs ys same rest = refl

-- The bytes of the common prefix are equal.
pub front_agrees : (x y : List ℕ) → take (common_prefix_len nat_eq x y) x ≡ take (common_prefix_len nat_eq x y) y
front_agrees [] y = refl
front_agrees (b ∷ x) [] = refl
front_agrees (b ∷ x) (c ∷ y) =
    agree_step (nat_eq b c) b c (common_prefix_len nat_eq x y) x y (eqb-true b c) (front_agrees x y)

piece_is : (h : Bool) (before string : List ℕ) → common_prefix_len nat_eq before string < 2 ^ 64
    → IsEntry h before string (encode_entry h before string)
unfolding encode_entry
piece_is true before string small = refl
piece_is false before string small = record {
  prefix_len = common_prefix_len nat_eq before string;
  front = vbyte (common_prefix_len nat_eq before string);
  spelled = vbyte_encodes (common_prefix_len nat_eq before string) small;
  small = small;
  fits = (common_prefix_len-le nat_eq before string).0;
  agree = front_agrees before string;
  is = refl;
}

-- A string is no longer than the previous string and its entry together.
longer : (h : Bool) (before string : List ℕ) → length string + 1 ≤ length before + length (encode_entry h before string)
unfolding encode_entry
longer true before string = omega (arith, length-append string (0 ∷ []))
longer false before string =
    let k : ℕ = common_prefix_len nat_eq before string in
    omega (
      arith,
      (common_prefix_len-le nat_eq before string).0,
      length-append (vbyte k) (drop k string ++ 0 ∷ []),
      length-append (drop k string) (0 ∷ []),
      length-drop k string,
    )

-- An entry has at least one byte.
some_byte : (h : Bool) (before string : List ℕ) → 1 ≤ length (encode_entry h before string)
unfolding encode_entry
some_byte true before string = omega (arith, length-append string (0 ∷ []))
some_byte false before string =
    let k : ℕ = common_prefix_len nat_eq before string in
    omega (arith, length-append (vbyte k) (drop k string ++ 0 ∷ []), length-append (drop k string) (0 ∷ []))

pieces_are : (b i at : ℕ) (before : List ℕ) (strings : List (List ℕ)) → length before ≤ at
    → at + length (concat (encode_entries b i before strings)) < 2 ^ 64
    → AreEntries b i before strings (encode_entries b i before strings)
unfolding AreEntries encode_entries
pieces_are b i at before [] le lt = tt
pieces_are b i at before (s ∷ strings) le lt =
    let p : List ℕ = encode_entry (is_block_start b i) before s in
    let size = length-append p (concat (encode_entries b (i + 1) s strings)) in
    let l = longer (is_block_start b i) before s in (
      piece_is (is_block_start b i) before s (omega (arith, (common_prefix_len-le nat_eq before s).0, size, le, lt)),
      pieces_are b (i + 1) (at + length p) s strings (omega (arith, l, le)) (omega (arith, size, lt)),
    )

pub entry_count : (b i : ℕ) (before : List ℕ) (strings : List (List ℕ))
    → length (encode_entries b i before strings) ≡ length strings
unfolding encode_entries
entry_count b i before [] = refl
entry_count b i before (s ∷ strings) = ap suc (entry_count b (i + 1) s strings)

-- Each entry takes at least one byte.
pub enough_bytes : (b i : ℕ) (before : List ℕ) (strings : List (List ℕ))
    → length strings ≤ length (concat (encode_entries b i before strings))
unfolding encode_entries
enough_bytes b i before [] = omega arith
enough_bytes b i before (s ∷ strings) =
    let p : List ℕ = encode_entry (is_block_start b i) before s in
    omega (
      arith,
      length-append p (concat (encode_entries b (i + 1) s strings)),
      some_byte (is_block_start b i) before s,
      enough_bytes b (i + 1) s strings,
    )

-- ---- block offsets

ceil_by : (q r b : ℕ) → r < b → (q * b + r + (b - 1)) / b ≡ q + min 1 r
ceil_by q zero b h =
    let e : q * b + 0 + (b - 1) ≡ q * b + (b - 1) = omega arith in
    let same : q ≡ q + min 1 0 = omega arith in
    ap (λ k. k / b) e ∙ div-mul-add q b (b - 1) (omega (arith, h)) ∙ same
ceil_by q (suc r) b h =
    let e : q * b + suc r + (b - 1) ≡ (q + 1) * b + r = omega (arith, h) in
    let same : q + 1 ≡ q + min 1 (suc r) = omega arith in
    ap (λ k. k / b) e ∙ div-mul-add (q + 1) b r (omega (arith, h)) ∙ same

-- The number of blocks of i strings.
blocks : (b i : ℕ) → 1 ≤ b → (i + (b - 1)) / b ≡ i / b + min 1 (i % b)
blocks b i some = ap (λ k. (k + (b - 1)) / b) (sym (div-add-mod' i b)) ∙ ceil_by (i / b) (i % b) b (mod-lt i some)

blocks_next : (b i : ℕ) → 1 ≤ b → (i + 1 + (b - 1)) / b ≡ i / b + 1
blocks_next b i some =
    let e : i + 1 + (b - 1) ≡ (i / b + 1) * b + i % b = omega (arith, div-add-mod' i b, some) in
    ap (λ k. k / b) e ∙ div-mul-add (i / b + 1) b (i % b) (mod-lt i some)

-- The first string of a block begins a new block.
blocks_head : (b i : ℕ) → 1 ≤ b → is_block_start b i ≡ true → (i + (b - 1)) / b ≡ i / b
blocks_head b i some h = blocks b i some ∙ (let e : i / b + min 1 (i % b) ≡ i / b = omega (arith, eqb-true _ _ h) in e)

blocks_other : (b i : ℕ) → 1 ≤ b → is_block_start b i ≡ false → (i + (b - 1)) / b ≡ i / b + 1
blocks_other b i some h =
    let ne : i % b ≢ 0 = eqb-false _ _ h in
    blocks b i some ∙ (let e : i / b + min 1 (i % b) ≡ i / b + 1 = omega (arith, ne) in e)

start_of : (h : Bool) (at : ℕ) → List ℕ
start_of h at = cond h (at ∷ []) []

more_starts : (h : Bool) (b i at : ℕ) (front : List ℕ) → 1 ≤ b → is_block_start b i ≡ h
    → length front ≡ (i + (b - 1)) / b
    → length (front ++ start_of h at) ≡ (i + 1 + (b - 1)) / b
unfolding start_of
more_starts true b i at front some e size =
    omega (arith, length-append front (at ∷ []), size, blocks_head b i some e, blocks_next b i some)
more_starts false b i at front some e size =
    omega (arith, length-append front [], size, blocks_other b i some e, blocks_next b i some)

start_here : (h : Bool) (b i at : ℕ) (front more : List ℕ) → 1 ≤ b → is_block_start b i ≡ h
    → length front ≡ (i + (b - 1)) / b
    → h ≡ true → get_or (front ++ (start_of h at ++ more)) (i / b) 0 ≡ at
unfolding start_of
start_here true b i at front more some e size t =
    let here : i / b ≡ length front = sym (size ∙ blocks_head b i some e) in
    ap (λ k. get_or (front ++ (at ∷ more)) k 0) here ∙ get_or-append_seam front at more 0
start_here false b i at front more some e size t = absurd (cc)

block_offsets_at : (b i at : ℕ) (entries : List (List ℕ)) (front : List ℕ) → 1 ≤ b → length front ≡ (i + (b - 1)) / b
    → AreBlockStarts b i at entries (front ++ block_offsets_from b i at entries)
unfolding AreBlockStarts block_offsets_from start_of
block_offsets_at b i at [] front some size = λ _. ap (λ k. get_or (front ++ (at ∷ [])) k 0) (sym size)
    ∙ get_or-append_seam front at [] 0
block_offsets_at b i at (p ∷ entries) front some size =
    let more : List ℕ = block_offsets_from b (i + 1) (at + length p) entries in (
      start_here (is_block_start b i) b i at front more some refl size,
      subst (AreBlockStarts b (i + 1) (at + length p) entries)
          (append_assoc front (start_of (is_block_start b i) at) more)
          (block_offsets_at b (i + 1) (at + length p) entries (front ++ start_of (is_block_start b i) at) some
          (more_starts (is_block_start b i) b i at front some refl size)),
    )

count_step : (h : Bool) (b i at : ℕ) → 1 ≤ b → is_block_start b i ≡ h
    → length (start_of h at) + (i + (b - 1)) / b ≡ (i + 1 + (b - 1)) / b
unfolding start_of
count_step true b i at some e = omega (arith, blocks_head b i some e, blocks_next b i some)
count_step false b i at some e = omega (arith, blocks_other b i some e, blocks_next b i some)

starts_many : (b i at : ℕ) (entries : List (List ℕ)) → 1 ≤ b
    → length (block_offsets_from b i at entries) + (i + (b - 1)) / b ≡ (i + length entries + (b - 1)) / b + 1
unfolding block_offsets_from start_of
starts_many b i at [] some = let e : i + 0 ≡ i = omega arith in ap (λ k. 1 + (k + (b - 1)) / b) (sym e)
    ∙ (let f : 1 + (i + 0 + (b - 1)) / b ≡ (i + 0 + (b - 1)) / b + 1 = omega arith in f)
starts_many b i at (p ∷ entries) some =
    let next : i + 1 + length entries ≡ i + suc (length entries) = omega arith in
    let rest = starts_many b (i + 1) (at + length p) entries some ∙ ap (λ k. (k + (b - 1)) / b + 1) next in
    omega (
      arith,
      length-append (start_of (is_block_start b i) at) (block_offsets_from b (i + 1) (at + length p) entries),
      count_step (is_block_start b i) b i at some refl,
      rest,
    )

low_step : (h : Bool) (at end : ℕ) (more : List ℕ) → at ≤ end → ((k : ℕ) → get_or more k 0 ≤ end) → (k : ℕ)
    → get_or (start_of h at ++ more) k 0 ≤ end
unfolding start_of
low_step true at end more le rest zero = le
low_step true at end more le rest (suc k) = rest k
low_step false at end more le rest k = rest k

-- No block offset is past the end.
starts_low : (b i at : ℕ) (entries : List (List ℕ)) (k : ℕ)
    → get_or (block_offsets_from b i at entries) k 0 ≤ at + length (concat entries)
unfolding block_offsets_from start_of
starts_low b i at [] zero = omega arith
starts_low b i at [] (suc k) = omega arith
starts_low b i at (p ∷ entries) k =
    let end : at + length p + length (concat entries) ≡ at + length (p ++ concat entries) =
    omega (arith, length-append p (concat entries)) in
    low_step (is_block_start b i) at (at + length (p ++ concat entries))
    (block_offsets_from b (i + 1) (at + length p) entries)
    (omega arith)
    (λ k. subst (λ (n : ℕ). get_or (block_offsets_from b (i + 1) (at + length p) entries) k 0
    ≤ n) end (starts_low b (i + 1) (at + length p) entries k)) k

-- ---- the section

nothing_before : (b : ℕ) → 1 ≤ b → (0 + (b - 1)) / b ≡ 0
nothing_before b some = div-eq_of_lt (omega (arith, some))

pub front_coded : (b : ℕ) (strings : List (List ℕ)) → 1 ≤ b → length (packed_of b strings) < 2 ^ 64
    → IsFrontCodedFrom b 0 0 [] strings (packed_of b strings) (block_offsets b strings)
front_coded b strings some lt = record {
  entries = encode_entries b 0 [] strings;
  each = pieces_are b 0 0 [] strings (omega arith) (omega (arith, lt));
  joined = refl;
  places = block_offsets_at b 0 0 (encode_entries b 0 [] strings) [] some (sym (nothing_before b some));
}

has_starts : (b : ℕ) (strings : List (List ℕ)) → 1 ≤ b → HasBlockOffsets (length strings) b (block_offsets b strings)
unfolding encode_entries block_offsets_from
has_starts b [] some = inr refl
has_starts b (s ∷ strings) some =
    let all : List (List ℕ) = s ∷ strings in
    let many = starts_many b 0 0 (encode_entries b 0 [] all) some in
    let zeros : 0 + length (encode_entries b 0 [] all) ≡ length all = omega (arith, entry_count b 0 [] all) in
    omega (arith, many, nothing_before b some, ap (λ k. (k + (b - 1)) / b) zeros)

few_blocks : (b n : ℕ) → 1 ≤ b → (n + (b - 1)) / b ≤ n
few_blocks b n some =
    let more : n / b * 1 ≤ n / b * b = mul-le-mul_left (n / b) some in
    omega (arith, blocks b n some, div-add-mod' n b, more)

few_starts : (b : ℕ) (strings : List (List ℕ)) → 1 ≤ b → length (block_offsets b strings) ≤ length strings + 1
few_starts b strings some =
    let many = starts_many b 0 0 (encode_entries b 0 [] strings) some in
    let zeros : 0 + length (encode_entries b 0 [] strings) ≡ length strings =
    omega (arith, entry_count b 0 [] strings) in
    omega (arith, many, nothing_before b some, ap (λ k. (k + (b - 1)) / b) zeros, few_blocks b (length strings) some)

can_stand : (b : ℕ) (strings : List (List ℕ)) → 1 ≤ b → b < 2 ^ 64 → AreSectionStrings strings
    → length (packed_of b strings) + 1 < 2 ^ 64 → CanBeWritten strings b (block_offsets b strings) (packed_of b strings)
can_stand b strings some low are short =
    let enough = enough_bytes b 0 [] strings in
    record {
      few = omega (arith, enough, short);
      short = omega (arith, short);
      block = low;
      few_starts = omega (arith, few_starts b strings some, enough, short);
      starts_fit = λ k. omega (arith, starts_low b 0 0 (encode_entries b 0 [] strings) k, short);
      some = λ _. some;
      started = has_starts b strings some;
      front_coded = front_coded_found b strings (packed_of b strings) (block_offsets b strings)
          (front_coded b strings some (omega (arith, short)));
      strings_are = are;
    }

pub canonical_encoded : (b : ℕ) (strings : List (List ℕ)) (bytes : List ℕ) (at end : ℕ) → 1 ≤ b → b < 2 ^ 64
    → AreSectionStrings strings → length bytes < 2 ^ 64 → HasSlice bytes at (canonical b strings) end
    → IsSectionAt (canonical_parts b strings at) bytes at
unfolding canonical canonical_parts
canonical_encoded b strings bytes at end some low are small h =
    let P : List ℕ = packed_of b strings in
    let S : List ℕ = numbers_encoding (block_offsets b strings) in
    let H : List ℕ = section_preamble (length strings) (length P) b in
    let C : List ℕ = little_bytes 4 (crc32 P) in
    let short : length (packed_of b strings) + 1 < 2 ^ 64 =
    omega (
      arith,
      h.end_is,
      h.within,
      small,
      length-append H (crc8 H ∷ (S ++ (P ++ C))),
      length-append S (P ++ C),
      length-append P C,
    ) in
    subst (λ (e : ℕ). IsSectionAt (record {
      strings = strings;
      block_size = b;
      offset_bits = width_of (block_offsets b strings);
      packed = packed_of b strings;
      packed_offset = at + length (section_preamble (length strings) (length (packed_of b strings)) b) + 1 + length
          (numbers_encoding (block_offsets b strings));
      end = e;
    }) bytes at) h.end_is (section_encoded strings b (block_offsets b strings) (packed_of b strings) bytes at end
    (can_stand b strings some low are short) h)

-- The canonical bytes are read back, whatever precedes and follows them.
pub canonical_again : (b : ℕ) (strings : List (List ℕ)) (before after : List ℕ) → 1 ≤ b → b < 2 ^ 64
    → AreSectionStrings strings
    → IsBytes (before ++ canonical b strings ++ after) → length (before ++ canonical b strings ++ after) < 2 ^ 64
    → section_at (before ++ canonical b strings ++ after) (length before)
    ≡ Ok (canonical_parts b strings (length before))
canonical_again b strings before after some low are fits small =
    (section_exact (before ++ canonical b strings ++ after) (length before) fits).only
    (canonical_parts b strings (length before))
    (canonical_encoded b strings (before ++ canonical b strings ++ after) (length before)
    (length before + length (canonical b strings)) some low are small
    (HasSlice-after before (canonical b strings) after))
