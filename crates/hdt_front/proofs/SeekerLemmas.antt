-- The state of a cursor with random access.
use Rattle.std.proofs.Common.{◌≡◌, ℕ, suc, ◌+◌, ◌-◌, ◌*◌, ◌/◌, ◌<◌, ◌≤◌, List, [], length, get_or, sym, ap, ◌∙◌, arith}
use Rattle.std.proofs.Common.{subst}
use Rattle.hdt_wire.specs.Checks.{len_before_zero}
use Rattle.hdt_front.specs.declared.section.Section.{Section}
use Rattle.hdt_front.specs.Decoding.{is_block_start, bytes_from_suffix, decoded_string, after_entry}
use Rattle.hdt_front.specs.EntryFacts.{string_before_entry, bytes_from_entry}
use Rattle.hdt_front.specs.PackedView.{block_layout}
use Rattle.hdt_front.specs.Strings.{strings_of, blocks_of}
use Rattle.hdt_front.specs.Laws.Strings.{count_is}
use Rattle.hdt_front.specs.Laws.StringSteps.{entry_check_at, string_is}
use Rattle.hdt_front.specs.SeekerState.{SeekerState, seeker_at, strings_before_block}
use Rattle.hdt_front.proofs.CheckedBlocks.{some_block, head_inside}
use Rattle.hdt_front.proofs.DecodingLemmas.{block_inside}
use Rattle.std.proofs.lemmas.Nat.{div-add-mod'}
use Rattle.std.proofs.Math.Nat.{mod-lt}

-- A block has fewer strings before it than there are.
pub head_within : (s : Section) (q : ℕ) → q < blocks_of s → q * s.packed.block_size < s.packed.count
unfolding blocks_of
head_within s q h = head_inside s.packed.count s.packed.block_size q
    (some_block s.packed.count s.packed.block_size q h) h

-- String i, from 0, is the one before string i + 1.
pub string_before : (s : Section) (i : ℕ) → i < s.packed.count
    → get_or (strings_of s) i [] ≡ string_before_entry s.packed.block_size (i + 1) s.packed.bytes.now
unfolding strings_of
string_before s i h =
    let next : suc i ≡ i + 1 = omega arith in
    string_is s.packed.block_size s.packed.count i s.packed.bytes.now h
    ∙ ap (λ k. string_before_entry s.packed.block_size k s.packed.bytes.now) next

pub record Passes (s : Section) (i : ℕ) (last rest : List ℕ) : Type 0 where
  pub ends : len_before_zero (bytes_from_suffix (is_block_start s.packed.block_size i) rest)
      < length (bytes_from_suffix (is_block_start s.packed.block_size i) rest)
  pub string : decoded_string (is_block_start s.packed.block_size i) last rest
      ≡ string_before_entry s.packed.block_size (i + 1) s.packed.bytes.now
  pub after : after_entry (is_block_start s.packed.block_size i) rest
      ≡ bytes_from_entry s.packed.block_size (i + 1) s.packed.bytes.now

-- The step from string i to the next one.
pub passes : (s : Section) (i : ℕ) (last rest : List ℕ) → i < s.packed.count
    → last ≡ string_before_entry s.packed.block_size i s.packed.bytes.now
    → rest ≡ bytes_from_entry s.packed.block_size i s.packed.bytes.now
    → Passes s i last rest
unfolding string_before_entry bytes_from_entry
passes s i last rest h el er =
    let p = block_layout s.packed in
    let b : ℕ = s.packed.block_size in
    let bytes : List ℕ = s.packed.bytes.now in
    let row = entry_check_at p s.packed.count i bytes h s.read in
    let next : suc i ≡ i + 1 = omega arith in
    record {
      ends = subst (λ (r : List ℕ). len_before_zero (bytes_from_suffix (is_block_start b i) r)
          < length (bytes_from_suffix (is_block_start b i) r)) (sym er) row.ends;
      string = ap (λ l. decoded_string (is_block_start b i) l rest) el
          ∙ ap (decoded_string (is_block_start b i) (string_before_entry b i bytes)) er
          ∙ ap (λ k. string_before_entry b k bytes) next;
      after = ap (after_entry (is_block_start b i)) er ∙ ap (λ k. bytes_from_entry b k bytes) next;
    }

-- The state of a cursor at a string.
pub seeker_is : (s : Section) (at : ℕ) (last : List ℕ) → 0 < at → at ≤ s.packed.count
    → last ≡ string_before_entry s.packed.block_size at s.packed.bytes.now
    → (let w : SeekerState = record { section = s; at = at; last = last } in w) ≡ seeker_at s at
seeker_is s at last some h e =
    let next : at - 1 + 1 ≡ at = omega (arith, some) in
    let string : last ≡ get_or (strings_of s) (at - 1) [] =
    e ∙ ap (λ k. string_before_entry s.packed.block_size k s.packed.bytes.now) (sym next)
    ∙ sym (string_before s (at - 1) (omega (arith, some, h))) in
    ap (λ (l : List ℕ). (let w : SeekerState = record { section = s; at = at; last = l } in w)) string

-- The block of a string is one of the blocks.
pub block_exists : (s : Section) (n : ℕ) → 1 ≤ n → n ≤ length (strings_of s) → (1 ≤ s.packed.block_size)
    × ((n - 1) / s.packed.block_size < blocks_of s)
unfolding blocks_of
block_exists s n some h =
    let size : 1 ≤ s.packed.block_size = s.packed.some (omega (arith, some, h, count_is s)) in
    (size, block_inside s.packed.count s.packed.block_size (n - 1) size (omega (arith, some, h, count_is s)))

-- Up to string n it has at most as many strings as the block size.
pub block_short : (s : Section) (n : ℕ) → 1 ≤ n → 1 ≤ s.packed.block_size
    → n ≤ strings_before_block s n + s.packed.block_size
block_short s n some size = omega (arith, some, div-add-mod' (n - 1) s.packed.block_size, mod-lt (n - 1) size)
