-- Sections whose bytes are on scratch: one more string, and the parts of strings after those of whole blocks.
use Rattle.std.proofs.Common.{◌≡◌, ◌∙◌, ℕ, zero, suc, ◌+◌, ◌%◌, ◌^◌, ◌<◌, List, [], ◌∷◌, ◌++◌, length, map, refl, sym}
use Rattle.std.proofs.Common.{ap, subst, arith, Bool, false, append_assoc, append-nil, length-append}
use Rattle.std.proofs.Math.Nat.{zero-mod}
use Rattle.std.proofs.lemmas.Nat.{pow_pos}
use Rattle.std.proofs.lemmas.List.{get_or-append-add, map-append}
use Rattle.byteorder.specs.Endian.{little_bytes}
use Rattle.hdt_wire.specs.Crc.{crc8, crc32}
use Rattle.hdt_wire.specs.VByte.{vbyte}
use Rattle.hdt_seq.specs.Numbers.{numbers_encoding}
use Rattle.hdt_seq.specs.PackedBits.{EachFits, packed}
use Rattle.hdt_seq.specs.Sequence.{with_crcs}
use Rattle.hdt_seq.specs.Width.{width_of}
use Rattle.hdt_seq.specs.Laws.Width.{width_fits}
use Rattle.hdt_front.specs.Canonical.{block_offsets_from, block_offsets, canonical, encode_entries, packed_of}
use Rattle.hdt_front.specs.SectionWriting.{section_encoding, section_preamble}
use Rattle.hdt_front.specs.WriterState.{SectionWriterState}
use Rattle.hdt_build.specs.Inside.EntryWriting.{EntryState, IsWritingEntries}
use Rattle.hdt_build.specs.Inside.Output.{OutputState, Puts}
use Rattle.hdt_build.specs.Inside.SectionTapes.{AreMoved, AreParts, HavePushedEntries, IsSectionTape}
use Rattle.hdt_build.proofs.EntryWriting.{written_numbers}
use Rattle.hdt_build.proofs.Outputs.{puts_then}
use Rattle.hdt_build.proofs.SectionPieces.{offsets_of_both, packed_of_both, width_of_offsets}

-- ---- no strings

no_parts : (b : ℕ) → AreParts b [] [] []
unfolding block_offsets_from encode_entries
no_parts b = record { starts_are = refl; packed_are = refl }

pub none_moved : (b : ℕ) (strings : List (List ℕ)) (current : SectionWriterState) (starts packed : List ℕ)
    → strings ≡ [] → current ≡ record { block_size = b; strings = [] } → starts ≡ [] → packed ≡ []
    → AreMoved strings current starts packed
none_moved b strings current starts packed is empty s p = rw (is, empty, s, p) (record {
  done = [];
  all = refl;
  whole = zero-mod b;
  parts = no_parts b;
})

-- ---- the parts of later strings

pub parts_of_both : (b size : ℕ) (done strings : List (List ℕ)) (starts packed heads bytes starts' packed' : List ℕ)
    → size ≡ length packed → heads ++ length bytes ∷ [] ≡ block_offsets b strings → bytes ≡ packed_of b strings
    → starts' ≡ starts ++ map (λ n. size + n) heads → packed' ≡ packed ++ bytes → length done % b ≡ 0
    → AreParts b done starts packed → AreParts b (done ++ strings) starts' packed'
parts_of_both b size done strings starts packed heads bytes starts' packed' is he be se pe whole h =
    let end : size ≡ length (packed_of b done) = is ∙ ap length h.packed_are in
    let old : starts ++ length (packed_of b done) ∷ [] ≡ block_offsets b done =
    ap (λ (n : ℕ). starts ++ n ∷ []) (sym (ap length h.packed_are)) ∙ h.starts_are in
    let all : length packed' ≡ size + length bytes = omega (arith, is, ap length pe, length-append packed bytes) in
    record {
      starts_are =
          ap (λ (l : List ℕ). l ++ length packed' ∷ []) se
          ∙ append_assoc starts (map (λ n. size + n) heads) (length packed' ∷ [])
          ∙ ap (λ (k : ℕ). starts ++ (map (λ n. size + n) heads ++ k ∷ [])) all
          ∙ ap (λ (l : List ℕ). starts ++ l) (sym (map-append (λ n. size + n) heads (length bytes ∷ [])))
          ∙ ap (λ (l : List ℕ). starts ++ map (λ n. size + n) l) he
          ∙ ap (λ (k : ℕ). starts ++ map (λ n. k + n) (block_offsets b strings)) end
          ∙ sym (offsets_of_both b done strings starts whole old);
      packed_are =
          pe ∙ ap (λ (l : List ℕ). l ++ bytes) h.packed_are ∙ ap (λ (l : List ℕ). packed_of b done ++ l) be
          ∙ sym (packed_of_both b done strings whole);
    }

-- ---- one more string

module _ (strings more : List (List ℕ)) (s : List ℕ) (current : SectionWriterState) (starts packed : List ℕ)
    (is : more ≡ strings ++ s ∷ []) (h : AreMoved strings current starts packed) where
  pub pushed_string : (next : SectionWriterState) → next ≡ record current { strings = current.strings ++ s ∷ [] }
      → AreMoved more next starts packed
  pushed_string next e = rw e (record {
    done = h.done;
    all = is ∙ ap (λ (l : List (List ℕ)). l ++ s ∷ []) h.all ∙ append_assoc h.done current.strings (s ∷ []);
    whole = h.whole;
    parts = h.parts;
  })

-- the strings of the writer were moved to scratch
pub moved_strings : (strings : List (List ℕ)) (full next : SectionWriterState) (starts packed starts' packed' : List ℕ)
    → AreMoved strings full starts packed
    → next ≡ record { block_size = full.block_size; strings = [] } → length strings % full.block_size ≡ 0
    → ((done : List (List ℕ)) → length done % full.block_size ≡ 0
    → AreParts full.block_size done starts packed
    → AreParts full.block_size (done ++ full.strings) starts' packed')
    → AreMoved strings next starts' packed'
moved_strings strings full next starts packed starts' packed' h e whole moves = rw e (record {
  done = strings;
  all = sym (append-nil strings);
  whole = whole;
  parts = rw h.all (moves h.done h.whole h.parts);
})

-- ---- the fields of a writer

module _ (known : Type 0) (failed : Bool) (b count n : ℕ) (strings more : List (List ℕ)) (s : List ℕ)
    (current pushed : SectionWriterState) (starts packed : List ℕ)
    (h : IsSectionTape known failed b count strings current starts packed) (good : failed ≡ false)
    (p : pushed ≡ record current { strings = current.strings ++ s ∷ [] }) (m : more ≡ strings ++ s ∷ [])
    (one : n ≡ count + 1) where
  long : n ≡ length more
  long = omega (arith, one, h.counted, ap length m, length-append strings (s ∷ []))

  block_is : pushed.block_size ≡ b
  block_is = ap (λ (w : SectionWriterState). w.block_size) p ∙ h.block

  written : known → AreMoved more pushed starts packed
  written k = pushed_string strings more s current starts packed m (h.moved good k) pushed p

  -- a string was added
  pub pushed_tape : IsSectionTape known false b n more pushed starts packed
  pushed_tape = record { some = h.some; block = block_is; counted = long; moved = λ _ k. written k }

  -- a string was added, and all were moved to scratch
  pub moved_tape : (next : SectionWriterState) (starts' packed' : List ℕ) → n % b ≡ 0
      → next ≡ record { block_size = b; strings = [] }
      → (known → (done : List (List ℕ)) → length done % pushed.block_size ≡ 0
      → AreParts pushed.block_size done starts packed
      → AreParts pushed.block_size (done ++ pushed.strings) starts' packed')
      → IsSectionTape known false b n more next starts' packed'
  moved_tape next starts' packed' whole e moves = record {
    some = h.some;
    block = ap (λ (w : SectionWriterState). w.block_size) e;
    counted = long;
    moved = λ _ k. moved_strings more pushed next starts packed starts' packed' (written k)
        (e ∙ ap (λ (c : ℕ). let w : SectionWriterState = record { block_size = c; strings = [] } in w) (sym block_is))
        (ap (λ (c : ℕ). length more % c) block_is ∙ ap (λ (c : ℕ). c % b) (sym long) ∙ whole) (moves k);
  }

-- ---- the block offsets as entries

fits_inside : (width x : ℕ) (done rest all : List ℕ) → done ++ x ∷ rest ≡ all → EachFits width all → x < 2 ^ width
fits_inside width x done rest all is fits =
    subst (λ (y : ℕ). y < 2 ^ width) (get_or-append-add done (x ∷ rest) 0 0)
    (subst (EachFits width) (sym is) fits (length done + 0))

pub one_pushed : (all rest : List ℕ) (x count n : ℕ) (old mid new : EntryState)
    → HavePushedEntries all (x ∷ rest) count old mid → n ≡ count + 1
    → ((before : OutputState) (head xs : List ℕ) (width : ℕ) → x < 2 ^ width
    → IsWritingEntries before head width xs mid → IsWritingEntries before head width (xs ++ x ∷ []) new)
    → HavePushedEntries all rest n old new
one_pushed all rest x count n old mid new h one more = record {
  done = h.done ++ x ∷ [];
  all_are = append_assoc h.done (x ∷ []) rest ∙ h.all_are;
  counted = omega (arith, one, h.counted, length-append h.done (x ∷ []));
  entries = λ before head width fits start. more before head h.done width
      (fits_inside width x h.done rest all h.all_are fits) (h.entries before head width fits start);
}

fits_first : (width : ℕ) (xs ys : List ℕ) → EachFits width (xs ++ ys) → EachFits width xs
fits_first width [] ys fits i = pow_pos width
fits_first width (x ∷ xs) ys fits zero = fits 0
fits_first width (x ∷ xs) ys fits (suc i) = fits_first width xs ys (λ k. fits (suc k)) i

-- the numbers and the end were written in the width of the end
pub offsets_put : (xs : List ℕ) (end count width : ℕ) (out made : OutputState) (w v u : EntryState)
    → width ≡ width_of (end ∷ []) → width_of (end ∷ []) ≡ width_of (xs ++ end ∷ []) → count ≡ length xs + 1
    → IsWritingEntries out (1 ∷ width ∷ vbyte count) width [] w
    → ((before : OutputState) (head : List ℕ) (width : ℕ) → EachFits width xs
    → IsWritingEntries before head width [] w → IsWritingEntries before head width xs v)
    → ((before : OutputState) (head xs : List ℕ) (width : ℕ) → end < 2 ^ width
    → IsWritingEntries before head width xs v → IsWritingEntries before head width (xs ++ end ∷ []) u)
    → ((before : OutputState) (head xs : List ℕ) (width : ℕ) → IsWritingEntries before head width xs u
    → Puts before made (with_crcs head (packed width xs)))
    → Puts out made (numbers_encoding (xs ++ end ∷ []))
offsets_put xs end count width out made w v u narrow same counted begun entries one finish =
    let all : List ℕ = xs ++ end ∷ [] in
    let head : List ℕ = 1 ∷ width_of all ∷ vbyte (length all) in
    let long : count ≡ length all = omega (arith, counted, length-append xs (end ∷ [])) in
    let start : IsWritingEntries out head (width_of all) [] w =
    subst (λ (n : ℕ). IsWritingEntries out (1 ∷ width_of all ∷ vbyte n) (width_of all) [] w) long
    (subst (λ (n : ℕ). IsWritingEntries out (1 ∷ n ∷ vbyte count) n [] w) (narrow ∙ same) begun) in
    let fits : EachFits (width_of all) all = width_fits all in
    let last : end < 2 ^ width_of all = fits_inside (width_of all) end xs [] all refl fits in
    subst (Puts out made) (written_numbers all)
    (finish out head all (width_of all) (one out head xs (width_of all) last
    (entries out head (width_of all) (fits_first (width_of all) xs (end ∷ []) fits) start)))

-- ---- the section

module _ (b size : ℕ) (strings : List (List ℕ)) (starts bytes : List ℕ) (is : size ≡ length bytes)
    (h : AreParts b strings starts bytes) where
  offsets_are : starts ++ size ∷ [] ≡ block_offsets b strings
  offsets_are = ap (λ (n : ℕ). starts ++ n ∷ []) is ∙ h.starts_are

  pub offsets_width : width_of (size ∷ []) ≡ width_of (starts ++ size ∷ [])
  offsets_width =
      ap (λ (n : ℕ). width_of (n ∷ [])) (is ∙ ap length h.packed_are) ∙ width_of_offsets b strings
      ∙ ap width_of (sym offsets_are)

  pub section_put : (count : ℕ) (out a c made : OutputState) → count ≡ length strings
      → Puts out a (section_preamble count size b ++ crc8 (section_preamble count size b) ∷ [])
      → Puts a c (numbers_encoding (starts ++ size ∷ [])) → Puts c made (bytes ++ little_bytes 4 (crc32 bytes))
      → Puts out made (canonical b strings)
  unfolding canonical
  section_put count out a c made counted p q r =
      let head : List ℕ = section_preamble count size b in
      let offsets : List ℕ = numbers_encoding (starts ++ size ∷ []) in
      let tail : List ℕ = bytes ++ little_bytes 4 (crc32 bytes) in
      let whole : Puts out made ((head ++ crc8 head ∷ []) ++ (offsets ++ tail)) =
      puts_then out a made (head ++ crc8 head ∷ []) (offsets ++ tail) p (puts_then a c made offsets tail q r) in
      subst (Puts out made)
      (append_assoc head (crc8 head ∷ []) (offsets ++ tail)
      ∙ ap (λ (n : ℕ). section_preamble count n b ++ crc8 (section_preamble count n b) ∷ (offsets ++ tail)) is
      ∙ ap (λ (l : List ℕ). section_preamble count (length bytes) b ++ crc8 (section_preamble count (length bytes) b)
      ∷ (numbers_encoding l ++ tail)) offsets_are
      ∙ ap (λ (n : ℕ). section_encoding n b (block_offsets b strings) bytes) counted
      ∙ ap (section_encoding (length strings) b (block_offsets b strings)) h.packed_are) whole
