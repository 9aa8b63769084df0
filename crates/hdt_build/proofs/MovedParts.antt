-- If bytes before a part of a file change, the part is still encoded after them; only its byte offsets move.
use Rattle.std.proofs.Common.{◌≡◌, ℕ, ◌+◌, ◌-◌, ◌≤◌, Bool, List, [], ◌∷◌, length, get_or, take, drop, refl}
use Rattle.std.proofs.Common.{sym, ap, subst, ◌∙◌, arith, length-drop}
use Rattle.std.specs.Prelude.{slice_range}
use Rattle.std.proofs.lemmas.List.{drop-drop, get_or-drop}
use Rattle.hdt_wire.specs.declared.control.Kind.{Kind}
use Rattle.hdt_wire.specs.declared.control.Kind.TheVariants as kinds
use Rattle.hdt_wire.specs.Checks.{EncodedAt, HasSlice}
use Rattle.hdt_wire.specs.Control.{ControlInfo, IsControlAt, control}
use Rattle.hdt_wire.specs.Crc.{crc8}
use Rattle.hdt_wire.specs.VByte.{IsVByteAt, VByte, vbyte}
use Rattle.hdt_seq.specs.Bits.{EncodesBits}
use Rattle.hdt_seq.specs.ExactSequences.{IsBitmapAt, IsLogSequenceAt}
use Rattle.hdt_seq.specs.Numbers.{EncodesNumbers}
use Rattle.hdt_seq.specs.Sequence.{Sequence, SequenceShape}
use Rattle.hdt_front.specs.Section.{IsSectionAt, SectionParts}
use Rattle.hdt_dict.specs.Dictionary.{DictionaryParts, IsDictionaryAt}
use Rattle.hdt_triples.specs.Triples.{IsTriplesAt, TripleParts}
use Rattle.hdt_triples.specs.declared.pattern.Counts.{Counts}

-- The bytes of the old list from k on are those of the new one from m on.
pub record SameFrom (old : List ℕ) (k : ℕ) (new : List ℕ) (m : ℕ) : Type 0 where
  pub old_has : k ≤ length old
  pub new_has : m ≤ length new
  pub rest : drop k old ≡ drop m new

-- where an offset of the old list is in the new one
abbrev pub moved : ℕ → ℕ → ℕ → ℕ
moved k m a = m + (a - k)

abbrev pub moved_offsets : ℕ → ℕ → SequenceShape → SequenceShape
moved_offsets k m o = record { count = moved k m o.count; packed = moved k m o.packed; width = o.width }

abbrev pub moved_sequence : {X : Type 0} → ℕ → ℕ → Sequence X → Sequence X
moved_sequence k m s = record { items = s.items; offsets = moved_offsets k m s.offsets; end = moved k m s.end }

abbrev pub moved_control : ℕ → ℕ → ControlInfo → ControlInfo
moved_control k m c = record {
  format = c.format;
  properties = c.properties;
  properties_at = moved k m c.properties_at;
  end = moved k m c.end;
}

abbrev pub moved_section : ℕ → ℕ → SectionParts → SectionParts
moved_section k m s = record {
  strings = s.strings;
  block_size = s.block_size;
  offset_bits = s.offset_bits;
  packed = s.packed;
  packed_offset = moved k m s.packed_offset;
  end = moved k m s.end;
}

abbrev pub moved_dictionary : ℕ → ℕ → DictionaryParts → DictionaryParts
moved_dictionary k m d = record {
  shared = moved_section k m d.shared;
  subjects = moved_section k m d.subjects;
  predicates = moved_section k m d.predicates;
  objects = moved_section k m d.objects;
}

abbrev pub moved_triples : ℕ → ℕ → TripleParts → TripleParts
moved_triples k m t = record {
  control = moved_control k m t.control;
  bitmap_y = moved_sequence k m t.bitmap_y;
  bitmap_z = moved_sequence k m t.bitmap_z;
  array_y = moved_sequence k m t.array_y;
  array_z = moved_sequence k m t.array_z;
}

same_offsets : (c p w d q v : ℕ) → c ≡ d → p ≡ q → w ≡ v
    → (let o : SequenceShape = record { count = c; packed = p; width = w } in o)
    ≡ (let o : SequenceShape = record { count = d; packed = q; width = v } in o)
same_offsets c p w d q v e f g = rw (e, f, g) refl

module _ (old : List ℕ) (k : ℕ) (new : List ℕ) (m : ℕ) (same : SameFrom old k new m) where
  pub lens : length old - k ≡ length new - m
  lens = omega (arith, ap length same.rest, length-drop k old, length-drop m new)

  slices : (a e : ℕ) → k ≤ a → a ≤ e → slice_range new (moved k m a) (moved k m e) ≡ slice_range old a e
  slices a e from to =
      let size : moved k m e - moved k m a ≡ e - a = omega arith in
      let back : k + (a - k) ≡ a = omega arith in
      let rest : drop (moved k m a) new ≡ drop a old =
      sym (drop-drop (a - k) m new) ∙ ap (drop (a - k)) (sym same.rest) ∙ drop-drop (a - k) k old
      ∙ ap (λ (i : ℕ). drop i old) back in
      rw size (ap (take (e - a)) rest)

  bytes : (a : ℕ) → k ≤ a → get_or new (moved k m a) 0 ≡ get_or old a 0
  bytes a from =
      let back : k + (a - k) ≡ a = omega arith in
      sym (get_or-drop m new (a - k) 0) ∙ ap (λ (xs : List ℕ). get_or xs (a - k) 0) (sym same.rest)
      ∙ get_or-drop k old (a - k) 0 ∙ ap (λ (i : ℕ). get_or old i 0) back

  slice : (a : ℕ) (text : List ℕ) (e : ℕ) → k ≤ a → HasSlice old a text e
      → HasSlice new (moved k m a) text (moved k m e)
  slice a text e from h = record {
    end_is = omega (arith, h.end_is);
    within = omega (arith, h.end_is, h.within, lens, same.new_has);
    here = slices a e from (omega (arith, h.end_is)) ∙ h.here;
  }

  encoded : {V : Type 0} (Encodes : List ℕ → V → Type 0) (a : ℕ) (v : V) (e : ℕ) → k ≤ a
      → EncodedAt Encodes old a v e
      → EncodedAt Encodes new (moved k m a) v (moved k m e)
  encoded Encodes a v e from h = record {
    in_order = omega (arith, h.in_order);
    within = omega (arith, h.within, h.in_order, lens, same.new_has);
    spelled = subst (λ text. Encodes text v) (sym (slices a e from h.in_order)) h.spelled;
  }

  vbytes : (v a e : ℕ) → k ≤ a → IsVByteAt v old a e → IsVByteAt v new (moved k m a) (moved k m e)
  vbytes v a e from h = record { spelled = encoded VByte a v e from h.spelled; below = h.below }

  log_sequence : (s : Sequence ℕ) (a : ℕ) → k ≤ a → IsLogSequenceAt s old a
      → IsLogSequenceAt (moved_sequence k m s) new (moved k m a)
  log_sequence s a from h =
      let n : ℕ = length (vbyte (length s.items)) in
      let next : moved k m (a + 1) ≡ moved k m a + 1 = omega arith in
      record {
        spelled = encoded EncodesNumbers a s.items s.end from h.spelled;
        offsets = ap (moved_offsets k m) h.offsets
            ∙ same_offsets (moved k m (a + 2)) (moved k m (a + 3 + n)) (get_or old (a + 1) 0) (moved k m a + 2)
            (moved k m a + 3 + n) (get_or new (moved k m a + 1) 0) (omega arith) (omega arith)
            (sym (bytes (a + 1) (omega arith)) ∙ ap (λ (i : ℕ). get_or new i 0) next);
      }

  bitmap : (s : Sequence Bool) (a : ℕ) → k ≤ a → IsBitmapAt s old a
      → IsBitmapAt (moved_sequence k m s) new (moved k m a)
  bitmap s a from h =
      let n : ℕ = length (vbyte (length s.items)) in
      record {
        spelled = encoded EncodesBits a s.items s.end from h.spelled;
        offsets = ap (moved_offsets k m) h.offsets
            ∙ same_offsets (moved k m (a + 1)) (moved k m (a + 2 + n)) 1 (moved k m a + 1) (moved k m a + 2 + n) 1
            (omega arith) (omega arith) refl;
      }

  control_info : (kind : Kind) (c : ControlInfo) (a : ℕ) → k ≤ a → IsControlAt kind c old a
      → IsControlAt kind (moved_control k m c) new (moved k m a)
  control_info kind c a from h = record {
    spelled = slice a (control kind c.properties) c.end from h.spelled;
    no_zero = h.no_zero;
    format = h.format;
    properties_at = omega (arith, h.properties_at);
  }

  after_section : (s : SectionParts) (a : ℕ) → IsSectionAt s old a → a ≤ s.end
  after_section s a h =
      omega (
        arith,
        h.count.spelled.in_order,
        h.size.spelled.in_order,
        h.block.spelled.in_order,
        h.code.end_is,
        h.block_offsets_at.spelled.in_order,
        h.packed_begins,
        h.packed.end_is,
      )

  section : (s : SectionParts) (a : ℕ) → k ≤ a → IsSectionAt s old a
      → IsSectionAt (moved_section k m s) new (moved k m a)
  section s a from h =
      let next : moved k m (a + 1) ≡ moved k m a + 1 = omega arith in
      let size_from : k ≤ h.size_offset = omega (arith, h.count.spelled.in_order) in
      let block_from : k ≤ h.block_size_offset = omega (arith, h.size.spelled.in_order) in
      let crc_from : k ≤ h.crc_offset = omega (arith, h.block.spelled.in_order) in
      let to_crc : a ≤ h.crc_offset =
      omega (arith, h.count.spelled.in_order, h.size.spelled.in_order, h.block.spelled.in_order) in
      let starts_from : k ≤ h.starts_offset = omega (arith, h.code.end_is) in
      let packed_from : k ≤ s.packed_offset = omega (arith, h.packed_begins, h.block_offsets_at.spelled.in_order) in
      record {
        size_offset = moved k m h.size_offset;
        block_size_offset = moved k m h.block_size_offset;
        crc_offset = moved k m h.crc_offset;
        starts_offset = moved k m h.starts_offset;
        starts = moved_sequence k m h.starts;
        kind = subst (λ (e : ℕ). HasSlice new (moved k m a) (2 ∷ []) e) next (slice a (2 ∷ []) (a + 1) from h.kind);
        count = subst (λ (b : ℕ). IsVByteAt (length s.strings) new b (moved k m h.size_offset)) next
            (vbytes (length s.strings) (a + 1) h.size_offset (omega arith) h.count);
        size = vbytes (length s.packed) h.size_offset h.block_size_offset size_from h.size;
        block = vbytes s.block_size h.block_size_offset h.crc_offset block_from h.block;
        code = subst (λ (t : List ℕ). HasSlice new (moved k m h.crc_offset) (crc8 t ∷ []) (moved k m h.starts_offset))
            (sym (slices a h.crc_offset from to_crc))
            (slice h.crc_offset (crc8 (slice_range old a h.crc_offset) ∷ []) h.starts_offset crc_from h.code);
        some = h.some;
        block_offsets_at = log_sequence h.starts h.starts_offset starts_from h.block_offsets_at;
        started = h.started;
        width = h.width;
        packed_begins = ap (moved k m) h.packed_begins;
        packed = slice s.packed_offset _ s.end packed_from h.packed;
        front_coded = h.front_coded;
        strings = h.strings;
      }

  pub dictionary : (d : DictionaryParts) (a : ℕ) → k ≤ a → IsDictionaryAt d old a
      → IsDictionaryAt (moved_dictionary k m d) new (moved k m a)
  dictionary d a from h =
      let shared_from : k ≤ h.control.end = omega (arith, h.control_is.spelled.end_is) in
      let subjects_from : k ≤ d.shared.end = omega (arith, after_section d.shared h.control.end h.shared) in
      let predicates_from : k ≤ d.subjects.end = omega (arith, after_section d.subjects d.shared.end h.subjects) in
      let objects_from : k ≤ d.predicates.end =
      omega (arith, after_section d.predicates d.subjects.end h.predicates) in
      record {
        control = moved_control k m h.control;
        control_is = control_info kinds.Dictionary h.control a from h.control_is;
        shared = section d.shared h.control.end shared_from h.shared;
        subjects = section d.subjects d.shared.end subjects_from h.subjects;
        predicates = section d.predicates d.subjects.end predicates_from h.predicates;
        objects = section d.objects d.predicates.end objects_from h.objects;
        shared_subjects = h.shared_subjects;
        shared_objects = h.shared_objects;
        subjects_objects = h.subjects_objects;
      }

  pub after_dictionary : (d : DictionaryParts) (a : ℕ) → IsDictionaryAt d old a → a ≤ d.objects.end
  after_dictionary d a h =
      omega (
        arith,
        h.control_is.spelled.end_is,
        after_section d.shared h.control.end h.shared,
        after_section d.subjects d.shared.end h.subjects,
        after_section d.predicates d.subjects.end h.predicates,
        after_section d.objects d.predicates.end h.objects,
      )

  pub triples : (counts : Counts) (t : TripleParts) (a : ℕ) → k ≤ a → IsTriplesAt counts t old a
      → IsTriplesAt counts (moved_triples k m t) new (moved k m a)
  triples counts t a from h =
      let first : k ≤ t.control.end = omega (arith, h.control.spelled.end_is) in
      let second : k ≤ t.bitmap_y.end = omega (arith, h.bitmap_y.spelled.in_order) in
      let third : k ≤ t.bitmap_z.end = omega (arith, h.bitmap_z.spelled.in_order) in
      let fourth : k ≤ t.array_y.end = omega (arith, h.array_y.spelled.in_order) in
      record {
        control = control_info kinds.Triples t.control a from h.control;
        order = h.order;
        bitmap_y = bitmap t.bitmap_y t.control.end first h.bitmap_y;
        bitmap_z = bitmap t.bitmap_z t.bitmap_y.end second h.bitmap_z;
        array_y = log_sequence t.array_y t.bitmap_z.end third h.array_y;
        array_z = log_sequence t.array_z t.array_y.end fourth h.array_z;
        valid = h.valid;
      }

  pub after_triples : (counts : Counts) (t : TripleParts) (a : ℕ) → IsTriplesAt counts t old a → a ≤ t.array_z.end
  after_triples counts t a h =
      omega (
        arith,
        h.control.spelled.end_is,
        h.bitmap_y.spelled.in_order,
        h.bitmap_z.spelled.in_order,
        h.array_y.spelled.in_order,
        h.array_z.spelled.in_order,
      )
