-- The triples part (HDT submission, Triples; rdfhdt.org, "HDT binary format", Bitmap Triples): control information
-- whose property `order` is 1, bitmap Y, bitmap Z, array Y, array Z.
use Rattle.std.specs.Prelude.{◌≡◌, ℕ, ◌+◌, ◌-◌, ◌==◌, ◌&&◌, Bool, false, nat_le, nat_lt, List, codes, length}
use Rattle.std.specs.Prelude.{slice_index, slice_index_or, Option, Some, None, Result, Ok, zero, suc, if◌then◌else◌}
use Rattle.std.specs.Str.{bytes_eq}
use Rattle.hdt_wire.specs.declared.fault.Fault.{Fault}
use Rattle.hdt_wire.specs.declared.fault.Reason.{Reason}
use Rattle.hdt_wire.specs.declared.fault.Reason.TheVariants.{TripleOrder, LengthsDiffer, LastMark, MarkCount}
use Rattle.hdt_wire.specs.declared.fault.Reason.TheVariants.{SubjectRange, PredicateRange, ObjectRange}
use Rattle.hdt_wire.specs.declared.fault.Reason.TheVariants.{PredicatesNotAscending, ObjectsNotAscending}
use Rattle.hdt_wire.specs.declared.control.Kind.TheVariants as kinds
use Rattle.hdt_wire.specs.Checks.{◌>>=◌, demand}
use Rattle.hdt_wire.specs.Control.{ControlInfo, IsControlAt, control_at}
use Rattle.hdt_wire.specs.Property.{property_value}
use Rattle.hdt_seq.specs.Sequence.{Sequence, entry_offset}
use Rattle.hdt_seq.specs.Numbers.{numbers_at}
use Rattle.hdt_seq.specs.Bits.{bits_at}
use Rattle.hdt_seq.specs.RankSelect.{ones_before}
use Rattle.hdt_wire.specs.ItemChecks.{checks_from}
use Rattle.hdt_seq.specs.ExactSequences.{IsLogSequenceAt, IsBitmapAt}
use Rattle.hdt_triples.specs.TripleSequences.{BitmapTriples, AreValidSequences}
use Rattle.hdt_triples.specs.declared.pattern.Counts.{Counts}

-- A decoded triples part: its control information and its four sequences, each with its byte offsets.
pub record TripleParts : Type 0 where
  pub control : ControlInfo
  pub bitmap_y : Sequence Bool
  pub bitmap_z : Sequence Bool
  pub array_y : Sequence ℕ
  pub array_z : Sequence ℕ

abbrev pub bitmap_triples_of_sequences : Sequence Bool → Sequence Bool → Sequence ℕ → Sequence ℕ → BitmapTriples
bitmap_triples_of_sequences bitmap_y bitmap_z array_y array_z =
    record { bitmap_y = bitmap_y.items; bitmap_z = bitmap_z.items; array_y = array_y.items; array_z = array_z.items }

abbrev pub bitmap_triples : TripleParts → BitmapTriples
bitmap_triples t = bitmap_triples_of_sequences t.bitmap_y t.bitmap_z t.array_y t.array_z

-- The triples part t is encoded at byte offset `at`, and its IDs are within the counts.
pub record IsTriplesAt (counts : Counts) (t : TripleParts) (bytes : List ℕ) (at : ℕ) : Type 0 where
  pub control : IsControlAt kinds.Triples t.control bytes at
  pub order : property_value t.control.properties (codes "order") ≡ Some (codes "1")
  pub bitmap_y : IsBitmapAt t.bitmap_y bytes t.control.end
  pub bitmap_z : IsBitmapAt t.bitmap_z bytes t.bitmap_y.end
  pub array_y : IsLogSequenceAt t.array_y bytes t.bitmap_z.end
  pub array_z : IsLogSequenceAt t.array_z bytes t.array_y.end
  pub valid : AreValidSequences counts (bitmap_triples t)

-- ---- the checks

abbrev pub is_spo_order : Option (List ℕ) → Bool
is_spo_order None = false
is_spo_order (Some value) = bytes_eq value (codes "1")

-- The number before entry i in its group, or 0 if the entry is the first one.
unfoldable pub previous_in_group : List Bool → List ℕ → ℕ → ℕ
previous_in_group marks xs zero = 0
previous_in_group marks xs (suc i) = if slice_index_or marks i false then 0 else slice_index xs i

-- Entry i is from 1 to the count, and greater than the previous one of its group.
unfoldable pub entry_checks : List Bool → Sequence ℕ → ℕ → Reason → Reason → ℕ → Result (Unit {0}) Fault
entry_checks marks xs count range ascent i = do
  _ ← demand (nat_le 1 (slice_index xs.items i) && nat_le (slice_index xs.items i) count) (entry_offset xs.offsets i)
      range
  demand (nat_lt (previous_in_group marks xs.items i) (slice_index xs.items i)) (entry_offset xs.offsets i) ascent

-- The subject of pair q is within the count, and its predicate passes the checks of an entry.
unfoldable pub pair_checks : Counts → Sequence Bool → Sequence ℕ → ℕ → Result (Unit {0}) Fault
pair_checks counts bits predicates q = do
  _ ← demand (nat_le (ones_before bits.items q + 1) counts.subjects) (entry_offset bits.offsets q) SubjectRange
  entry_checks bits.items predicates counts.predicates PredicateRange PredicatesNotAscending q

-- All pairs pass their checks.
abbrev pub all_pair_checks : Counts → Sequence Bool → Sequence ℕ → Result (Unit {0}) Fault
all_pair_checks counts bits predicates = checks_from (pair_checks counts bits predicates) 0 (length predicates.items)

-- All objects pass the checks of an entry.
abbrev pub all_object_checks : List Bool → Sequence ℕ → ℕ → Result (Unit {0}) Fault
all_object_checks marks objects count =
    checks_from (entry_checks marks objects count ObjectRange ObjectsNotAscending) 0 (length objects.items)

-- The last bit, or false if there is none.
abbrev pub last_bit : List Bool → Bool
last_bit marks = slice_index_or marks (length marks - 1) false

-- The last bit is 1.
abbrev pub last_bit_check : Sequence Bool → Result (Unit {0}) Fault
last_bit_check bits = demand (last_bit bits.items) (entry_offset bits.offsets (length bits.items - 1)) LastMark

-- The four sequences pass their checks, in this order.
unfoldable pub sequence_checks : Counts → Sequence Bool → Sequence Bool → Sequence ℕ → Sequence ℕ
    → Result (Unit {0}) Fault
sequence_checks counts bitmap_y bitmap_z array_y array_z = do
  _ ← demand (length bitmap_y.items == length array_y.items) array_y.offsets.count LengthsDiffer
  _ ← demand (length bitmap_z.items == length array_z.items) array_z.offsets.count LengthsDiffer
  _ ← last_bit_check bitmap_y
  _ ← last_bit_check bitmap_z
  _ ← demand (ones_before bitmap_z.items (length bitmap_z.items) == length array_y.items) bitmap_z.offsets.count
      MarkCount
  _ ← all_pair_checks counts bitmap_y array_y
  all_object_checks bitmap_z.items array_z counts.objects

-- Decoding: the triples part at byte offset `at`, or the first error.
unfoldable pub decode_triple_parts : Counts → List ℕ → ℕ → Result TripleParts Fault
decode_triple_parts counts bytes at = do
  control ← control_at kinds.Triples bytes at
  _ ← demand (is_spo_order (property_value control.properties (codes "order"))) control.properties_at TripleOrder
  bitmap_y ← bits_at bytes control.end
  bitmap_z ← bits_at bytes bitmap_y.end
  array_y ← numbers_at bytes bitmap_z.end
  array_z ← numbers_at bytes array_y.end
  _ ← sequence_checks counts bitmap_y bitmap_z array_y array_z
  Ok (record { control = control; bitmap_y = bitmap_y; bitmap_z = bitmap_z; array_y = array_y; array_z = array_z })
