-- Views of what was read before the strings, in the terms of the checks.
use Rattle.std.specs.Prelude.{ℕ}
use Rattle.hdt_front.specs.declared.reading.Preamble.{Preamble}
use Rattle.hdt_seq.specs.Numbers.{numbers_of, numbers_offsets}
use Rattle.hdt_front.specs.Section.{SectionPreamble, PackedParts}
use Rattle.hdt_front.specs.declared.packed.PackedStrings.{PackedStrings}

unfoldable pub packed_parts_view : PackedStrings × ℕ → PackedParts
packed_parts_view r = record {
  count = r.0.count;
  block_size = r.0.block_size;
  starts = record {
    items = numbers_of r.0.block_offsets;
    offsets = numbers_offsets r.0.block_offsets;
    end =
        r.0.packed_at;
  };
  packed = r.0.bytes.now;
  end = r.1;
}

unfoldable pub preamble_view : Preamble → SectionPreamble
preamble_view h = record {
  count = h.count;
  size = h.size;
  block_size = h.block_size;
  starts_offset =
      h.block_offsets_at;
}
