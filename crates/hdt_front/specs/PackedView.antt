-- The layout of front-coded strings, as the checks see it.
use Rattle.std.specs.Prelude.{length}
use Rattle.hdt_front.specs.declared.packed.PackedStrings.{PackedStrings}
use Rattle.hdt_seq.specs.Numbers.{numbers_of, numbers_offsets}
use Rattle.hdt_front.specs.StringChecks.{BlockLayout}

abbrev pub block_layout : PackedStrings → BlockLayout
block_layout p = record {
  block_size = p.block_size;
  packed_at = p.packed_at;
  size = length p.bytes.now;
  block_offsets =
      numbers_of p.block_offsets;
  block_offsets_at = numbers_offsets p.block_offsets;
}
