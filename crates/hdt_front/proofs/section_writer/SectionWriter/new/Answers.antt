use Rattle.std.proofs.Common.{refl}
use Rattle.hdt_front.specs.Decoding.{decoded_strings}
use Rattle.hdt_front.proofs.WriterSteps.{none_kept}
use Rattle.hdt_front.proofs.section_writer.SectionWriter.new.Goals as goal

pub invariant_of-result : goal.invariant_of-result
invariant_of-result c = rw (
  c.new.ensures.items,
  c.new-2.ensures.items,
  c.new-3.ensures.items,
) (none_kept c.args.block_size c.requires.block c.ranges.block_size.fits)

pub returns : goal.returns
unfolding decoded_strings
returns c = refl
