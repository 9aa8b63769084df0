use Rattle.std.proofs.Common.{refl}
use Rattle.hdt_front.specs.PackedView.{block_layout}
use Rattle.hdt_front.specs.Laws.Section.{strings_ascend_in}
use Rattle.hdt_front.specs.Strings.{strings_of}
use Rattle.hdt_front.proofs.section.Section.strings_are_valid.Goals as goal

pub returns : goal.returns
unfolding strings_of
returns c =
    let s = c.args.self.now in
    strings_ascend_in (block_layout s.packed) s.packed.count s.packed.bytes.now refl c.are_bytes.ensures s.read
