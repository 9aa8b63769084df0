use Rattle.std.proofs.Common.{[], refl}
use Rattle.hdt_build.proofs.SectionTapes.{none_moved}
use Rattle.hdt_build.proofs.section_tape.SectionTape.new.Goals as goal

pub invariant_of-result : goal.invariant_of-result
invariant_of-result g c =
    rw (c.new.ensures, c.new-2.ensures, c.new-3.ensures, c.new-4.ensures) (record {
      some = c.requires.block;
      block = refl;
      counted = refl;
      moved = λ _ known. none_moved c.args.block_size [] _ [] [] refl refl refl refl;
    })
