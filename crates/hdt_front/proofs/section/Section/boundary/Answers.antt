use Rattle.hdt_front.specs.Strings.{strings_of}
use Rattle.hdt_front.specs.PackedView.{block_layout}
use Rattle.hdt_front.proofs.CheckedBlocks.{ascends}
use Rattle.hdt_front.proofs.PrefixLemmas.{boundary_at}
use Rattle.hdt_front.proofs.section.Section.boundary.Goals as goal

pub returns-in-Ok-clause-place : goal.returns-in-Ok-clause-place
unfolding strings_of
returns-in-Ok-clause-place c =
    let s = c.args.self.now in let p = c.args.self.now.packed in
    boundary_at c.args.bound c.args.prefix.now (strings_of s) c.in-Ok.at
    (ascends (block_layout p) p.count p.bytes.now s.read) c.in-Ok.ensures.place
