use Rattle.std.proofs.Common.{sym, []}
use Rattle.hdt_front.specs.Strings.{strings_of}
use Rattle.hdt_front.specs.PackedView.{block_layout}
use Rattle.hdt_front.specs.Laws.StringSteps.{length-decoded_strings, few}
use Rattle.hdt_front.proofs.section.Section.len.Goals as goal

pub returns-clause-is : goal.returns-clause-is
unfolding strings_of
returns-clause-is c = let p = c.args.self.now.packed in
    sym (length-decoded_strings p.block_size p.count 0 [] p.bytes.now)

pub returns-clause-few : goal.returns-clause-few
returns-clause-few c = let p = c.args.self.now.packed in
    few (block_layout p) p.count 0 [] p.bytes.now c.args.self.now.read
