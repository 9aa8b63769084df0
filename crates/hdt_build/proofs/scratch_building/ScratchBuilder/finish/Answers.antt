use Rattle.std.proofs.Common.{◌∙◌, ◌<◌, List, length, subst, sym}
use Rattle.std.proofs.lemmas.Result.{IfOk-weaker}
use Rattle.hdt_wire.specs.Counted.{inner}
use Rattle.hdt_file.specs.Denoted.{StringTriple}
use Rattle.hdt_build.specs.Built.{WritesTriples}
use Rattle.hdt_build.proofs.scratch_building.ScratchBuilder.finish.Goals as goal

pub write_batches-requires : goal.write_batches-requires
write_batches-requires g c = c.are_valid_options.ensures.0 c.if-not-are_valid_options.false

pub returns-clause-written : goal.returns-clause-written
returns-clause-written g c =
    IfOk-weaker c.write_batches.result _ _
    (λ made written known.
    let same = c.in_ok-flush.ensures.same known ∙ c.self.view_is in
    subst (λ (ts : List StringTriple). WritesTriples c.args.options.now ts (g.W.Write.contents (inner c.args.out))
    (g.W.Write.contents (inner made.0)) made.1) same
    (written known (subst (λ (ts : List StringTriple). 0 < length ts) (sym same) (c.requires known))))
    c.write_batches.ensures.written

pub returns-clause-bad : goal.returns-clause-bad
returns-clause-bad g c =
    λ wrong. absurd (wrong (c.are_valid_options.ensures.0 c.if-not-are_valid_options.false))
