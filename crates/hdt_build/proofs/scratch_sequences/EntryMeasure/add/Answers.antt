use Rattle.hdt_build.specs.Inside.ScratchSequences.{HaveMeasured}
use Rattle.hdt_build.specs.Inside.TripleEntries.{with_entry}
use Rattle.std.proofs.Common.{refl, subst}
use Rattle.hdt_build.proofs.ScratchSequences.{one_measured}
use Rattle.hdt_build.proofs.scratch_sequences.EntryMeasure.add.Goals as goal

pub returns : goal.returns
returns c = λ all rest h.
    one_measured all rest c.in-Some.entry c.args.self.now _ refl c.max-self.ensures
    (subst (λ e. HaveMeasured all (with_entry e rest) c.args.self.now) c.in-Some.is h)
