use Rattle.std.proofs.Common.{[], subst}
use Rattle.hdt_build.specs.Inside.Sequences.{HavePushed}
use Rattle.hdt_build.proofs.SequencePushes.{have_pushed_all, have_pushed_more}
use Rattle.hdt_build.proofs.triple_sequences.sequences_of_packed.Goals as goal

pub triples-init : goal.triples-init
triples-init c = record { done = []; pushed = c.in_ok-made.ensures; all_are = c.reader-reader.ensures }

pub triples-preserved : goal.triples-preserved
triples-preserved c =
    have_pushed_more c.args.triples.now c.triples.made c.push.new.self c.in-Some.triple c.next.new.self
    c.in_ok-push.ensures
    (subst (HavePushed c.args.triples.now c.triples.made) c.in-Some.ensures.some c.triples.invariant)

pub returns : goal.returns
returns c =
    have_pushed_all c.args.triples.now c.triples.made c.triples.reader c.in_default.ensures.none c.triples.invariant
