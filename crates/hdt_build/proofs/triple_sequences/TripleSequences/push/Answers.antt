use Rattle.std.proofs.Common.{refl}
use Rattle.hdt_build.proofs.SequencePushes.{pushed_same, pushed_other}
use Rattle.hdt_build.proofs.triple_sequences.TripleSequences.push.Goals as goal

pub returns-then-same_pair : goal.returns-then-same_pair
returns-then-same_pair c = λ ts h.
    pushed_same ts c.args.triple c.args.self.now _ c.has_pair-same_pair.result c.if-same_pair.true
    c.has_pair-same_pair.ensures.none c.has_pair-same_pair.ensures.some c.in_ok-push.ensures refl
    c.in_ok-push_bit.ensures refl refl h

pub returns : goal.returns
returns c = λ ts h.
    pushed_other ts c.args.triple c.args.self.now _ c.has_pair-same_pair.result c.has_subject-same_subject.result
    c.if-same_pair.false c.has_pair-same_pair.ensures.some c.has_subject-same_subject.ensures.none
    c.has_subject-same_subject.ensures.some c.in_ok-push.ensures refl c.in_ok-push_bit.ensures
    c.in_ok-push_bit-2.ensures c.in_ok-push-2.ensures h
