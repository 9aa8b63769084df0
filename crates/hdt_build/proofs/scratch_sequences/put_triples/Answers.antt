use Rattle.std.proofs.lemmas.Result.{IfOk-weaker}
use Rattle.hdt_build.proofs.ScratchSequences.{puts_triples}
use Rattle.hdt_build.proofs.scratch_sequences.put_triples.Goals as goal

pub returns : goal.returns
returns g c =
    IfOk-weaker c.put_sequence-4.result _ _ (λ made last known are some.
    puts_triples c.args.triples.now c.args.out c.put_head.new.out c.in_ok-out.out c.in_ok-out-2.out c.in_ok-out-3.out
    made c.in_ok-put_head.ensures (c.in_ok-out.ensures known are) (c.in_ok-out-2.ensures known are)
    (c.in_ok-out-3.ensures known are) (last known are)) c.put_sequence-4.ensures
