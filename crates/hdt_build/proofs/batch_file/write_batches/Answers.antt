use Rattle.std.proofs.lemmas.Result.{IfOk-weaker}
use Rattle.hdt_build.proofs.batch_file.write_batches.Goals as goal

pub returns-clause-written : goal.returns-clause-written
returns-clause-written g c =
    IfOk-weaker c.write_file.result _ _
    (λ made written known some. written known c.args.batches some (c.in_ok-encoded.ensures.encoded known))
    c.write_file.ensures.written
