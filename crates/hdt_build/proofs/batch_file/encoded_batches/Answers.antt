use Rattle.hdt_build.proofs.batch_file.encoded_batches.Goals as goal

pub returns-in-Ok-Some-clause-encoded : goal.returns-in-Ok-Some-clause-encoded
returns-in-Ok-Some-clause-encoded g c known =
    let made = rw c.in-Ok-Some.field-0-is at c.in-Ok-Some.ensures in
    made.encoded known c.args.batches (c.in-Some.ensures known)
