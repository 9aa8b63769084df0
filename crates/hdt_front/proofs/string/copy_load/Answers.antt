use Rattle.std.proofs.Common.{not, nat_eq, refl, arith}
use Rattle.std.proofs.lemmas.Simd.{zip2_splat, length-chunk}
use lib.Lanes.{chunk}
use Rattle.hdt_front.proofs.SimdLoads.{load_runs}
use Rattle.hdt_front.proofs.DecodingLemmas.{copied}
use Rattle.hdt_front.proofs.string.copy_load.Goals as goal

pub returns-clause-reaches : goal.returns-clause-reaches
returns-clause-reaches c =
    let v = chunk 0 32 c.args.bytes.now in
    let long = length-chunk 0 32 c.args.bytes.now c.requires.load in
    load_runs (λ b. not (nat_eq b 0)) c.args.bytes.now 0 32 _ _ c.requires.load (omega arith) c.type_inv.bytes
    (omega arith) c.first_set.ensures _
    (zip2_splat _ v 32 _ long) refl

pub returns-clause-text : goal.returns-clause-text
returns-clause-text c =
    let long = length-chunk 0 32 c.args.bytes.now c.requires.load in
    copied c.args.at 32 c.first_set.result c.args.buffer.now c.args.bytes.now
    (omega (arith, (returns-clause-reaches c).within)) c.requires.within c.requires.load
