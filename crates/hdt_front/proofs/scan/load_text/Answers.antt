use Rattle.std.proofs.Common.{not, nat_eq, refl, arith}
use Rattle.std.proofs.lemmas.Simd.{zip2_splat, length-chunk}
use lib.Lanes.{chunk}
use Rattle.hdt_front.proofs.SimdLoads.{load_runs}
use Rattle.hdt_front.proofs.scan.load_text.Goals as goal

pub returns : goal.returns
returns c =
    let v = chunk c.args.at 16 c.args.bytes.now in
    let long = length-chunk c.args.at 16 c.args.bytes.now c.requires.inside in
    load_runs (λ b. not (nat_eq b 0)) c.args.bytes.now c.args.at 16 _ _ c.requires.inside
    (omega arith) c.type_inv.bytes c.requires.so_far c.first_set.ensures _
    (zip2_splat _ v 16 _ long) refl
