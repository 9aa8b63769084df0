use Rattle.std.proofs.Common.{ℕ, leb, cond, refl, arith}
use Rattle.std.proofs.lemmas.Simd.{zip2_splat, zip2_of_maps, splat_is_map, length-chunk}
use lib.Lanes.{chunk}
use Rattle.hdt_front.specs.Inside.LoadRuns.{is_nonzero_ascii}
use Rattle.hdt_front.proofs.SimdLoads.{load_runs}
use Rattle.hdt_front.proofs.scan.load_ascii.Goals as goal

pub returns : goal.returns
returns c =
    let v = chunk c.args.at 32 c.args.bytes.now in
    let long = length-chunk c.args.at 32 c.args.bytes.now c.requires.inside in
    load_runs is_nonzero_ascii c.args.bytes.now c.args.at 32 _ _ c.requires.inside
    (omega arith) c.type_inv.bytes c.requires.so_far c.first_set.ensures _
    (zip2_of_maps (λ a b. cond (leb a b) 255 0) _ _ v (splat_is_map v 32 _ long) (zip2_splat {Y = ℕ} _ v 32 _ long))
    refl
