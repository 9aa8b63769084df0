use Rattle.std.proofs.Common.{refl, arith}
use Rattle.std.proofs.lemmas.Simd.{zip2_splat, zip2_of_maps, length-chunk}
use lib.Lanes.{chunk}
use Rattle.hdt_terms.specs.declared.escaped_tokens.Token.TheVariants.{Quoted}
use Rattle.hdt_terms.specs.declared.byte_runs.ByteClass.TheVariants.{Unescaped}
use Rattle.hdt_terms.specs.Inside.ByteRuns.{passes}
use Rattle.hdt_terms.proofs.Loads.{run_of}
use Rattle.hdt_terms.proofs.byte_runs.string_run.Goals as goal

pub returns : goal.returns
returns c =
    let v = chunk c.args.at 16 c.args.bytes.now in
    let long = length-chunk c.args.at 16 c.args.bytes.now c.requires in
    run_of (passes (Unescaped Quoted)) c.args.bytes.now c.args.at 16 _ _ c.requires
    (omega arith) c.type_inv.bytes c.first_set.ensures _
    (zip2_of_maps _ _ _ v (zip2_of_maps _ _ _ v
    (zip2_of_maps _ _ _ v (zip2_of_maps _ _ _ v (zip2_splat _ v 16 _ long) (zip2_splat _ v 16 _ long))
    (zip2_splat _ v 16 _ long)) (zip2_splat _ v 16 _ long)) (zip2_splat _ v 16 _ long)) refl
