use Rattle.std.proofs.Common.{refl, arith}
use Rattle.std.proofs.lemmas.Simd.{zip2_of_maps, splat_is_map, length-chunk}
use lib.Lanes.{chunk}
use Rattle.hdt_terms.specs.declared.escaped_tokens.Token.TheVariants.{Iri}
use Rattle.hdt_terms.specs.declared.byte_runs.ByteClass.TheVariants.{Unescaped}
use Rattle.hdt_terms.specs.Inside.ByteRuns.{passes}
use Rattle.hdt_terms.proofs.Loads.{run_of}
use Rattle.hdt_terms.proofs.byte_runs.iri_run.Goals as goal

pub returns : goal.returns
returns c =
    let v = chunk c.args.at 16 c.args.bytes.now in
    let long = length-chunk c.args.at 16 c.args.bytes.now c.requires in
    run_of (passes (Unescaped Iri)) c.args.bytes.now c.args.at 16 _ _ c.requires
    (omega arith) c.type_inv.bytes c.first_set.ensures _
    (zip2_of_maps _ _ _ v (zip2_of_maps _ _ _ v c.excluded_by_low.ensures c.bit_by_high.ensures)
    (splat_is_map v 16 _ long)) refl
