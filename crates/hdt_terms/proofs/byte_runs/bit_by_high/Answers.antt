use Rattle.std.proofs.Common.{◌/◌, arith}
use Rattle.std.proofs.lemmas.Simd.{zip2_splat}
use Rattle.hdt_terms.specs.declared.byte_runs.TheConstants.{ROWS}
use Rattle.hdt_terms.proofs.Swizzles.{down, high_ok, looked_up}
use Rattle.hdt_terms.proofs.byte_runs.bit_by_high.Goals as goal

pub swizzle : goal.swizzle
swizzle c = high_ok c.args.v c.fits-v

pub returns : goal.returns
returns c = looked_up ROWS (λ x. x / 16) c.args.v _ c.fits-v (zip2_splat down c.args.v 16 4 c.fits-v.0)
    (λ x h. omega arith)
