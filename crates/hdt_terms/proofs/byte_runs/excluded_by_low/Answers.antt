use Rattle.std.proofs.Common.{bit_and, arith}
use Rattle.std.proofs.lemmas.Nat.{and_le_r}
use Rattle.std.proofs.lemmas.Simd.{zip2_splat}
use Rattle.hdt_terms.specs.declared.byte_runs.TheConstants.{EXCLUDED}
use Rattle.hdt_terms.proofs.Swizzles.{low_ok, looked_up}
use Rattle.hdt_terms.proofs.byte_runs.excluded_by_low.Goals as goal

pub swizzle : goal.swizzle
swizzle c = low_ok c.args.v c.fits-v

pub returns : goal.returns
returns c = looked_up EXCLUDED (λ x. bit_and x 15) c.args.v _ c.fits-v (zip2_splat bit_and c.args.v 16 15 c.fits-v.0)
    (λ x h. omega (arith, and_le_r x 15))
