use Rattle.std.proofs.Common.{◌≡◌, length}
use Rattle.hdt_terms.specs.Chars.{is_scheme_rest}
use Rattle.hdt_terms.proofs.chars.is_scheme_rest.Given as goal

abbrev pub invariant-loop-rest : goal.invariant-loop-rest
invariant-loop-rest l = is_scheme_rest l.rest ≡ is_scheme_rest l.text

abbrev pub decreases-loop-rest : goal.decreases-loop-rest
decreases-loop-rest l = length l.rest
