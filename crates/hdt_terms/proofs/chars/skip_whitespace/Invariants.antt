use Rattle.std.proofs.Common.{◌≡◌, length}
use Rattle.hdt_terms.specs.TermParsing.{skip_whitespace}
use Rattle.hdt_terms.proofs.chars.skip_whitespace.Given as goal

abbrev pub invariant-whitespace : goal.invariant-whitespace
invariant-whitespace l = skip_whitespace l.rest ≡ skip_whitespace l.bytes

abbrev pub decreases-whitespace : goal.decreases-whitespace
decreases-whitespace l = length l.rest
