use Rattle.std.proofs.Common.{◌+◌, ◌<◌, ◌^◌, length}
use Rattle.hdt_file.proofs.NonTermLaws.{FindsUpTo}
use Rattle.hdt_file.proofs.non_terms.append_non_terms.Given as goal

abbrev pub invariant-strings : goal.invariant-strings
invariant-strings l =
    record {
      finds : FindsUpTo l.fn.role l.fn.before l.initial.strings.ahead l.fn.found.items l.number l.strings.ahead
          l.found.items;
      fits : l.number + length l.strings.ahead < 2 ^ 64;
    }

abbrev pub decreases-strings : goal.decreases-strings
decreases-strings l = length l.strings.ahead
