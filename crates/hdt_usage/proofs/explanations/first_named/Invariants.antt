use Rattle.std.proofs.Common.{◌≡◌, drop, map}
use Rattle.hdt_usage.specs.Explanations.{explained_error, first_named}
use Rattle.hdt_usage.proofs.explanations.first_named.Given as goal

abbrev pub invariant-errors : goal.invariant-errors
invariant-errors l = first_named l.word (map explained_error l.errors)
    ≡ first_named l.word (map explained_error (drop l.error-index l.errors))
