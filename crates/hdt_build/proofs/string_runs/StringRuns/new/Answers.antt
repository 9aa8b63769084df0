use Rattle.std.proofs.Common.{◌∙◌, List, ℕ, ap, length, sym}
use Rattle.hdt_build.specs.Inside.TripleRuns.{joined_runs}
use Rattle.hdt_build.proofs.TripleRuns.{joined_none}
use Rattle.hdt_build.proofs.string_runs.StringRuns.new.Goals as goal

pub invariant_of-result : goal.invariant_of-result
invariant_of-result c =
    sym (ap (λ (rs : List (List (List ℕ))). length (joined_runs rs)) c.new.ensures.items ∙ ap length joined_none)

pub returns : goal.returns
returns c = ap (λ (rs : List (List (List ℕ))). joined_runs rs) c.new.ensures.items ∙ joined_none
