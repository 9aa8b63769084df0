use Rattle.std.proofs.Common.{◌≡◌, drop}
use Rattle.hdt_usage.specs.Hints.{hint_in}
use Rattle.hdt_usage.proofs.hints.hint_in.Given as goal

abbrev pub invariant-hints : goal.invariant-hints
invariant-hints l = hint_in l.first l.hints ≡ hint_in l.first (drop l.hint-index l.hints)
