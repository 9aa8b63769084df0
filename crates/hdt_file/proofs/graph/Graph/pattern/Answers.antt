use Rattle.std.proofs.Common.{◌≡◌, ◌↔◌, Some, subst}
use Rattle.hdt_file.specs.File.{GraphParts}
use Rattle.hdt_file.specs.Search.{IsPattern}
use Rattle.hdt_file.proofs.graph.Graph.pattern.Goals as goal

pub returns-clause-exact : goal.returns-clause-exact
returns-clause-exact c = λ p. subst (λ (g : GraphParts). (c.pattern.result ≡ Some p)
    ↔ IsPattern g c.args.given p) c.layout.ensures.seen (c.pattern.ensures.exact p)
