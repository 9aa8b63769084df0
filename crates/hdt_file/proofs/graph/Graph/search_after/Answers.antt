use Rattle.std.proofs.Common.{arith}
use Rattle.hdt_triples.specs.Bounds.{lookup_cost, start_cost}
use Rattle.hdt_file.proofs.graph.Graph.search_after.Goals as goal

pub returns-in-None-None-Some-clause-cost : goal.returns-in-None-None-Some-clause-cost
unfolding start_cost lookup_cost
returns-in-None-None-Some-clause-cost c = omega (arith, c.find_object_after.ensures.cost)
