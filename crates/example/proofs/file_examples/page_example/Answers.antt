use Rattle.std.proofs.Common.{◌<◌, ℕ, List, Option, Some, None, IfSome, length, sym, subst, arith}
use Rattle.hdt_triples.specs.declared.pattern.Pattern.{Pattern}
use Rattle.hdt_triples.specs.TripleSequences.{Triple}
use Rattle.hdt_file.specs.Graph.{graph_view}
use Rattle.hdt_file.specs.Paging.{IsNextMatch}
use Rattle.example.proofs.file_examples.page_example.Invariants.{left}
use Rattle.example.proofs.file_examples.page_example.Goals as goal

less : (ts : List Triple) (p : Pattern) (at : ℕ) (next : Option ℕ) → IfSome next (IsNextMatch ts p at 100)
    → left (length ts) next < left (length ts) (Some at)
unfolding left
less ts p at None _ = omega arith
less ts p at (Some n) it = omega (arith, it.within, it.later)

pub loop-from-smaller : goal.loop-from-smaller
loop-from-smaller c =
    let ts = (graph_view c.args.graph.now).triples in
    subst (λ from. left (length ts) c.in_ok-from.from < left (length ts) from) (sym c.in-Some.is)
    (less ts c.args.pattern c.in-Some.at c.in_ok-from.from c.in_ok-from.ensures.next)
