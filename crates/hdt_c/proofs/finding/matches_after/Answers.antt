-- Without a pattern there are no matches.
use Rattle.std.proofs.Common.{ap, arith, drop, sym, ◌∙◌}
use Rattle.std.proofs.lemmas.List.{drop_all}
use Rattle.std.specs.Prelude.{[], Option}
use Rattle.hdt_file.specs.Graph.{graph_view}
use Rattle.hdt_file.specs.TextWriting.{matches_if_given}
use Rattle.hdt_triples.specs.Remaining.{remaining_matches}
use Rattle.hdt_triples.specs.declared.pattern.Pattern.{Pattern}
use Rattle.hdt_c.proofs.finding.matches_after.Goals as goal

pub returns-in-None : goal.returns-in-None
unfolding remaining_matches
returns-in-None c =
    sym (drop_all c.args.skip [] (omega arith))
    ∙ sym (ap (λ (pattern : Option Pattern). drop c.args.skip (matches_if_given (graph_view c.args.graph.now) pattern))
    c.in-None.is)
