use Rattle.std.proofs.Common.{◌∙◌}
use Rattle.hdt_tool.proofs.Triples.{some_found}
use Rattle.hdt_tool.proofs.printed_triples.check_match.Goals as goal

pub returns-clause-ok : goal.returns-clause-ok
returns-clause-ok c = record {
  found = _;
  finds = c.find_pattern-pattern.ensures;
  holds =
      some_found _ (λ z. c.if-count_layout_matches-eq0.false (c.count_layout_matches.ensures ∙ z));
}
