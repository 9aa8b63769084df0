-- The handle has the graph that was opened.
use mathlib.Core.Path.{ap, ◌∙◌}
use Rattle.std.specs.Prelude.{Some}
use Rattle.hdt_c.specs.Inside.ResourceKind.{graph_of}
use Rattle.hdt_c.proofs.opening.open_into.Goals as goal

pub returns-in-Ok-new-clause-ok : goal.returns-in-Ok-new-clause-ok
returns-in-Ok-new-clause-ok c = record {
  graph = c.in_ok-opened.opened;
  resource = (
    c.put.ensures.0,
    ap graph_of (c.put.ensures.1 ∙ ap Some c.in-Ok-new.ensures.ok) ∙ ap Some c.in-Ok.ensures.ok,
  );
  is = c.in_ok-opened.ensures.found;
}
