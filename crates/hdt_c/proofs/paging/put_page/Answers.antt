-- The matches of the page are written.
use Rattle.std.proofs.Common.{rules}
use Rattle.hdt_file.specs.Graph.{graph_view}
use Rattle.hdt_c.proofs.PageLaws.{page_is_put}
use Rattle.hdt_c.proofs.paging.put_page.Goals as goal

pub returns-in-Ok-Some : goal.returns-in-Ok-Some
returns-in-Ok-Some c = page_is_put (graph_view c.args.graph.now) c.args.pattern c.in-Some.pattern c.args.from
    c.put_triples.result c.in-Ok-Some.index c.args.buffer.now c.put_triples.new.buffer c.deref.result.now c.in-Some.is
    (search rules) c.put_triples.ensures.count c.put_triples.ensures.put (search rules)
