use Rattle.hdt_triples.specs.Remaining.{remaining_matches}
use Rattle.hdt_file.specs.Graph.{layout_view}
use Rattle.hdt_file.proofs.WritableLaws.{lines_found, lines_have}
use Rattle.hdt_file.proofs.writable.layout_writable_matches.Goals as goal

pub returns-clause-kept : goal.returns-clause-kept
returns-clause-kept c =
    lines_found (layout_view c.args.layout.now) c.args.flags.now c.args.most c.args.pattern
    (remaining_matches c.search_if_given.result) c.collect_writable.result c.search_if_given.ensures.items
    c.requires
    c.collect_writable.ensures.kept c.collect_writable.ensures.skipped

pub returns-clause-lines : goal.returns-clause-lines
returns-clause-lines c =
    lines_have (layout_view c.args.layout.now) c.args.flags.now c.args.most
    (remaining_matches c.search_if_given.result) c.collect_writable.result c.requires
    c.collect_writable.ensures.kept
