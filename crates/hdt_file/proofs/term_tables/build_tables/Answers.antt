use Rattle.hdt_file.proofs.term_tables.build_tables.Goals as goal

pub returns : goal.returns
returns c = record {
  subjects = c.in_ok-render_used.ensures;
  predicates = c.in_ok-render_used-2.ensures;
  objects =
      c.in_ok-render_used-3.ensures;
}
