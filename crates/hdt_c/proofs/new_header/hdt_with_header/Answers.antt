use Rattle.std.proofs.Common.{◌∙◌, ap, inl}
use Rattle.hdt_c.specs.Building.{built_report}
use Rattle.hdt_c.specs.Rewriting.{rewritten_verdict}
use Rattle.hdt_c.proofs.new_header.hdt_with_header.Goals as goal

pub returns-in-Ok-put : goal.returns-in-Ok-put
returns-in-Ok-put c =
    let made = c.in-Ok.ensures.made in
    inl (record {
      new = c.in-Ok.new.items;
      graph = made.0;
      is = made.1;
      layout = c.in-Ok.ensures.graph made.0 made.1.layout;
      made = c.in-Ok-put.ensures.ok;
      verdict = c.rewritten_verdict.ensures ∙ ap rewritten_verdict made.2;
      report = c.built_report.ensures ∙ ap built_report made.2;
    })
