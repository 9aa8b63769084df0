use Rattle.std.proofs.Common.{◌∙◌, ap}
use Rattle.hdt_tool.specs.NewHeader.{MakesNewHeader}
use Rattle.hdt_tool.specs.PrintedReports.{rewritten_line}
use Rattle.hdt_tool.proofs.new_header.with_new_header.Goals as goal

pub returns-clause-ok : goal.returns-clause-ok
returns-clause-ok g c =
    let made = c.in_ok-file.ensures.made in
    let holds : MakesNewHeader c.args.header.now c.deref.result.now c.in_ok-line.line.items c.in_ok-file.file.items =
    record {
      graph = made.0;
      replaces = made.1;
      layout = c.in_ok-file.ensures.graph made.0 made.1.layout;
      printed = c.in_ok-line.ensures ∙ ap rewritten_line made.2;
    } in
    record {
      bytes = c.in_ok-bytes.bytes.items;
      read = c.in_ok-bytes.ensures.ok;
      holds = rw c.deref.ensures.value at holds;
    }
