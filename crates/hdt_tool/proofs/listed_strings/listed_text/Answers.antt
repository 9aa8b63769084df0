use Rattle.hdt_tool.proofs.ListedLines.{ascending_ids}
use Rattle.hdt_tool.proofs.listed_strings.listed_text.Goals as goal

pub look_up_lines-requires : goal.look_up_lines-requires
look_up_lines-requires c = rw c.deref.ensures.value (ascending_ids _ c.args.prefix.now _ c.in_ok-ids.ensures)

pub scan_lines-requires : goal.scan_lines-requires
scan_lines-requires c = rw c.deref-2.ensures.value (ascending_ids _ c.args.prefix.now _ c.in_ok-ids.ensures)
