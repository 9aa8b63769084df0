use Rattle.hdt_tool.proofs.Escaping.{run_behind}
use Rattle.hdt_tool.proofs.printed_reports.put_unescaped.Goals as goal

pub returns : goal.returns
returns c =
    rw (c.in_ok-extend_from_slice.ensures.items, c.split_at.ensures.front, c.split_at.ensures.back)
    (run_behind c.args.out.now.items c.unescaped_len.result c.args.text.now c.unescaped_len.ensures.within
    c.unescaped_len.ensures.plain)
