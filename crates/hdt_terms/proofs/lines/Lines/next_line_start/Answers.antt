use Rattle.std.proofs.Common.{◌≡◌, length, rules}
use Rattle.hdt_terms.proofs.LineStarts.{start_taken}
use Rattle.hdt_terms.proofs.lines.Lines.next_line_start.Goals as goal

pub returns-in-Ok-put_end-clause-does : goal.returns-in-Ok-put_end-clause-does
returns-in-Ok-put_end-clause-does g c =
    let len : c.len-n.result ≡ length c.take_prefix.new.text.items = search rules in
    start_taken c.args.most c.len-n.result c.args.self.now c.take_prefix.new.self _ _ c.take_prefix.new.text.items
    c.put_end.new.bytes.items c.in-Ok.ensures.does len c.in-Ok-put_end.ensures
