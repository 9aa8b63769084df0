use Rattle.std.proofs.Common.{rules, ◌≡◌, ◌∙◌}
use Rattle.hdt_usage.specs.ShownLine.{marked_text}
use Rattle.hdt_usage.proofs.Shown.{marked_parts}
use Rattle.hdt_usage.proofs.shown_line.marked_line.Goals as goal

pub returns : goal.returns
returns c =
    let gained : c.put_marked.new.out.items ≡ marked_text c.deref.result.now c.len-place.result c.args.width =
    search rules in
    gained ∙ marked_parts c.args.line.now c.deref.result.now c.put_shown.new.out.items c.args.before c.len-place.result
    c.args.width (search rules) (search rules) (search rules)
