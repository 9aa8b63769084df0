use Rattle.std.proofs.Common.{◌≡◌, length, sym, ap, subst, ◌∙◌, arith}
use Rattle.hdt_wire.specs.Control.{ControlInfo, HasNoZero}
use Rattle.hdt_file.specs.Head.{head_parts}
use Rattle.hdt_build.proofs.HeaderProperties.{new_no_zero}
use Rattle.hdt_build.proofs.new_header.replaced.Goals as goal

pub put_control-requires : goal.put_control-requires
put_control-requires c =
    let text = c.properties.result.now in
    let same : text ≡ (head_parts c.args.head.now).header.properties =
    c.properties.ensures ∙ ap (λ (i : ControlInfo). i.properties) c.header.ensures in
    let none : HasNoZero text = subst HasNoZero (sym same) c.requires.header.no_zero in
    rw (c.deref.ensures.value, c.in_ok-properties.ensures)
    (new_no_zero (length c.args.body.now) text (omega arith) none)
