use Rattle.std.proofs.Common.{◌≡◌, ◌+◌, length, arith}
use Rattle.hdt_build.proofs.SectionTapes.{offsets_put}
use Rattle.hdt_build.proofs.section_tape.put_starts.Goals as goal

pub returns : goal.returns
returns g c = λ known.
    let counted : c.saturating_add-count.result ≡ length c.args.starts.now + 1 =
    omega (arith, c.in_ok-written.ensures.count known) in
    offsets_put c.args.starts.now c.args.end c.saturating_add-count.result c.width_of.result c.args.out
    c.in_ok-finish.field-0 c.in_ok-writer.writer c.push_entries.new.writer c.push.new.self c.width_of.ensures.is
    (c.requires known) counted c.in_ok-writer.ensures (c.in_ok-written.ensures.entries known) c.in_ok-push.ensures
    c.in_ok-finish.ensures
