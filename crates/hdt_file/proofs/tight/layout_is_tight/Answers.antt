use Rattle.hdt_file.proofs.TightLaws.{layout_decided}
use Rattle.hdt_file.proofs.tight.layout_is_tight.Goals as goal

pub returns-in-Ok : goal.returns-in-Ok
returns-in-Ok c = rw c.is_ok.ensures.value
    (layout_decided c.args.layout.now c.in-Ok.graph c.check_strings.result c.in-Ok.ensures.graph c.check_strings.ensures)
