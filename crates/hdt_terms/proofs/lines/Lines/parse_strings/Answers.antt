use Rattle.std.proofs.Common.{ap}
use Rattle.hdt_terms.specs.LinesReader.{LinesState}
use Rattle.hdt_terms.proofs.LineChecks.{no_triple}
use Rattle.hdt_terms.proofs.lines.Lines.parse_strings.Goals as goal

pub returns-in-Err : goal.returns-in-Err
returns-in-Err c =
    let found = rw (c.as_slice.ensures, ap (λ (s : LinesState). s.buffered) c.self.view_is) at c.in-Err.ensures in
    no_triple c.args.self.now _ c.in-Err.field-0 c.fault.result c.requires.utf8 found c.fault.ensures
