use Rattle.std.proofs.Common.{◌<◌, ◌^◌, arith, rules}
use Rattle.std.proofs.lemmas.Result.{IfOk-weaker}
use Rattle.hdt_terms.proofs.LineStarts.{whole_start}
use Rattle.hdt_terms.proofs.lines.Lines.next_whole_line.Goals as goal

pub returns-clause-does : goal.returns-clause-does
returns-clause-does g c =
    let within : c.args.self.now.limit < 2 ^ 63 = search rules in
    IfOk-weaker c.next_line_start.result _ _ (λ n t. whole_start _ n c.args.self.now c.next_line_start.new.self _ _ _
    (omega (arith, within)) t) c.next_line_start.ensures.does
