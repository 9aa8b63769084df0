use Rattle.std.proofs.Common.{sym, ◌≡◌, ◌∙◌, arith, length}
use Rattle.hdt_file.proofs.TermFlagLaws.{all_true}
use Rattle.hdt_file.proofs.term_flags.shortened.Goals as goal

pub returns : goal.returns
returns c =
    let same : c.len.result ≡ length c.args.flags.items = omega (arith, c.len.ensures, c.args.flags.ok.0) in
    rw same
    (all_true c.args.flags.items (rw c.deref.ensures.value at (sym c.contains.ensures.value ∙ c.if-contains.false)))
