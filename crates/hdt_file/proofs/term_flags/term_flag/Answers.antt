use Rattle.std.proofs.Common.{arith}
use Rattle.hdt_file.proofs.TermFlagLaws.{all_flag}
use Rattle.hdt_file.proofs.term_flags.term_flag.Goals as goal

pub returns-in-AllTerms : goal.returns-in-AllTerms
returns-in-AllTerms c =
    rw c.in-AllTerms.is
    (all_flag c.in-AllTerms.count c.args.n (omega (arith, c.if-n-eq0.false)))
