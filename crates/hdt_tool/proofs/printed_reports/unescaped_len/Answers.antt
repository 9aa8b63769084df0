use Rattle.std.proofs.Common.{arith}
use Rattle.hdt_tool.proofs.Escaping.{plain_byte}
use Rattle.hdt_tool.proofs.printed_reports.unescaped_len.Goals as goal

pub returns-in-Some-clause-plain : goal.returns-in-Some-clause-plain
returns-in-Some-clause-plain c = λ k lt. plain_byte _ (c.in-Some.ensures.0.before k (omega arith) lt)

pub returns-in-None-clause-plain : goal.returns-in-None-clause-plain
returns-in-None-clause-plain c = λ k lt. plain_byte _ (c.in-None.ensures k (omega arith) lt)
