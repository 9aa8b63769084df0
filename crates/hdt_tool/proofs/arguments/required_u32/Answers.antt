use Rattle.std.proofs.Common.{ℕ, Option, None, Some, arith}
use Rattle.clap.specs.Words.{Text}
use Rattle.hdt_tool.specs.CommandLine.{ParsesAsNumber}
use Rattle.hdt_tool.proofs.ParsedArguments.{without}
use Rattle.hdt_tool.proofs.arguments.required_u32.Goals as goal

wider : (o : Option Text) (n : ℕ) → ParsesAsNumber 32 o n → ParsesAsNumber 64 o n
wider None n h = h
wider (Some t) n h = (h.0, omega arith, h.2)

pub returns-in-None-clause-refused : goal.returns-in-None-clause-refused
returns-in-None-clause-refused c =
    without _ _ c.missing-in-None.result (λ w. c.in-None.ensures w.0 (wider _ w.0 w.1)) c.missing-in-None.ensures
