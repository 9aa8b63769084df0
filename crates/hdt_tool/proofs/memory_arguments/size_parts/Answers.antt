use Rattle.std.proofs.Common.{sym}
use Rattle.hdt_tool.proofs.Sizes.{plain_digits, plain_unit}
use Rattle.hdt_tool.proofs.memory_arguments.size_parts.Goals as goal

pub returns-clause-digits : goal.returns-clause-digits
unfolding lib.Utf8.encode
returns-clause-digits c =
    plain_digits c.args.text.now (plain_unit c.args.text.now c.in_default.ensures.cases
    c.in_default-strip_suffix.ensures.cases c.in_default-strip_suffix-2.ensures.cases)

pub returns-clause-unit : goal.returns-clause-unit
unfolding lib.Utf8.encode
returns-clause-unit c =
    sym (plain_unit c.args.text.now c.in_default.ensures.cases
    c.in_default-strip_suffix.ensures.cases c.in_default-strip_suffix-2.ensures.cases)
