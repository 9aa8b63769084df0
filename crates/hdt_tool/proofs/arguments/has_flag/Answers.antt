use Rattle.std.proofs.Common.{◌∙◌}
use Rattle.clap.specs.Words.{found_of}
use Rattle.clap.proofs.WalkLemmas.{one_text-rows}
use Rattle.hdt_tool.proofs.arguments.has_flag.Goals as goal

pub returns-clause-given : goal.returns-clause-given
returns-clause-given c =
    let flag = one_text-rows (found_of c.args.matches.now) c.args.id.now in
    (λ e. c.get_flag.ensures.value (flag ∙ e), λ e. c.get_flag.ensures.other (flag ∙ e))

pub returns-clause-none : goal.returns-clause-none
returns-clause-none c e = c.get_flag.ensures.none (one_text-rows (found_of c.args.matches.now) c.args.id.now ∙ e)
