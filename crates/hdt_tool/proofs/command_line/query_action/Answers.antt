use Rattle.std.proofs.lemmas.Result.{IfErr-weaker}
use Rattle.clap.specs.Words.{found_of, rows_of}
use Rattle.hdt_tool.proofs.ParsedArguments.{merge_needed, split_needed, without_or}
use Rattle.hdt_tool.specs.CommandLine.{HasInvalidTerm}
use Rattle.hdt_tool.proofs.command_line.query_action.Goals as goal

pub returns-in-split-clause-refused : goal.returns-in-split-clause-refused
returns-in-split-clause-refused c =
    let rows = rows_of (found_of c.args.matches.now) in
    IfErr-weaker c.split_action.result _ _
    (λ r h. without_or _ _ (HasInvalidTerm c.args.name.now rows) r
    (λ w. split_needed c.args.name.now rows c.in-split.is w.0 w.1) h) c.split_action.ensures.refused

pub returns-in-merge-clause-refused : goal.returns-in-merge-clause-refused
returns-in-merge-clause-refused c =
    let rows = rows_of (found_of c.args.matches.now) in
    IfErr-weaker c.merge_action.result _ _
    (λ r h. without_or _ _ (HasInvalidTerm c.args.name.now rows) r
    (λ w. merge_needed c.args.name.now rows c.in-merge.is w.0 w.1) h) c.merge_action.ensures.refused
