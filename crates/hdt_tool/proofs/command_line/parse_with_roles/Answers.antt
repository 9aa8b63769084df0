use Rattle.std.proofs.Common.{◌≡◌, ◌∙◌, List, None, Some, map, rules, sym}
use Rattle.clap.specs.Words.{Text, app_of, found_of, rows_of, subcommand_rows_of}
use Rattle.hdt_tool.proofs.Refusals.{stated, taken, refused_by, told, wanted, unwanted, without_command}
use Rattle.hdt_tool.proofs.command_line.parse_with_roles.Goals as goal

pub returns-in-Err-clause-refused : goal.returns-in-Err-clause-refused
returns-in-Err-clause-refused c =
    let words : List Text = map (λ word. word.now) c.args.words.now in
    told c.args.roles c.requires words c.in-Err.error c.usage_fault.result
    (refused_by c.args.roles (app_of c.in_ok-command.command) words c.in-Err.error c.in_ok-command.ensures
    c.in-Err.ensures.kinds) c.usage_fault.ensures

pub returns-in-Some-clause-ok : goal.returns-in-Some-clause-ok
returns-in-Some-clause-ok c =
    let words : List Text = map (λ word. word.now) c.args.words.now in
    let name : Text = c.in-Some.name.now in
    let entered : subcommand_rows_of c.in-Ok.matches ≡ Some (name, rows_of (found_of c.in-Some.entries.now)) =
    search rules in
    let is = sym (stated c.args.roles (app_of c.in_ok-command.command) words c.in-Ok.matches c.in_ok-command.ensures
    c.in-Ok.ensures.matches) ∙ entered in
    wanted c.args.roles c.requires words name
    (rows_of (found_of c.in-Some.entries.now)) c.invocation_or_explanation.result
    (taken c.args.roles (app_of c.in_ok-command.command) words c.in_ok-command.ensures c.in-Ok.ensures.kinds) is
    c.invocation_or_explanation.ensures.ok c.invocation_or_explanation.ensures.memory
    c.invocation_or_explanation.ensures.scratch c.invocation_or_explanation.ensures.progress
    c.invocation_or_explanation.ensures.verbose c.invocation_or_explanation.ensures.longest_line
    c.invocation_or_explanation.ensures.header

pub returns-in-Some-clause-refused : goal.returns-in-Some-clause-refused
returns-in-Some-clause-refused c =
    let words : List Text = map (λ word. word.now) c.args.words.now in
    let name : Text = c.in-Some.name.now in
    let entered : subcommand_rows_of c.in-Ok.matches ≡ Some (name, rows_of (found_of c.in-Some.entries.now)) =
    search rules in
    let is = sym (stated c.args.roles (app_of c.in_ok-command.command) words c.in-Ok.matches c.in_ok-command.ensures
    c.in-Ok.ensures.matches) ∙ entered in
    unwanted c.args.roles c.requires words name
    (rows_of (found_of c.in-Some.entries.now)) c.invocation_or_explanation.result
    (taken c.args.roles (app_of c.in_ok-command.command) words c.in_ok-command.ensures c.in-Ok.ensures.kinds) is
    c.invocation_or_explanation.ensures.refused

pub returns-clause-refused : goal.returns-clause-refused
returns-clause-refused c =
    let words : List Text = map (λ word. word.now) c.args.words.now in
    let entered : subcommand_rows_of c.in-Ok.matches ≡ None = search rules in
    let is = sym (stated c.args.roles (app_of c.in_ok-command.command) words c.in-Ok.matches c.in_ok-command.ensures
    c.in-Ok.ensures.matches) ∙ entered in
    without_command c.args.roles c.requires words c.missing.result
    (taken c.args.roles (app_of c.in_ok-command.command) words c.in_ok-command.ensures c.in-Ok.ensures.kinds) is
    c.missing.ensures
