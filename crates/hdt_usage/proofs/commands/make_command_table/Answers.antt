use Rattle.std.proofs.Common.{◌∙◌, ◌+◌, ap, arith, drop, map, sym}
use Rattle.std.proofs.lemmas.List.{at_drop_more}
use Rattle.clap.specs.Words.{App, app_of}
use Rattle.hdt_usage.specs.CommandTable.{command_of, with_commands}
use Rattle.hdt_usage.proofs.commands.make_command_table.Goals as goal

pub commands-preserved : goal.commands-preserved
commands-preserved c =
    let roles = c.args.roles in
    let rows = c.command_rows-row-items.result.now in
    let i = c.commands.row-index in
    c.commands.invariant
    ∙ at_drop_more (λ rest. with_commands roles (app_of c.commands.program) (map command_of rest)) rows i _
    (grind arith)
    ∙ ap (λ (app : App). with_commands roles app (map command_of (drop (i + 1) rows))) (sym c.in_ok-program-2.ensures)
