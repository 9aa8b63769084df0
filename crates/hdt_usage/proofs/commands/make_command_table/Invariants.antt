use Rattle.std.proofs.Common.{◌≡◌, drop, map}
use Rattle.clap.specs.Words.{app_of}
use Rattle.hdt_usage.specs.CommandTable.{command_of, table, with_commands}
use Rattle.hdt_usage.proofs.commands.make_command_table.Given as goal

abbrev pub invariant-commands : goal.invariant-commands
invariant-commands l = table l.roles.names
    ≡ with_commands l.roles.names (app_of l.program) (map command_of (drop l.row-index l.row-items))
