use Rattle.std.proofs.Common.{◌≡◌, false, drop, map}
use Rattle.clap.specs.Words.{app_of}
use Rattle.clap.specs.declared.builder.command.Command.TheViews.{out-Command as fields_of}
use Rattle.hdt_usage.specs.CommandTable.{argument_of, command_of, command_app, with_arguments}
use Rattle.hdt_usage.proofs.commands.new_command.Given as goal

abbrev pub invariant-arguments : goal.invariant-arguments
invariant-arguments l = (command_app l.roles.names (command_of l.row)
    ≡ with_arguments l.roles.names (app_of l.command) (map argument_of (drop l.argument-index l.argument-items)))
    × ((fields_of l.command).has_globals ≡ false)
