-- The table of commands is one that `clap` describes in full.
use Rattle.std.proofs.Common.{◌≡◌, true, refl}
use Rattle.clap.specs.Words.{is_simple, is_simple_and_free}
use Rattle.hdt_usage.specs.CommandTable.{Names, commands, table}

pub simple : (names : Names) → is_simple (table names) ≡ true
unfolding commands
simple names = refl

pub simple_and_free : (names : Names) → is_simple_and_free (table names) ≡ true
unfolding commands
simple_and_free names = refl
