-- The command line of `hdt` for `clap`: one level of commands, each with its arguments and options.
use Rattle.std.specs.Prelude.{◌≡◌, List, [], ◌∷◌, ◌++◌, Option, Some, true, codes, map, pos}
use Rattle.std.specs.Borrow.{Bor}
use Rattle.clap.specs.Words.{App, Rule, Text, new_app, new_rule, with_rule, with_subcommand}
use Rattle.clap.specs.declared.builder.action.ArgAction.TheVariants.{SetTrue, Append}
use Rattle.clap.specs.Lexer.{usize_max}
use Rattle.clap.specs.declared.builder.value_parser.ValueParser.TheVariants as parser
use Rattle.hdt_usage.specs.declared.command_rows.Kind.{Kind}
use Rattle.hdt_usage.specs.declared.command_rows.Kind.TheVariants as kind
use Rattle.hdt_usage.specs.declared.help.Help.{Help}
use Rattle.hdt_wire.specs.declared.Role.{Role}
use Rattle.hdt_wire.specs.declared.Role.TheVariants.{Subject, Predicate, Object}

-- The names of the roles.
abbrev pub role_name : Role → Text
role_name Subject = codes "subject"
role_name Predicate = codes "predicate"
role_name Object = codes "object"

-- A list of names that `clap` borrows.
abbrev pub Names : Type 0
Names = Bor (List (Bor Text))

-- The names are those of the roles.
abbrev pub AreRoles : Names → Type 0
AreRoles names = map (λ name. name.now) names.now ≡ role_name Subject ∷ role_name Predicate ∷ role_name Object ∷ []

-- What is specified of a row of an argument: its name, what it takes, and its default.
abbrev pub Argument : Type 0
Argument = Text × Kind × Text

abbrev pub argument_of : Bor Text × Kind × Bor Text × Bor Text × Help → Argument
argument_of row = (row.0.now, row.1, row.3.now)

-- What is specified of a row of a command: its name, and its arguments.
abbrev pub CommandRow : Type 0
CommandRow = Text × List Argument

abbrev pub command_of : Bor Text × Help × Help × Option Help × Bor (List (Bor Text × Kind × Bor Text × Bor Text × Help))
    → CommandRow
command_of row = (row.0.now, map argument_of row.4.now)

-- Rows of arguments: of a kind, and those of several commands.
abbrev pub required_row : Text → Argument
required_row id = (id, kind.Required, [])

abbrev pub flag_row : Text → Argument
flag_row id = (id, kind.Flag, [])

abbrev pub text_row : Text → Argument
text_row id = (id, kind.Text, [])

abbrev pub limit_row : Text → Argument
limit_row id = (id, kind.Limit, [])

abbrev pub role_row : Argument
role_row = (codes "ROLE", kind.Role, [])

abbrev pub first_input_row : Argument
first_input_row = (codes "FILE", kind.Shown, [])

abbrev pub verbose_row : Argument
verbose_row = flag_row (codes "verbose")

abbrev pub progress_row : Argument
progress_row = flag_row (codes "progress")

abbrev pub longest_line_row : Argument
longest_line_row = limit_row (codes "longest-line")

abbrev pub block_size_row : Argument
block_size_row = (codes "block-size", kind.NumberWithDefault, codes "16")

abbrev pub base_row : Argument
base_row = (codes "base", kind.TextWithDefault, codes "http://example.org/dataset")

abbrev pub longest_request_row : Argument
longest_request_row = (codes "longest-request", kind.NumberWithDefault, codes "1048576")

abbrev pub pattern_rows : List Argument
pattern_rows = required_row (codes "S") ∷ required_row (codes "P") ∷ required_row (codes "O") ∷ []

abbrev pub format_rows : List Argument
format_rows = flag_row (codes "raw") ∷ flag_row (codes "numbers") ∷ flag_row (codes "count") ∷ []

abbrev pub skip_and_most_rows : List Argument
skip_and_most_rows = flag_row (codes "skip-non-terms") ∷ limit_row (codes "most") ∷ []

abbrev pub paths_row : Argument
paths_row = (codes "PATHS", kind.Paths, [])

abbrev pub line_rows : List Argument
line_rows = longest_line_row ∷ verbose_row ∷ []

abbrev pub split_rows : List Argument
split_rows = limit_row (codes "parts") ∷ text_row (codes "of") ∷ text_row (codes "blank-nodes") ∷ line_rows

abbrev pub memory_rows : List Argument
memory_rows = text_row (codes "memory") ∷ text_row (codes "scratch") ∷ progress_row ∷ []

abbrev pub build_rows : List Argument
build_rows = verbose_row ∷ flag_row (codes "no-progress") ∷ base_row ∷ block_size_row ∷ text_row (codes "blank-nodes")
    ∷ longest_line_row ∷ memory_rows

abbrev pub merge_rows : List Argument
merge_rows = verbose_row ∷ flag_row (codes "no-progress") ∷ base_row ∷ block_size_row ∷ text_row (codes "blank-nodes")
    ∷ memory_rows

-- A command that reads FILE, with these arguments too.
abbrev pub file_command : Text → List Argument → CommandRow
file_command name rest = (name, required_row (codes "FILE") ∷ verbose_row ∷ flag_row (codes "no-progress") ∷ rest)

-- A command that reads IN and writes OUT, with these arguments too.
abbrev pub in_out_command : Text → List Argument → CommandRow
in_out_command name rest =
    (name, required_row (codes "IN") ∷ required_row (codes "OUT") ∷ verbose_row ∷ flag_row (codes "no-progress") ∷ rest)

-- The commands with their arguments, in order.
unfoldable pub commands : List CommandRow
commands = file_command (codes "head") (flag_row (codes "body") ∷ [])
    ∷ file_command (codes "verify") (flag_row (codes "tight") ∷ flag_row (codes "terms") ∷ progress_row ∷ [])
    ∷ file_command (codes "info") (flag_row (codes "json") ∷ [])
    ∷ file_command (codes "strings") (role_row ∷ text_row (codes "prefix") ∷ flag_row (codes "terms") ∷ [])
    ∷ file_command (codes "string") (role_row ∷ (codes "N", kind.Number, []) ∷ [])
    ∷ file_command (codes "number") (role_row ∷ required_row (codes "TERM") ∷ flag_row (codes "raw") ∷ [])
    ∷ file_command (codes "find") (pattern_rows ++ format_rows ++ flag_row (codes "quiet") ∷ skip_and_most_rows)
    ∷ file_command (codes "answer") (format_rows ++ skip_and_most_rows ++ longest_request_row ∷ [])
    ∷ file_command (codes "dump") (flag_row (codes "skip-non-terms") ∷ [])
    ∷ file_command (codes "count") (role_row ∷ limit_row (codes "top") ∷ flag_row (codes "raw") ∷ [])
    ∷ (codes "build", first_input_row ∷ paths_row ∷ build_rows)
    ∷ in_out_command (codes "rewrite") (block_size_row ∷ text_row (codes "header") ∷ progress_row ∷ [])
    ∷ (codes "merge", required_row (codes "FILE") ∷ paths_row ∷ merge_rows)
    ∷ (codes "lint", first_input_row ∷ flag_row (codes "keep") ∷ limit_row (codes "most") ∷ line_rows)
    ∷ (codes "split", first_input_row ∷ paths_row ∷ split_rows)
    ∷ (codes "explain", required_row (codes "REASON") ∷ [])
    ∷ []

-- A required argument.
abbrev pub required_arg : Text → Rule
required_arg id = record (new_rule id) { required = true }

-- An option with a value.
abbrev pub option_arg : Text → Rule
option_arg id = record (new_rule id) { long = Some id; value_names = 1 }

-- What `clap` accepts for an argument with this name and default.
abbrev pub kind_rule : Names → Kind → Text → Text → Rule
kind_rule names kind.Required id value = required_arg id
kind_rule names kind.Shown id value = record (required_arg id) { value_names = 1 }
kind_rule names kind.Role id value = record (required_arg id) { parser = Some (parser.Names names) }
kind_rule names kind.Number id value =
    record (required_arg id) { parser = Some (parser.Unsigned 0 18446744073709551615) }
kind_rule names kind.Paths id value = record (new_rule id) {
  action = Some Append;
  range =
      Some (record { start_inclusive = 0; end_inclusive = usize_max });
}
kind_rule names kind.Flag id value = record (new_rule id) { long = Some id; action = Some SetTrue }
kind_rule names kind.Text id value = option_arg id
kind_rule names kind.Limit id value = record (option_arg id) { parser = Some (parser.Unsigned 0 18446744073709551615) }
kind_rule names kind.TextWithDefault id value = record (option_arg id) { defaults = value ∷ [] }
kind_rule names kind.NumberWithDefault id value = record (option_arg id) {
  defaults = value ∷ [];
  parser =
      Some (parser.Signed (pos 0) (pos 4294967295));
}

abbrev pub argument_rule : Names → Argument → Rule
argument_rule names a = kind_rule names a.1 a.0 a.2

-- The command with these arguments too, in order.
abbrev pub with_arguments : Names → App → List Argument → App
with_arguments names app [] = app
with_arguments names app (a ∷ rest) = with_arguments names (with_rule app (argument_rule names a)) rest

-- The command of a row.
abbrev pub command_app : Names → CommandRow → App
command_app names row = with_arguments names (new_app row.0) row.1

-- The program with these commands too, in order.
abbrev pub with_commands : Names → App → List CommandRow → App
with_commands names app [] = app
with_commands names app (row ∷ rows) = with_commands names (with_subcommand app (command_app names row).top) rows

-- The program without commands. It requires a command or `--version`.
abbrev pub empty_program : App
empty_program = let app = new_app (codes "hdt") in
    record app { top = record app.top { subcommand_required = true; has_version = true } }

-- The program with its commands.
abbrev pub table : Names → App
table names = with_commands names empty_program commands
