-- Which request a command line is, in terms of what `clap` finds in it. An entry is the text that `clap` has for an
-- argument, if any.
use Rattle.std.specs.Prelude.{◌≡◌, ◌≢◌, ◌<◌, ◌≤◌, ◌==◌, ◌^◌, ◌*◌, ◌-◌, ◌⊎◌, List, ℕ, Bool, true, false, [], ◌∷◌, ◌++◌}
use Rattle.std.specs.Prelude.{Option}
use Rattle.std.specs.Prelude.{Some, None, codes, map, string_bytes, option_map, unwrap_or, IsSomeAnd, length, take}
use Rattle.std.specs.Prelude.{get_or, if◌then◌else◌}
use Rattle.std.specs.List.{before_first, after_first}
use Rattle.std.specs.Str.Parse.{IsNumeral, digits_value, without_leading_plus}
use Rattle.std.specs.declared.alloc.Global.{Global}
use Rattle.std.specs.declared.vec.Vec.{Vec}
use Rattle.clap.specs.Words.{Row, Text, Kinds, IsAmong, all_of, first_of, one_of, fault_of, subcommand_of}
use Rattle.clap.specs.declared.error.kind.ErrorKind.{ErrorKind}
use Rattle.clap.specs.declared.error.kind.ErrorKind.TheVariants as kind
use Rattle.hdt_build.specs.declared.options.Options.{Options}
use Rattle.hdt_wire.specs.declared.Role.{Role}
use Rattle.hdt_terms.specs.declared.fault.TermFault.{TermFault}
use Rattle.hdt_terms.specs.declared.fault.LineReason.TheVariants as line
use Rattle.hdt_terms.specs.Appending.{AppendsStringOfText}
use Rattle.hdt_terms.specs.Parts.{IsPartCount}
use Rattle.hdt_terms.specs.TermErrors.{IsTermError}
use Rattle.hdt_tool.specs.declared.fault.UsageFault.{UsageFault}
use Rattle.hdt_tool.specs.declared.fault.UsageFault.TheVariants.{Usage, Help, InvalidTerm, OutOfMemory}
use Rattle.hdt_tool.specs.declared.fault.TermArgument.{TermArgument}
use Rattle.hdt_tool.specs.declared.fault.TermArgument.TheVariants.{Term, Subject, Predicate, Object}
use Rattle.hdt_tool.specs.declared.request.Action.{Action}
use Rattle.hdt_tool.specs.declared.request.Invocation.{Invocation}
use Rattle.hdt_tool.specs.declared.request.Action.TheVariants as action
use Rattle.hdt_tool.specs.declared.request.AnswerOptions.{AnswerOptions}
use Rattle.hdt_tool.specs.declared.request.OutputFormat.{OutputFormat}
use Rattle.hdt_tool.specs.declared.request.OutputFormat.TheVariants.{NTriples, Numbers, Count}
use Rattle.hdt_tool.specs.declared.request.Progress.{Progress}
use Rattle.hdt_tool.specs.declared.request.Progress.TheVariants.{Automatic, Lines, Off}
use Rattle.hdt_tool.specs.declared.request.Request.{Request}
use Rattle.hdt_tool.specs.declared.request.BlankNodes.{BlankNodes}
use Rattle.hdt_tool.specs.declared.request.BlankNodes.TheVariants as blank
use Rattle.hdt_tool.specs.declared.request.MergeOptions.{MergeOptions}
use Rattle.hdt_tool.specs.declared.request.SplitOptions.{SplitOptions}
use Rattle.hdt_tool.specs.declared.request.SplitOutput.{SplitOutput}
use Rattle.hdt_tool.specs.declared.request.SplitOutput.TheVariants as split
use Rattle.hdt_tool.specs.ErrorLines.{argument_name}
use Rattle.hdt_usage.specs.CommandTable.{Names, AreRoles, role_name, table}
use Rattle.hdt_usage.specs.Explanations.{explanation_of}
use Rattle.hdt_tool.specs.NonTermText.{kept_format}
use Rattle.hdt_tool.specs.TriplesText.{GivenStrings, find_format}

-- ---- arguments

-- The text is the number n in decimal, below 2^bits; a plus sign may precede it.
abbrev pub IsDecimalOf : ℕ → Text → ℕ → Type 0
IsDecimalOf bits text n = IsNumeral 10 (without_leading_plus text)
    × (digits_value 10 (without_leading_plus text) < 2 ^ bits)
    × (n ≡ digits_value 10 (without_leading_plus text))

abbrev pub ParsesAsNumber : ℕ → Option Text → ℕ → Type 0
ParsesAsNumber bits entry n = IsSomeAnd entry (λ text. IsDecimalOf bits text n)

-- The entry is a decimal u64 with this value, or it is no decimal u64.
abbrev pub ParsesAsNumberOrNone : Option Text → Option ℕ → Type 0
ParsesAsNumberOrNone entry None = (n : ℕ) → ParsesAsNumber 64 entry n → ⊥
ParsesAsNumberOrNone entry (Some n) = ParsesAsNumber 64 entry n

-- The entry that `clap` has for a flag that is given, and for one that is not.
abbrev pub IsUsed : Option Text → Type 0
IsUsed entry = entry ≡ Some (codes "true")

abbrev pub IsUnused : Option Text → Type 0
IsUnused entry = entry ≡ Some (codes "false")

-- With `--raw` the dictionary string is the text itself; without it, the string of the N-Triples term that the text
-- spells.
abbrev pub ParsesAsString : Option Text → Option Text → List ℕ → Type 0
ParsesAsString raw entry x =
    IsSomeAnd entry (λ text. (IsUsed raw → x ≡ text) × (IsUnused raw → AppendsStringOfText text [] x))

-- The text `?` means any string, also with `--raw`; any other text means its dictionary string.
abbrev pub ParsesAsStringOrAny : Option Text → Option Text → Option (Vec ℕ Global) → Type 0
ParsesAsStringOrAny raw entry None = entry ≡ Some (codes "?")
ParsesAsStringOrAny raw entry (Some x) = (entry ≢ Some (codes "?")) × ParsesAsString raw entry x.items

abbrev pub ParsesAsFlag : Option Text → Bool → Type 0
ParsesAsFlag entry flag = (IsUsed entry → flag ≡ true) × (IsUnused entry → flag ≡ false)

-- `--no-progress` turns progress off. Without it `--progress` asks for lines, and without both it is shown by itself;
-- so it is for a command that has no option `--progress`.
pub record ParsesAsProgress (rows : List Row) (progress : Progress) : Type 0 where
  pub off : IsUsed (one_of (codes "no-progress") rows) → progress ≡ Off
  pub lines : IsUnused (one_of (codes "no-progress") rows) → IsUsed (one_of (codes "progress") rows) → progress ≡ Lines
  pub shown : IsUnused (one_of (codes "no-progress") rows) → IsUnused (one_of (codes "progress") rows)
      → progress ≡ Automatic
  pub none : IsUnused (one_of (codes "no-progress") rows) → one_of (codes "progress") rows ≡ None → progress ≡ Automatic

-- The argument S, P or O means this string, or any.
abbrev pub ParsesAsPatternTerm : List Row → TermArgument → Option (Vec ℕ Global) → Type 0
ParsesAsPatternTerm rows argument x =
    ParsesAsStringOrAny (one_of (codes "raw") rows) (first_of (argument_name argument) rows) x

-- The prefix is the text of `--prefix`, or empty without it.
abbrev pub ParsesAsPrefix : Option Text → List ℕ → Type 0
ParsesAsPrefix None prefix = prefix ≡ []
ParsesAsPrefix (Some text) prefix = prefix ≡ text

-- The arguments S, P and O mean these strings, or any.
pub record ParsesAsPattern (rows : List Row) (given : GivenStrings) : Type 0 where
  pub subject : Option (Vec ℕ Global)
  pub predicate : Option (Vec ℕ Global)
  pub object : Option (Vec ℕ Global)
  pub are : given ≡ subject ∷ predicate ∷ object ∷ []
  pub s : ParsesAsPatternTerm rows Subject subject
  pub p : ParsesAsPatternTerm rows Predicate predicate
  pub o : ParsesAsPatternTerm rows Object object

-- ---- requests

-- The output format: with `--count` the number of triples, else with `--numbers` IDs, else N-Triples.
pub record ParsesAsFormat (rows : List Row) (format : OutputFormat) : Type 0 where
  pub count : IsUsed (one_of (codes "count") rows) → format ≡ Count
  pub numbers : IsUnused (one_of (codes "count") rows) → IsUsed (one_of (codes "numbers") rows) → format ≡ Numbers
  pub lines : IsUnused (one_of (codes "count") rows) → IsUnused (one_of (codes "numbers") rows) → format ≡ NTriples

-- `--skip-non-terms` is given, or not. With `--numbers` it has no effect.
abbrev pub SkipsIn : List Row → Bool → Type 0
SkipsIn rows skip = ParsesAsFlag (one_of (codes "skip-non-terms") rows) skip

abbrev pub SkipsNothing : List Row → OutputFormat → Type 0
SkipsNothing rows format = SkipsIn rows false ⊎ (format ≡ Numbers)

-- The command is `find`, without `--quiet`, and with this pattern, output format and limit. It skips nothing.
pub record IsFindCommand (name : Text) (rows : List Row) (given : GivenStrings) (format : OutputFormat)
    (most : Option ℕ) : Type 0 where
  pub named : name ≡ codes "find"
  pub words : ParsesAsPattern rows given
  pub format_is : ParsesAsFormat rows format
  pub most_is : ParsesAsNumberOrNone (one_of (codes "most") rows) most
  pub not_quiet : ParsesAsFlag (one_of (codes "quiet") rows) false
  pub skips_nothing : SkipsNothing rows format

-- The command is `find` with `--skip-non-terms`, and with this pattern, output format and limit.
pub record IsSkippingFind (name : Text) (rows : List Row) (given : GivenStrings) (count : Bool)
    (most : Option ℕ) : Type 0 where
  pub named : name ≡ codes "find"
  pub words : ParsesAsPattern rows given
  pub format_is : ParsesAsFormat rows (kept_format count)
  pub most_is : ParsesAsNumberOrNone (one_of (codes "most") rows) most
  pub not_quiet : ParsesAsFlag (one_of (codes "quiet") rows) false
  pub skips : SkipsIn rows true

-- The command is `find`, with `--quiet` and this pattern.
abbrev pub IsQuietFindCommand : Text → List Row → GivenStrings → Type 0
IsQuietFindCommand name rows given = (name ≡ codes "find") × ParsesAsPattern rows given
    × ParsesAsFlag (one_of (codes "quiet") rows) true

-- The action finds triples by these strings, in this output format and up to this limit, and skips some if that is
-- asked.
abbrev pub IsFindAction : GivenStrings → OutputFormat → Option ℕ → Bool → Action → Type 0
IsFindAction given format most skip (action.Find strings numbers) = (strings ≡ given) × (find_format numbers ≡ format)
    × (most ≡ None) × ((skip ≡ false) ⊎ (format ≡ Numbers))
IsFindAction given format most skip (action.Search strings other n) = (strings ≡ given) × (other ≡ format) × (n ≡ most)
    × ((skip ≡ false) ⊎ (format ≡ Numbers))
IsFindAction given format most skip (action.SkipNonTerms strings count n) = (strings ≡ given)
    × (kept_format count ≡ format) × (n ≡ most) × (skip ≡ true)
IsFindAction given format most skip action = ⊥

-- The command is `dump`: all triples, in N-Triples.
abbrev pub IsDumpCommand : Text → List Row → GivenStrings → Bool → Type 0
IsDumpCommand name rows given numbers = (name ≡ codes "dump") × (given ≡ None ∷ None ∷ None ∷ []) × (numbers ≡ false)
    × SkipsIn rows false

-- The command is `dump` with `--skip-non-terms`.
abbrev pub IsSkippingDump : Text → List Row → GivenStrings → Bool → Option ℕ → Type 0
IsSkippingDump name rows given count most = (name ≡ codes "dump") × (given ≡ None ∷ None ∷ None ∷ []) × (count ≡ false)
    × (most ≡ None) × SkipsIn rows true

-- The command is `verify`, with or without `--tight` and `--terms`.
abbrev pub IsVerifyCommand : Text → List Row → Bool → Bool → Type 0
IsVerifyCommand name rows tight terms = (name ≡ codes "verify") × ParsesAsFlag (one_of (codes "tight") rows) tight
    × ParsesAsFlag (one_of (codes "terms") rows) terms

-- The command is `info`, with or without `--json`.
abbrev pub IsInfoCommand : Text → List Row → Bool → Type 0
IsInfoCommand name rows json = (name ≡ codes "info") × ParsesAsFlag (one_of (codes "json") rows) json

-- The command is `answer`, with these options.
pub record IsAnswerCommand (name : Text) (rows : List Row) (options : AnswerOptions) : Type 0 where
  pub named : name ≡ codes "answer"
  pub format_is : ParsesAsFormat rows options.format
  pub most_is : ParsesAsNumberOrNone (one_of (codes "most") rows) options.most
  pub raw_is : ParsesAsFlag (one_of (codes "raw") rows) options.raw
  pub longest_is : ParsesAsNumber 32 (one_of (codes "longest-request") rows) options.longest
  pub skip_is : SkipsIn rows options.skip

-- The command is `count`, with this role, number of terms and format.
pub record IsCountCommand (name : Text) (rows : List Row) (role : Role) (top : Option ℕ) (raw : Bool) : Type 0 where
  pub named : name ≡ codes "count"
  pub role_is : first_of (codes "ROLE") rows ≡ Some (role_name role)
  pub top_is : ParsesAsNumberOrNone (one_of (codes "top") rows) top
  pub raw_is : ParsesAsFlag (one_of (codes "raw") rows) raw

-- The command is `lint`, with or without `--keep`, and with this limit.
abbrev pub IsLintCommand : Text → List Row → Bool → Option ℕ → Type 0
IsLintCommand name rows keep most = (name ≡ codes "lint") × ParsesAsFlag (one_of (codes "keep") rows) keep
    × ParsesAsNumberOrNone (one_of (codes "most") rows) most

-- ---- `split`

abbrev pub ParsesAsPartCount : List Row → ℕ → Type 0
ParsesAsPartCount rows n = ParsesAsNumber 64 (one_of (codes "parts") rows) n × IsPartCount n

-- The text is K/N, for the part k, from 0, of n parts.
abbrev pub IsPartOfParts : Text → ℕ → ℕ → Type 0
IsPartOfParts text k n = IsDecimalOf 32 (before_first (λ b. b == 47) text) k
    × IsDecimalOf 32 (after_first (λ b. b == 47) text) n × (k < n) × (n ≤ 65536)

abbrev pub ParsesAsBlankNodes : Option Text → Option BlankNodes → Type 0
ParsesAsBlankNodes entry None = entry ≡ None
ParsesAsBlankNodes entry (Some blank.One) = entry ≡ Some (codes "one")
ParsesAsBlankNodes entry (Some blank.Apart) = entry ≡ Some (codes "apart")

-- The values of PATHS.
abbrev pub further_paths : List Row → List Text
further_paths rows = unwrap_or (all_of (codes "PATHS") rows) []

-- Without `--of`, the last path is that of the folder, and the others are inputs; with it, all are inputs.
abbrev pub ParsesAsSplitOutput : List Row → List Text → ℕ → SplitOutput → Type 0
ParsesAsSplitOutput rows others n (split.Folder path) = (first_of (codes "of") rows ≡ None) × ParsesAsPartCount rows n
    × (further_paths rows ≡ others ++ string_bytes path ∷ [])
ParsesAsSplitOutput rows others n (split.Part k) =
    IsSomeAnd (first_of (codes "of") rows) (λ text. IsPartOfParts text k n)
    × (first_of (codes "parts") rows ≡ None) × (further_paths rows ≡ others)

-- The arguments give these options of `split`.
pub record ParsesAsSplitOptions (rows : List Row) (options : SplitOptions) : Type 0 where
  pub output : ParsesAsSplitOutput rows (map string_bytes options.others.items) options.parts options.output
  pub blank_nodes : ParsesAsBlankNodes (first_of (codes "blank-nodes") rows) options.blank_nodes

-- The options of `build` are those of the arguments, or their defaults in the table of commands.
pub record ParsesAsBuildOptions (rows : List Row) (options : Options) : Type 0 where
  pub base : first_of (codes "base") rows ≡ Some options.base.items
  pub block_size : ParsesAsNumber 32 (one_of (codes "block-size") rows) options.block_size

-- The arguments give these options of `merge`, or of `build` with several documents: the last path is OUT.
pub record ParsesAsMergeOptions (rows : List Row) (options : MergeOptions) : Type 0 where
  pub paths : further_paths rows ≡ map string_bytes options.others.items ++ string_bytes options.out ∷ []
  pub file : ParsesAsBuildOptions rows options.options

-- ---- `--memory`

-- The number of bytes that a letter behind a number means: K, M or G.
abbrev pub letter_unit : ℕ → ℕ
letter_unit b = if b == 75 then 1024 else (if b == 77 then 1048576 else (if b == 71 then 1073741824 else 1))

abbrev pub last_byte : Text → ℕ
last_byte text = get_or text (length text - 1) 0

abbrev pub size_unit : Text → ℕ
size_unit text = letter_unit (last_byte text)

-- The digits of a size: the text, without such a letter.
abbrev pub size_digits : Text → Text
size_digits text = if size_unit text == 1 then text else take (length text - 1) text

-- The text is a size of n bytes, below 2^64, without a plus sign.
pub record IsSizeOf (text : Text) (n : ℕ) : Type 0 where
  pub count : ℕ
  pub digits : IsDecimalOf 64 (size_digits text) count
  pub unsigned : get_or (size_digits text) 0 0 ≢ 43
  pub bytes : n ≡ count * size_unit text
  pub fits : n < 2 ^ 64

-- `--memory` has this value, of 4 MiB or more; without it there is no `--scratch`.
abbrev pub ParsesAsMemory : List Row → Option ℕ → Type 0
ParsesAsMemory rows None = (first_of (codes "memory") rows ≡ None) × (first_of (codes "scratch") rows ≡ None)
ParsesAsMemory rows (Some n) = IsSomeAnd (first_of (codes "memory") rows) (λ text. IsSizeOf text n) × (4194304 ≤ n)

-- ---- commands

-- The command's name and arguments give this action, which writes no file.
abbrev pub IsQueryAction : Text → List Row → Action → Type 0
IsQueryAction name rows action.Head = (name ≡ codes "head") × ParsesAsFlag (one_of (codes "body") rows) false
IsQueryAction name rows action.HeadBody = (name ≡ codes "head") × ParsesAsFlag (one_of (codes "body") rows) true
IsQueryAction name rows action.Verify = IsVerifyCommand name rows false false
IsQueryAction name rows action.VerifyTight = IsVerifyCommand name rows true false
IsQueryAction name rows (action.VerifyTerms tight) = IsVerifyCommand name rows tight true
IsQueryAction name rows (action.Info json) = IsInfoCommand name rows json
IsQueryAction name rows (action.Strings role) = (name ≡ codes "strings")
    × (first_of (codes "ROLE") rows ≡ Some (role_name role))
    × ParsesAsFlag (one_of (codes "terms") rows) false × (first_of (codes "prefix") rows ≡ None)
IsQueryAction name rows (action.ListStrings role prefix terms) = (name ≡ codes "strings")
    × (first_of (codes "ROLE") rows ≡ Some (role_name role))
    × ParsesAsFlag (one_of (codes "terms") rows) terms × ParsesAsPrefix (first_of (codes "prefix") rows) prefix.items
IsQueryAction name rows (action.Nth role n) = (name ≡ codes "string")
    × (first_of (codes "ROLE") rows ≡ Some (role_name role))
    × ParsesAsNumber 64 (one_of (codes "N") rows) n
IsQueryAction name rows (action.Number role x) = (name ≡ codes "number")
    × (first_of (codes "ROLE") rows ≡ Some (role_name role))
    × ParsesAsString (one_of (codes "raw") rows) (first_of (codes "TERM") rows) x.items
IsQueryAction name rows (action.Find given numbers) = IsFindCommand name rows given (find_format numbers) None
    ⊎ IsDumpCommand name rows given numbers
IsQueryAction name rows (action.Search given format most) = IsFindCommand name rows given format most
IsQueryAction name rows (action.SkipNonTerms given count most) = IsSkippingFind name rows given count most
    ⊎ IsSkippingDump name rows given count most
IsQueryAction name rows (action.Exists given) = IsQuietFindCommand name rows given
IsQueryAction name rows (action.Count role top raw) = IsCountCommand name rows role top raw
IsQueryAction name rows (action.Answer options) = IsAnswerCommand name rows options
IsQueryAction name rows (action.Lint keep most) = IsLintCommand name rows keep most
IsQueryAction name rows (action.Build options) = ⊥
IsQueryAction name rows (action.Rewrite b) = ⊥
IsQueryAction name rows (action.Split options) = (name ≡ codes "split") × ParsesAsSplitOptions rows options
IsQueryAction name rows (action.Merge options blank) = (name ≡ codes "merge") × ParsesAsMergeOptions rows options
    × ParsesAsBlankNodes (first_of (codes "blank-nodes") rows) blank
IsQueryAction name rows (action.BuildInputs options blank) = (name ≡ codes "build") × ParsesAsMergeOptions rows options
    × ParsesAsBlankNodes (first_of (codes "blank-nodes") rows) blank

-- The request reads FILE and writes no file.
pub record IsQueryRequest (name : Text) (rows : List Row) (request : Request) : Type 0 where
  pub file : first_of (codes "FILE") rows ≡ Some (string_bytes request.file)
  pub out : option_map string_bytes request.out ≡ None
  pub action : IsQueryAction name rows request.action

-- The command's name and arguments give this action, which reads IN and writes OUT.
abbrev pub IsOutputAction : Text → List Row → Action → Type 0
IsOutputAction name rows (action.Rewrite b) = (name ≡ codes "rewrite")
    × ParsesAsNumber 32 (one_of (codes "block-size") rows) b
IsOutputAction name rows action = ⊥

-- The request reads IN and writes OUT.
pub record IsOutputRequest (name : Text) (rows : List Row) (request : Request) : Type 0 where
  pub file : first_of (codes "IN") rows ≡ Some (string_bytes request.file)
  pub out : IsSomeAnd request.out (λ path. first_of (codes "OUT") rows ≡ Some (string_bytes path))
  pub action : IsOutputAction name rows request.action

-- The arguments give this action of `build` with one document and without `--blank-nodes`.
abbrev pub IsBuildAction : List Row → Action → Type 0
IsBuildAction rows (action.Build options) = ParsesAsBuildOptions rows options
IsBuildAction rows action = ⊥

-- The request is `build` with one document, FILE, and OUT is the only path behind it.
pub record IsBuildRequest (name : Text) (rows : List Row) (request : Request) : Type 0 where
  pub named : name ≡ codes "build"
  pub file : first_of (codes "FILE") rows ≡ Some (string_bytes request.file)
  pub out : IsSomeAnd request.out (λ path. further_paths rows ≡ string_bytes path ∷ [])
  pub blank_nodes : first_of (codes "blank-nodes") rows ≡ None
  pub action : IsBuildAction rows request.action

-- The command's name and arguments give this request.
abbrev pub IsRequestOf : Text → List Row → Request → Type 0
IsRequestOf name rows request = IsQueryRequest name rows request
    ⊎ (IsOutputRequest name rows request ⊎ IsBuildRequest name rows request)

-- The same, and `--memory` and `--scratch` are valid.
abbrev pub AsksFor : Text → List Row → Request → Type 0
AsksFor name rows request = IsRequestOf name rows request × ((memory : Option ℕ) × ParsesAsMemory rows memory)

abbrev pub IsRequestOfCommand : Option (Text × List Row) → Request → Type 0
IsRequestOfCommand entered request = IsSomeAnd entered (λ command. AsksFor command.0 command.1 request)

-- The kinds of error that `clap` may return for the command line; if there are none, it accepts it.
unfoldable pub clap_errors : Names → List Text → Kinds
clap_errors names words = fault_of (table names) words

-- `clap` accepts the command line, and it gives this request.
pub record ParsesWithRoles (names : Names) (words : List Text) (request : Request) : Type 0 where
  pub taken : clap_errors names words ≡ []
  pub asked : IsRequestOfCommand (subcommand_of (table names) words) request

-- The same, for some list of the names of the roles.
pub record ParsesToRequest (words : List Text) (request : Request) : Type 0 where
  pub names : Names
  pub roles : AreRoles names
  pub wanted : ParsesWithRoles names words request

-- The command line gives this request, this way to report progress, `--verbose` if that is true, this number of
-- `--longest-line`, this memory, and these paths of `--scratch` and `--header`.
pub record ParsesToInvocation (words : List Text) (asked : Invocation) : Type 0 where
  pub names : Names
  pub roles : AreRoles names
  pub wanted : ParsesWithRoles names words asked.request
  pub progress : IsSomeAnd (subcommand_of (table names) words) (λ command. ParsesAsProgress command.1 asked.progress)
  pub verbose : IsSomeAnd (subcommand_of (table names) words)
      (λ command. ParsesAsFlag (one_of (codes "verbose") command.1) asked.verbose)
  pub longest_line : IsSomeAnd (subcommand_of (table names) words)
      (λ command. ParsesAsNumberOrNone (one_of (codes "longest-line") command.1) asked.longest_line)
  pub memory : IsSomeAnd (subcommand_of (table names) words) (λ command. ParsesAsMemory command.1 asked.memory)
  pub scratch : IsSomeAnd (subcommand_of (table names) words)
      (λ command. first_of (codes "scratch") command.1 ≡ option_map string_bytes asked.scratch)
  pub header : IsSomeAnd (subcommand_of (table names) words)
      (λ command. first_of (codes "header") command.1 ≡ option_map string_bytes asked.header)

-- The explanation of the argument REASON is this text.
abbrev pub IsExplained : List Row → Text → Type 0
IsExplained rows text = IsSomeAnd (first_of (codes "REASON") rows) (λ argument. explanation_of argument ≡ Some text)

-- `clap` accepts the command line, and it is `explain` with a reason that has this explanation.
abbrev pub IsExplainCommand : Option (Text × List Row) → Text → Type 0
IsExplainCommand entered text =
    IsSomeAnd entered (λ command. (command.0 ≡ codes "explain") × IsExplained command.1 text)

pub record ParsesToExplanation (names : Names) (words : List Text) (text : Text) : Type 0 where
  pub taken : clap_errors names words ≡ []
  pub asked : IsExplainCommand (subcommand_of (table names) words) text

-- ---- errors

-- Without `--raw`, the argument is not a valid term, and this is its first error.
abbrev pub IsInvalidTerm : List Row → TermArgument → TermFault → Type 0
IsInvalidTerm rows argument fault = (IsUsed (one_of (codes "raw") rows) → ⊥)
    × IsSomeAnd (first_of (argument_name argument) rows) (λ text. IsTermError text fault)

-- The same for S, P and O, which may be `?`.
abbrev pub IsInvalidPatternTerm : List Row → TermArgument → TermFault → Type 0
IsInvalidPatternTerm rows argument fault = (first_of (argument_name argument) rows ≢ Some (codes "?"))
    × IsInvalidTerm rows argument fault

-- The argument S, P or O is valid.
abbrev pub IsValidPatternTerm : List Row → TermArgument → Type 0
IsValidPatternTerm rows argument = (x : Option (Vec ℕ Global)) × ParsesAsPatternTerm rows argument x

-- This is the error of TERM of `number`, or of the first invalid one of S, P and O of `find`.
abbrev pub HasInvalidTerm : Text → List Row → TermArgument → TermFault → Type 0
HasInvalidTerm name rows Term fault = (name ≡ codes "number") × IsInvalidTerm rows Term fault
HasInvalidTerm name rows Subject fault = (name ≡ codes "find") × IsInvalidPatternTerm rows Subject fault
HasInvalidTerm name rows Predicate fault = (name ≡ codes "find") × IsValidPatternTerm rows Subject
    × IsInvalidPatternTerm rows Predicate fault
HasInvalidTerm name rows Object fault = (name ≡ codes "find") × IsValidPatternTerm rows Subject
    × IsValidPatternTerm rows Predicate × IsInvalidPatternTerm rows Object fault

abbrev pub HasInvalidTermIn : Option (Text × List Row) → TermArgument → TermFault → Type 0
HasInvalidTermIn entered argument fault =
    IsSomeAnd entered (λ command. HasInvalidTerm command.0 command.1 argument fault)

-- An error of this kind shows help or the version.
abbrev pub IsHelpOrVersion : ErrorKind → Type 0
IsHelpOrVersion k = (k ≡ kind.DisplayHelp) ⊎ (k ≡ kind.DisplayVersion)

-- `Help` is returned only if `clap` may show help or the version, or with the explanation that `explain` prints;
-- `Usage` only if the command line gives no request and no explanation; and an invalid term is the first one, with its
-- first error.
abbrev pub IsRefusedWithRoles : Names → List Text → UsageFault → Type 0
IsRefusedWithRoles names words (Help text) = IsAmong kind.DisplayHelp (clap_errors names words)
    ⊎ IsAmong kind.DisplayVersion (clap_errors names words)
    ⊎ ParsesToExplanation names words (string_bytes text)
IsRefusedWithRoles names words (Usage text) = (clap_errors names words ≢ kind.DisplayHelp ∷ [])
    × (clap_errors names words ≢ kind.DisplayVersion ∷ [])
    × ((request : Request) → ParsesWithRoles names words request → ⊥)
    × ((text : Text) → ParsesToExplanation names words text → ⊥)
IsRefusedWithRoles names words (InvalidTerm argument fault) = (clap_errors names words ≡ [])
    × HasInvalidTermIn (subcommand_of (table names) words) argument fault
IsRefusedWithRoles names words OutOfMemory = Unit {0}

-- The same, for some list of the names of the roles.
pub record IsRefusedWithSomeRoles (words : List Text) (fault : UsageFault) : Type 0 where
  pub names : Names
  pub roles : AreRoles names
  pub refused : IsRefusedWithRoles names words fault

abbrev pub IsRefused : List Text → UsageFault → Type 0
IsRefused words OutOfMemory = Unit {0}
IsRefused words fault = IsRefusedWithSomeRoles words fault

-- ---- errors of the single steps of parsing

-- A usage error with this message, or out of memory.
abbrev pub IsUsageText : Text → UsageFault → Type 0
IsUsageText said (Usage text) = string_bytes text ≡ said
IsUsageText said OutOfMemory = Unit {0}
IsUsageText said fault = ⊥

-- The error for an error of `clap` of this kind.
abbrev pub IsFaultOfKind : ErrorKind → UsageFault → Type 0
IsFaultOfKind k (Help text) = IsHelpOrVersion k
IsFaultOfKind k (Usage text) = (IsHelpOrVersion k → ⊥) × (k ≢ kind.OutOfMemory)
IsFaultOfKind k (InvalidTerm argument fault) = ⊥
IsFaultOfKind k OutOfMemory = Unit {0}

-- `Usage` is returned only if P is false, an invalid term only if Q is true of it, and `Help` never.
abbrev pub RefutesOrInvalidTerm : Type 0 → (TermArgument → TermFault → Type 0) → UsageFault → Type 0
RefutesOrInvalidTerm P Q (Help text) = ⊥
RefutesOrInvalidTerm P Q (Usage text) = P → ⊥
RefutesOrInvalidTerm P Q (InvalidTerm argument fault) = Q argument fault
RefutesOrInvalidTerm P Q OutOfMemory = Unit {0}

-- `Usage` is returned only if P is false, and no error but that and out of memory.
abbrev pub Refutes : Type 0 → UsageFault → Type 0
Refutes P fault = RefutesOrInvalidTerm P (λ argument fault. ⊥) fault

-- The error for a failure of parsing this argument as a term.
abbrev pub IsFaultOfTerm : TermArgument → TermFault → UsageFault → Type 0
IsFaultOfTerm argument fault (InvalidTerm other told) = (other ≡ argument) × (told ≡ fault)
    × (fault.reason ≢ line.OutOfMemory)
IsFaultOfTerm argument fault OutOfMemory = fault.reason ≡ line.OutOfMemory
IsFaultOfTerm argument fault other = ⊥

-- The dictionary string for a text: the text itself if raw, else the string of the N-Triples term that it spells.
abbrev pub IsStringOfText : Bool → Text → List ℕ → Type 0
IsStringOfText raw text x = (raw ≡ true → x ≡ text) × (raw ≡ false → AppendsStringOfText text [] x)

-- The explanation of the argument REASON, as help; a usage error only if there is none.
abbrev pub IsExplanation : List Row → UsageFault → Type 0
IsExplanation rows (Help text) = IsExplained rows (string_bytes text)
IsExplanation rows (Usage text) = (explained : Text) → IsExplained rows explained → ⊥
IsExplanation rows (InvalidTerm argument fault) = ⊥
IsExplanation rows OutOfMemory = Unit {0}

-- The error of a command: `Help` is the explanation that `explain` prints; `Usage` is returned only if the arguments
-- give no request and no explanation.
abbrev pub IsFaultOfCommand : Text → List Row → UsageFault → Type 0
IsFaultOfCommand name rows (Help text) = IsExplainCommand (Some (name, rows)) (string_bytes text)
IsFaultOfCommand name rows (Usage text) = ((request : Request) → AsksFor name rows request → ⊥)
    × ((explained : Text) → IsExplainCommand (Some (name, rows)) explained → ⊥)
IsFaultOfCommand name rows (InvalidTerm argument fault) = HasInvalidTerm name rows argument fault
IsFaultOfCommand name rows OutOfMemory = Unit {0}

-- The error is one of this argument: it is not raw, and this is the first error in its text.
abbrev pub IsFaultOfArgument : TermArgument → Bool → Text → TermArgument → TermFault → Type 0
IsFaultOfArgument argument raw text other fault = (other ≡ argument) × (raw ≡ false) × IsTermError text fault
