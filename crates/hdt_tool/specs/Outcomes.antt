-- What a run of a command does: its output, the file that it makes, and its errors.
use Rattle.std.specs.Prelude.{◌≡◌, ◌≢◌, ◌<◌, ◌≤◌, ℕ, true, false, List, [], ◌++◌, length, take, Option, None, Some}
use Rattle.std.specs.Prelude.{Err, MatchOption}
use Rattle.std.specs.Io.KnownBytes.{Consumes, IsAtEnd}
use Rattle.hdt_wire.specs.declared.fault.Fault.{Fault}
use Rattle.hdt_file.specs.Head.{HeadParts, IsHead, decode_head}
use Rattle.hdt_file.specs.File.{GraphParts, IsLayout, decode_graph}
use Rattle.hdt_file.specs.Tight.{IsTightLayout, decode_tight_graph}
use Rattle.hdt_file.specs.Graph.{graph_counts}
use Rattle.hdt_build.specs.Built.{Builds}
use Rattle.hdt_build.specs.Options.{AreValidOptions, IsBlockSize}
use Rattle.hdt_build.specs.Reading.{IsBuildFaultOf as IsFaultOfBuild}
use Rattle.hdt_build.specs.Built.{IsRewritten}
use Rattle.hdt_build.specs.declared.fault.BuildFault.{BuildFault}
use Rattle.hdt_build.specs.declared.fault.BuildFault.TheVariants as building
use Rattle.hdt_build.specs.declared.options.Options.{Options}
use Rattle.hdt_build.specs.declared.options.Report.{Report}
use Rattle.hdt_terms.specs.declared.fault.LineReason.TheVariants as reasons
use Rattle.hdt_wire.specs.declared.Role.{Role}
use Rattle.hdt_dict.specs.Ids.{string_at_id}
use Rattle.hdt_tool.specs.declared.fault.ToolFault.{ToolFault}
use Rattle.hdt_tool.specs.declared.fault.ToolFault.TheVariants.{File, Input, NoTriples, NoSuchTerm, NoMatch}
use Rattle.hdt_tool.specs.declared.fault.ToolFault.TheVariants.{NoSuchNumber, NotATerm, BadOptions, Read, Write}
use Rattle.hdt_tool.specs.declared.fault.ToolFault.TheVariants.{OutOfMemory}
use Rattle.hdt_tool.specs.declared.request.Action.{Action}
use Rattle.hdt_tool.specs.declared.request.Request.{Request}
use Rattle.hdt_tool.specs.declared.request.Action.TheVariants.{Head, HeadBody, Verify, VerifyTight, VerifyTerms}
use Rattle.hdt_tool.specs.declared.request.Action.TheVariants.{Strings, ListStrings, Nth, Number, Find, Search}
use Rattle.hdt_tool.specs.declared.request.Action.TheVariants.{SkipNonTerms, Exists, Count, Answer, Build, Rewrite}
use Rattle.hdt_tool.specs.declared.request.Action.TheVariants.{Info, Lint, BuildInputs, Merge, Split}
use Rattle.hdt_tool.specs.PrintedReports.{built_line, rewritten_line, head_text, verdict}
use Rattle.hdt_tool.specs.Changes.{Change, Update, FailsAfter, Gains, GainsBeginning, IsUnfailed}
use Rattle.hdt_tool.specs.Info.{PrintsInfo}
use Rattle.hdt_tool.specs.StringsText.{string_lines, PrintsString, PrintsNumber}
use Rattle.hdt_tool.specs.ListedStrings.{HasUnlistedTerm, PrintsListed}
use Rattle.hdt_tool.specs.TermCounts.{IsCountFault, PrintsCounts}
use Rattle.hdt_tool.specs.NonTermText.{PrintsKept, PrintsTermVerdict, kept_format}
use Rattle.hdt_tool.specs.TriplesText.{HasMatch, HasNonTermIn, LacksMatch, PrintsFound, find_format, query}
use Rattle.hdt_dict.specs.Dictionary.{role_strings}

-- The bytes begin with a valid head, and the text is the output of `head` for it.
pub record PrintsHead (bytes text : List ℕ) : Type 0 where
  pub head : HeadParts
  pub encoded : IsHead head bytes
  pub printed : text ≡ head_text head

-- The bytes begin with a valid head, and the text is its header body.
pub record PrintsHeadBody (bytes text : List ℕ) : Type 0 where
  pub head : HeadParts
  pub encoded : IsHead head bytes
  pub printed : text ≡ head.body

-- The bytes are a valid encoding of a graph whose triples use all of its strings, and the text is the output of
-- `verify`.
pub record PrintsTightVerdict (bytes text : List ℕ) : Type 0 where
  pub graph : GraphParts
  pub encoded : IsTightLayout bytes graph
  pub printed : text ≡ verdict (graph_counts graph)

-- The bytes are a valid encoding of a graph for which Holds is true.
pub record IsLayoutWith (bytes : List ℕ) (Holds : GraphParts → Type 0) : Type 0 where
  pub graph : GraphParts
  pub encoded : IsLayout bytes graph
  pub holds : Holds graph

-- The bytes are a valid encoding of a graph, and Holds is true for the strings of the role.
abbrev pub HasRoleStringsWith : List ℕ → Role → (List (List ℕ) → Type 0) → Type 0
HasRoleStringsWith bytes role Holds = IsLayoutWith bytes (λ graph. Holds (role_strings graph.dictionary role))

-- The text is the output of a command that counts the triples that `--skip-non-terms` leaves out, or the strings that
-- `verify --terms` prints, for these input bytes, and n is this number.
abbrev pub PrintsCountingNonTerms : Action → List ℕ → List ℕ → ℕ → Type 0
PrintsCountingNonTerms (SkipNonTerms given count most) bytes text n =
    IsLayoutWith bytes (λ graph. PrintsKept graph (query given (kept_format count) most) text n)
PrintsCountingNonTerms (VerifyTerms tight) bytes text n = PrintsTermVerdict tight bytes text n
PrintsCountingNonTerms action bytes text n = ⊥

-- The text is the output of a command for these input bytes, if it writes no file and has one output: `lint` has two.
abbrev pub Prints : Action → List ℕ → List ℕ → Type 0
Prints Head bytes text = PrintsHead bytes text
Prints HeadBody bytes text = PrintsHeadBody bytes text
Prints Verify bytes text = IsLayoutWith bytes (λ graph. text ≡ verdict (graph_counts graph))
Prints VerifyTight bytes text = PrintsTightVerdict bytes text
Prints (Info json) bytes text = PrintsInfo json bytes text
Prints (Strings role) bytes text = HasRoleStringsWith bytes role (λ strings. text ≡ string_lines 1 strings)
Prints (ListStrings role prefix terms) bytes text =
    HasRoleStringsWith bytes role (λ strings. PrintsListed strings prefix.items terms text)
Prints (Nth role n) bytes text = HasRoleStringsWith bytes role (λ strings. PrintsString strings n text)
Prints (Number role x) bytes text = HasRoleStringsWith bytes role (λ strings. PrintsNumber strings x.items text)
Prints (Find given numbers) bytes text =
    IsLayoutWith bytes (λ graph. PrintsFound graph (query given (find_format numbers) None) text)
Prints (Search given format most) bytes text =
    IsLayoutWith bytes (λ graph. PrintsFound graph (query given format most) text)
Prints (SkipNonTerms given count most) bytes text = (n : ℕ)
    × PrintsCountingNonTerms (SkipNonTerms given count most) bytes text n
Prints (VerifyTerms tight) bytes text = (n : ℕ) × PrintsCountingNonTerms (VerifyTerms tight) bytes text n
Prints (Exists given) bytes text = IsLayoutWith bytes (λ graph. HasMatch graph given × (text ≡ []))
Prints (Count role top raw) bytes text = IsLayoutWith bytes (λ graph. PrintsCounts graph role top raw text)
Prints (Answer options) bytes text = IsLayoutWith bytes (λ graph. text ≡ [])
Prints (Lint keep most) bytes text = text ≡ []
Prints (Build options) bytes text = ⊥
Prints (Rewrite b) bytes text = ⊥
Prints (Split options) bytes text = text ≡ []
Prints (Merge options blank) bytes text = text ≡ []
Prints (BuildInputs options blank) bytes text = text ≡ []

-- The command reads a file and writes none.
abbrev pub IsReadOnly : Action → Type 0
IsReadOnly (Build options) = ⊥
IsReadOnly (Rewrite b) = ⊥
IsReadOnly action = Unit {0}

-- The text is the output of a command that writes no file, for these input bytes, and n is what it counts: 0 if it
-- counts nothing.
abbrev pub PrintsWithCount : Action → List ℕ → List ℕ → ℕ → Type 0
PrintsWithCount (SkipNonTerms given count most) bytes text n =
    PrintsCountingNonTerms (SkipNonTerms given count most) bytes text n
PrintsWithCount (VerifyTerms tight) bytes text n = PrintsCountingNonTerms (VerifyTerms tight) bytes text n
PrintsWithCount action bytes text n = Prints action bytes text × (n ≡ 0)

-- The command prints its output in pieces.
abbrev pub PrintsInPieces : Action → Type 0
PrintsInPieces (Strings role) = Unit {0}
PrintsInPieces (Find given numbers) = Unit {0}
PrintsInPieces (Search given format most) = Unit {0}
PrintsInPieces (SkipNonTerms given false most) = Unit {0}
PrintsInPieces action = ⊥

-- The command prints one complete text, counts nothing, and writes no file.
abbrev pub PrintsText : Action → Type 0
PrintsText (Strings role) = ⊥
PrintsText (Find given numbers) = ⊥
PrintsText (Search given format most) = ⊥
PrintsText (SkipNonTerms given count most) = ⊥
PrintsText (VerifyTerms tight) = ⊥
PrintsText action = IsReadOnly action

-- The command writes a file: `build` or `rewrite`.
abbrev pub MakesFile : Action → Type 0
MakesFile (Build options) = Unit {0}
MakesFile (Rewrite b) = Unit {0}
MakesFile action = ⊥

-- A request has an output path exactly if its command writes a file.
abbrev pub HasOut : Request → Type 0
HasOut request = MatchOption request.out (IsReadOnly request.action) (λ path. MakesFile request.action)

-- The error is the first one in these bytes. `head` checks only the head, and `verify --tight` also that triples use
-- all strings; the other commands check the complete file.
abbrev pub HasFault : Action → List ℕ → Fault → Type 0
HasFault Head bytes fault = decode_head bytes ≡ Err fault
HasFault HeadBody bytes fault = decode_head bytes ≡ Err fault
HasFault VerifyTight bytes fault = decode_tight_graph bytes ≡ Err fault
HasFault (VerifyTerms true) bytes fault = decode_tight_graph bytes ≡ Err fault
HasFault (VerifyTerms false) bytes fault = decode_graph bytes ≡ Err fault
HasFault (Build options) bytes fault = ⊥
HasFault (Lint keep most) bytes fault = ⊥
HasFault (Split options) bytes fault = ⊥
HasFault (Merge options blank) bytes fault = ⊥
HasFault (BuildInputs options blank) bytes fault = ⊥
HasFault action bytes fault = decode_graph bytes ≡ Err fault

-- The role has no string with the ID to look up.
abbrev pub LacksNumber : Action → List ℕ → Type 0
LacksNumber (Nth role n) bytes = HasRoleStringsWith bytes role (λ strings. string_at_id strings n ≡ None)
LacksNumber action bytes = ⊥

-- The role has no ID for the string to look up.
abbrev pub LacksTerm : Action → List ℕ → Type 0
LacksTerm (Number role x) bytes =
    HasRoleStringsWith bytes role (λ strings. (n : ℕ) → string_at_id strings n ≢ Some x.items)
LacksTerm action bytes = ⊥

-- No triple has the strings to look for.
abbrev pub LacksAnyMatch : Action → List ℕ → Type 0
LacksAnyMatch (Exists given) bytes = IsLayoutWith bytes (λ graph. LacksMatch graph given)
LacksAnyMatch action bytes = ⊥

-- The output format is N-Triples, or `count` or `strings` prints terms, and the first string to print that is not a
-- term has this role and ID.
abbrev pub HasNonTerm : Action → List ℕ → Role → ℕ → Type 0
HasNonTerm (Find given numbers) bytes role n =
    IsLayoutWith bytes (λ graph. HasNonTermIn graph (query given (find_format numbers) None) role n)
HasNonTerm (Search given format most) bytes role n =
    IsLayoutWith bytes (λ graph. HasNonTermIn graph (query given format most) role n)
HasNonTerm (Count role top raw) bytes other n =
    IsLayoutWith bytes (λ graph. IsCountFault graph role top raw (NotATerm other n))
HasNonTerm (ListStrings role prefix terms) bytes other n = (other ≡ role)
    × HasRoleStringsWith bytes role (λ strings. HasUnlistedTerm strings prefix.items terms n)
HasNonTerm action bytes role n = ⊥

-- The bytes are valid, but the block size for `rewrite` is not.
abbrev pub HasBadBlockSize : Action → List ℕ → Type 0
HasBadBlockSize (Rewrite b) bytes = IsLayoutWith bytes (λ graph. IsBlockSize b → ⊥)
HasBadBlockSize action bytes = ⊥

-- The error is one that a command may return for these input bytes.
abbrev pub IsFaultOfBytes : Action → List ℕ → ToolFault → Type 0
IsFaultOfBytes action bytes (File fault) = HasFault action bytes fault
IsFaultOfBytes action bytes NoSuchNumber = LacksNumber action bytes
IsFaultOfBytes action bytes NoSuchTerm = LacksTerm action bytes
IsFaultOfBytes action bytes NoMatch = LacksAnyMatch action bytes
IsFaultOfBytes action bytes (NotATerm role n) = HasNonTerm action bytes role n
IsFaultOfBytes action bytes BadOptions = HasBadBlockSize action bytes
IsFaultOfBytes action bytes OutOfMemory = Unit {0}
IsFaultOfBytes action bytes fault = ⊥

-- The reader has yielded exactly these bytes and is at its end.
pub record ReadsAll (input : Change) (bytes : List ℕ) : Type 0 where
  pub read : Consumes input.before input.after bytes
  pub ended : IsAtEnd input.after

-- The reader has yielded bytes for which Holds is true, and is at its end.
pub record ReadsWith (input : Change) (Holds : List ℕ → Type 0) : Type 0 where
  pub bytes : List ℕ
  pub read : ReadsAll input bytes
  pub holds : Holds bytes

-- The input is an N-Triples document, `built` is the file that `build` makes of it, and the text gives the file's
-- counts.
pub record BuildsFile (options : Options) (input : Option (List ℕ)) (text built : List ℕ) : Type 0 where
  pub report : Report
  pub file : Builds options input built report
  pub printed : text ≡ built_line report

-- The bytes are a valid encoding of a graph; `built` is the canonical file of its triples with its header body, in
-- blocks of a valid size b; and the text gives the file's counts.
pub record RewritesFile (b : ℕ) (bytes text built : List ℕ) : Type 0 where
  pub graph : GraphParts
  pub encoded : IsLayout bytes graph
  pub size : IsBlockSize b
  pub report : Report
  pub file : IsRewritten b graph built report
  pub printed : text ≡ rewritten_line report

-- The text is the command's output for the input, and `built` is the new file of `build` or `rewrite`. Other commands
-- read the complete input and make no file.
abbrev pub Yields : Action → Change → List ℕ → List ℕ → Type 0
Yields (Build options) input text built = BuildsFile options input.before text built
Yields (Rewrite b) input text built = ReadsWith input (λ bytes. RewritesFile b bytes text built)
Yields action input text built = ReadsWith input (λ bytes. Prints action bytes text) × (built ≡ [])

-- The error is one that the builder may return for the document.
abbrev pub IsFaultOfDocument : Action → Change → BuildFault → Type 0
IsFaultOfDocument (Build options) input fault = IsFaultOfBuild input.before input.after fault
IsFaultOfDocument action input fault = ⊥

-- Holds is true for the options of `build`; other commands have none.
abbrev pub IfBuild : Action → (Options → Type 0) → Type 0
IfBuild (Build options) Holds = Holds options
IfBuild action Holds = Unit {0}

-- The options are not valid. `build` checks them before it reads; `rewrite` checks them only if the input is valid.
abbrev pub HasBadOptions : Action → Change → Type 0
HasBadOptions (Build options) input = AreValidOptions options → ⊥
HasBadOptions (Rewrite b) input = ReadsWith input (HasBadBlockSize (Rewrite b))
HasBadOptions action input = ⊥

-- The error is one that the command may return for the input: the first one of a file or a document, a look-up without
-- a result, or the first string to print that is not a term. Errors of reading, writing and memory may always occur.
abbrev pub IsFaultOfInput : Action → Change → ToolFault → Type 0
IsFaultOfInput action input (Input fault) = IsFaultOfDocument action input (building.Line fault)
    × (fault.reason ≢ reasons.Read)
IsFaultOfInput action input NoTriples = IsFaultOfDocument action input building.NoTriples
IsFaultOfInput action input BadOptions = HasBadOptions action input
IsFaultOfInput action input Read = Unit {0}
IsFaultOfInput action input (Write n) = Unit {0}
IsFaultOfInput action input OutOfMemory = Unit {0}
IsFaultOfInput action input fault = ReadsWith input (λ bytes. IsFaultOfBytes action bytes fault)

-- The text is the command's output for the input, and the new file has been appended to the bytes of `made`.
pub record YieldsAppended (action : Action) (input : Change) (text : List ℕ) (bytes : Update (List ℕ)) : Type 0 where
  pub built : List ℕ
  pub yields : Yields action input text built
  pub made : bytes.after ≡ bytes.before ++ built

-- The run succeeded: the writer has gained the command's output for the input, and `made` the new file.
pub record Completes (action : Action) (input out : Change) (bytes : Update (List ℕ)) : Type 0 where
  pub text : List ℕ
  pub makes : YieldsAppended action input text bytes
  pub written : Gains out text

-- The writer has gained exactly the first n bytes of the command's output for the input, which is longer.
pub record WritesOutputPrefix (action : Action) (input out : Change) (n : ℕ) : Type 0 where
  pub text : List ℕ
  pub built : List ℕ
  pub yields : Yields action input text built
  pub within : n < length text
  pub written : Gains out (take n text)

-- ---- commands that count what has no form in N-Triples

-- The writer has gained the command's output for the input, and n is what the command counts.
pub record WritesWithCount (action : Action) (input out : Change) (n : ℕ) : Type 0 where
  pub text : List ℕ
  pub prints : ReadsWith input (λ bytes. PrintsWithCount action bytes text n)
  pub written : Gains out text

-- An error that a command with OUT may end with: no look-up fails.
abbrev pub IsFileMakingFault : ToolFault → Type 0
IsFileMakingFault NoSuchTerm = ⊥
IsFileMakingFault NoSuchNumber = ⊥
IsFileMakingFault NoMatch = ⊥
IsFileMakingFault (NotATerm role n) = ⊥
IsFileMakingFault fault = Unit {0}

-- Out of memory, or a write error.
abbrev pub IsOutputFault : ToolFault → Type 0
IsOutputFault OutOfMemory = Unit {0}
IsOutputFault (Write n) = Unit {0}
IsOutputFault fault = ⊥

-- ---- errors of replacing a file

-- Out of memory, or a write error after at most all of the bytes.
abbrev pub IsReplaceFault : List ℕ → ToolFault → Type 0
IsReplaceFault built OutOfMemory = Unit {0}
IsReplaceFault built (Write n) = n ≤ length built
IsReplaceFault built fault = ⊥

-- ---- incomplete output

-- Writing the text in pieces failed: the writer failed, or memory ran out after a prefix of the text.
abbrev pub IsCutShort : ToolFault → List ℕ → Change → Type 0
IsCutShort (Write n) text out = FailsAfter n text out
IsCutShort OutOfMemory text out = IsUnfailed out × GainsBeginning out text
IsCutShort fault text out = ⊥

-- Memory ran out while a command printed in pieces: the writer has gained a prefix of its output for the input, and did
-- not fail.
pub record InterruptsOutput (action : Action) (input out : Change) : Type 0 where
  pub asked : PrintsInPieces action
  pub text : List ℕ
  pub printed : ReadsWith input (λ bytes. Prints action bytes text)
  pub well : IsUnfailed out
  pub written : GainsBeginning out text
