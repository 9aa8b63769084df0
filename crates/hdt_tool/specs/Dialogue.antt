-- The answers of `answer`: to one line of requests, and to all lines.
use Rattle.std.specs.Prelude.{◌≡◌, ◌+◌, ◌^◌, ◌-◌, ℕ, Bool, true, false, nat_lt, length, ◌||◌, ◌⊎◌, List, [], ◌∷◌, ◌++◌}
use Rattle.std.specs.Prelude.{if◌then◌else◌, Option, None, Some, MatchOption, Result, Ok, Err, codes, option_map}
use Rattle.std.specs.Fmt.{decimal}
use Rattle.hdt_wire.specs.declared.Role.{Role}
use Rattle.hdt_terms.specs.declared.fault.LineReason.TheVariants as reasons
use Rattle.hdt_terms.specs.declared.fault.TermFault.{TermFault}
use Rattle.hdt_terms.specs.Faults.{out_of_memory}
use Rattle.hdt_terms.specs.Documents.{AreLines, LinesSoFar, FaultAfterLines}
use Rattle.hdt_terms.specs.RawRequestParsing.{StringPattern, is_raw_given, raw_request_in}
use Rattle.hdt_terms.specs.Reasons.{line_reason_number, line_reason_name}
use Rattle.hdt_terms.specs.RequestParsing.{request_in}
use Rattle.hdt_terms.specs.Requests.{TermPattern}
use Rattle.hdt_terms.specs.LinesReader.{LinesState}
use Rattle.hdt_terms.specs.Terms.{dictionary_string}
use Rattle.hdt_triples.specs.TripleSequences.{Triple}
use Rattle.hdt_file.specs.File.{GraphParts}
use Rattle.hdt_file.specs.Writable.{SkipsNonTerms}
use Rattle.hdt_file.specs.TermFlags.{AreTermFlags}
use Rattle.hdt_file.specs.Text.{IsFirstNonTerm}
use Rattle.hdt_file.specs.TextWriting.{limited}
use Rattle.hdt_file.specs.declared.term_flags.TermFlags.{TermFlags}
use Rattle.hdt_tool.specs.Changes.{Change, FailsAfter, Gains, IsUnfailed}
use Rattle.hdt_tool.specs.Outcomes.{IsLayoutWith, ReadsWith}
use Rattle.hdt_usage.specs.CommandTable.{role_name}
use Rattle.hdt_tool.specs.TriplesText.{FindsStrings, PrintsTriples}
use Rattle.hdt_tool.specs.declared.fault.ToolFault.{ToolFault}
use Rattle.hdt_tool.specs.declared.fault.ToolFault.TheVariants.{Input, Read, Write, OutOfMemory}
use Rattle.hdt_tool.specs.declared.request.AnswerOptions.{AnswerOptions}
use Rattle.hdt_tool.specs.declared.request.AnswerReport.{AnswerReport}
use Rattle.hdt_tool.specs.declared.request.OutputFormat.{OutputFormat}
use Rattle.hdt_tool.specs.declared.request.OutputFormat.TheVariants.{NTriples, Numbers, Count}

-- ---- the request in a line

-- The strings for subject, predicate and object; none matches any.
abbrev pub RequestStrings : Type 0
RequestStrings = List (Option (List ℕ))

abbrev pub term_request_strings : TermPattern → RequestStrings
term_request_strings asked = option_map dictionary_string asked.s ∷ option_map dictionary_string asked.p
    ∷ option_map dictionary_string asked.o ∷ []

-- With `--raw`, the text `?` matches any; any other text is a string.
abbrev pub raw_request_string : List ℕ → Option (List ℕ)
raw_request_string x = if is_raw_given x then Some x else None

abbrev pub raw_request_strings : StringPattern → RequestStrings
raw_request_strings asked = raw_request_string asked.s ∷ raw_request_string asked.p ∷ raw_request_string asked.o ∷ []

abbrev pub map_request : {A : Type 0} → (A → RequestStrings) → Result (Option A) TermFault
    → Result (Option RequestStrings) TermFault
map_request strings (Ok None) = Ok None
map_request strings (Ok (Some asked)) = Ok (Some (strings asked))
map_request strings (Err fault) = Err fault

-- The request in a line, of N-Triples terms or of dictionary strings: none in a blank line or a comment, or the first
-- error.
abbrev pub request_strings_in : Bool → List ℕ → Result (Option RequestStrings) TermFault
request_strings_in false text = map_request term_request_strings (request_in text)
request_strings_in true text = map_request raw_request_strings (raw_request_in text)

-- The error of a line above the maximum length.
abbrev pub too_long : TermFault
too_long = record { column = 0; reason = reasons.TooLong }

-- The request in a line, unless the line is above the maximum length.
abbrev pub bounded_request_in : AnswerOptions → List ℕ → Result (Option RequestStrings) TermFault
bounded_request_in options text =
    if nat_lt options.longest (length text) then Err too_long else request_strings_in options.raw text

-- Those of the three strings that are given.
abbrev pub given_strings : List Bool → List ℕ → List ℕ → List ℕ → RequestStrings
given_strings [] s p o = []
given_strings (a ∷ []) s p o = []
given_strings (a ∷ b ∷ []) s p o = []
given_strings (a ∷ b ∷ c ∷ rest) s p o = (if a then Some s else None) ∷ (if b then Some p else None)
    ∷ (if c then Some o else None) ∷ []

-- The request that was parsed into the three buffers, unless memory ran out.
abbrev pub ReadsRequest : Result (Option (List Bool)) TermFault → List ℕ → List ℕ → List ℕ
    → Result (Option RequestStrings) TermFault → Type 0
ReadsRequest (Ok None) s p o read = read ≡ Ok None
ReadsRequest (Ok (Some given)) s p o read = read ≡ Ok (Some (given_strings given s p o))
ReadsRequest (Err fault) s p o read = (fault ≡ out_of_memory) ⊎ (read ≡ Err fault)

-- ---- the answer to a line

-- The comment line for an error.
abbrev pub fault_comment : ℕ → TermFault → List ℕ
fault_comment line fault = codes "# line " ++ decimal line ++ codes " column " ++ decimal fault.column ++ codes ": "
    ++ decimal (line_reason_number fault.reason) ++ codes " " ++ line_reason_name fault.reason ++ codes "\n"

-- The comment line for a string that is not a term.
abbrev pub non_term_comment : Role → ℕ → List ℕ
non_term_comment role n = codes "# " ++ role_name role ++ codes " " ++ decimal n ++ codes " is not a term\n"

-- An answer ends with an empty line.
abbrev pub with_empty_line : List ℕ → List ℕ
with_empty_line text = text ++ 10 ∷ []

-- The answer to a request: its report, and its text.
pub record Answer : Type 0 where
  pub report : AnswerReport
  pub text : List ℕ

abbrev pub answer_of : AnswerReport → List ℕ → Answer
answer_of report text = record { report = report; text = text }

-- The answer without an error: the text of the triples.
abbrev pub AnswersTriples : OutputFormat → GraphParts → List Triple → List ℕ → Type 0
AnswersTriples format g found answer = (text : List ℕ) × PrintsTriples format g found text
    × (answer ≡ with_empty_line text)

-- The answer in N-Triples if a string of the triples is not a term: only a comment with the first one.
abbrev pub AnswersNonTerm : OutputFormat → GraphParts → List Triple → List ℕ → Type 0
AnswersNonTerm format g found answer = (role : Role) × (n : ℕ) × (format ≡ NTriples) × IsFirstNonTerm g found role n
    × (answer ≡ with_empty_line (non_term_comment role n))

-- The answer for these triples, and whether it is an error.
abbrev pub AnswersFound : OutputFormat → GraphParts → List Triple → Bool → List ℕ → Type 0
AnswersFound format g found false answer = AnswersTriples format g found answer
AnswersFound format g found true answer = AnswersNonTerm format g found answer

-- Whether triples that have no line of N-Triples are left out: with `--skip-non-terms`, except that `--numbers` prints
-- the IDs of all.
abbrev pub skips_in : Bool → OutputFormat → Bool
skips_in skip NTriples = skip
skips_in skip Numbers = false
skips_in skip Count = skip

abbrev pub skips : AnswerOptions → Bool
skips options = skips_in options.skip options.format

-- Whether the answer is a number of triples.
abbrev pub is_count : OutputFormat → Bool
is_count Count = true
is_count format = false

-- The flags of the strings, if triples are left out.
abbrev pub AreFlagsIfSkipping : Bool → GraphParts → Option TermFlags → Type 0
AreFlagsIfSkipping skips g flags = MatchOption flags (skips ≡ false) (λ flags. (skips ≡ true) × AreTermFlags g flags)

-- The answer for those of the triples that have a line, up to the limit; n without one were left out.
abbrev pub AnswersKept : GraphParts → AnswerOptions → List Triple → ℕ → List ℕ → Type 0
AnswersKept g options found n answer = (kept : List Triple) × SkipsNonTerms g options.most found kept n
    × AnswersTriples options.format g kept answer

-- The answer for the triples that were found, up to the limit; true if triples are left out.
abbrev pub AnswersMatches : Bool → GraphParts → AnswerOptions → List Triple → Answer → Type 0
AnswersMatches false g options found answer = (answer.report.skipped ≡ 0)
    × AnswersFound options.format g (limited options.most found) answer.report.has_errors answer.text
AnswersMatches true g options found answer = (answer.report.has_errors ≡ false)
    × AnswersKept g options found answer.report.skipped answer.text

-- The report of an answer that leaves out no triple.
abbrev pub plain_report : Bool → AnswerReport
plain_report faulty = record { has_errors = faulty; skipped = 0 }

-- The report of two answers, or of all answers to some lines and to others.
abbrev pub joined_reports : AnswerReport → AnswerReport → AnswerReport
joined_reports one other =
    record { has_errors = one.has_errors || other.has_errors; skipped = one.skipped + other.skipped }

-- The answer to the request in line n: empty for a blank line or a comment, a comment for an error, or the matches up
-- to the limit.
abbrev pub AnswersRequest : GraphParts → AnswerOptions → ℕ → Result (Option RequestStrings) TermFault → Answer → Type 0
AnswersRequest g options n (Ok None) answer = (answer.report ≡ plain_report false) × (answer.text ≡ [])
AnswersRequest g options n (Ok (Some wanted)) answer = (found : List Triple) × FindsStrings g wanted found
    × AnswersMatches (skips options) g options found answer
AnswersRequest g options n (Err fault) answer = (answer.report ≡ plain_report true)
    × (answer.text ≡ with_empty_line (fault_comment n fault))

-- The answer to a numbered line.
abbrev pub AnswersLine : GraphParts → AnswerOptions → ℕ × List ℕ → AnswerReport → List ℕ → Type 0
AnswersLine g options line report answer =
    AnswersRequest g options line.0 (bounded_request_in options line.1) (answer_of report answer)

-- The concatenated answers to lines, whether any of them is an error, and how many triples they leave out.
abbrev pub AnswersLines : GraphParts → AnswerOptions → List (ℕ × List ℕ) → AnswerReport → List ℕ → Type 0
AnswersLines g options [] report answers = (report ≡ plain_report false) × (answers ≡ [])
AnswersLines g options (line ∷ lines) report answers = (first : AnswerReport) × (answer : List ℕ)
    × (others : AnswerReport) × (more : List ℕ)
    × AnswersLine g options line first answer × AnswersLines g options lines others more
    × (report ≡ joined_reports first others) × (answers ≡ answer ++ more)

-- ---- the answers to an input

-- A limit in bytes that no input exceeds.
abbrev pub max_input_bytes : ℕ
max_input_bytes = 2 ^ 63 - 1

-- The writer has gained the answers to all lines of the input.
pub record AnswersInput (g : GraphParts) (options : AnswerOptions) (input out : Change)
    (report : AnswerReport) : Type 0 where
  pub lines : List (ℕ × List ℕ)
  pub are : AreLines max_input_bytes input.before lines
  pub text : List ℕ
  pub answers : AnswersLines g options lines report text
  pub written : Gains out text

-- These are the first lines of the input, or all of them.
abbrev pub AreFirstLines : Option (List ℕ) → List (ℕ × List ℕ) → Type 0
AreFirstLines input lines =
    ((s : LinesState) × (left : Option (List ℕ)) × LinesSoFar max_input_bytes s input left lines)
    ⊎ AreLines max_input_bytes input lines

-- The writer failed after exactly the first n bytes of the answers; or another error occurred after all of them.
abbrev pub StopsAfterAnswers : ToolFault → List ℕ → Change → Type 0
StopsAfterAnswers (Write n) text out = FailsAfter n text out
StopsAfterAnswers Read text out = IsUnfailed out × Gains out text
StopsAfterAnswers OutOfMemory text out = IsUnfailed out × Gains out text
StopsAfterAnswers (Input fault) text out = IsUnfailed out × Gains out text
StopsAfterAnswers fault text out = ⊥

-- If a line could not be read, these are exactly the complete lines before it.
abbrev pub FollowsLines : ToolFault → Change → List (ℕ × List ℕ) → Type 0
FollowsLines Read input lines = (line : ℕ)
    × FaultAfterLines (record { line = line; column = 0; reason = reasons.Read }) max_input_bytes input.before
    input.after lines
FollowsLines (Input fault) input lines = (fault.reason ≡ reasons.TooLong)
    × FaultAfterLines fault max_input_bytes input.before input.after lines
FollowsLines fault input lines = Unit {0}

-- An error ended the answers: the writer has gained those to the first lines of the input, complete unless it failed.
pub record AnswersUntilFault (g : GraphParts) (options : AnswerOptions) (input out : Change)
    (fault : ToolFault) : Type 0 where
  pub lines : List (ℕ × List ℕ)
  pub are : AreFirstLines input.before lines
  pub behind : FollowsLines fault input lines
  pub report : AnswerReport
  pub text : List ℕ
  pub answers : AnswersLines g options lines report text
  pub stopped : StopsAfterAnswers fault text out

-- ---- the same over a file

-- The file is valid, and the writer has gained the answers to all lines of the requests over its graph.
abbrev pub AnswersOverFile : AnswerOptions → Change → Change → Change → AnswerReport → Type 0
AnswersOverFile options file input out report =
    ReadsWith file (λ bytes. IsLayoutWith bytes (λ graph. AnswersInput graph options input out report))

-- The file is valid, and an error ended the answers to the requests over its graph.
abbrev pub AnswersOverFileUntilFault : AnswerOptions → Change → Change → Change → ToolFault → Type 0
AnswersOverFileUntilFault options file input out fault =
    ReadsWith file (λ bytes. IsLayoutWith bytes (λ graph. AnswersUntilFault graph options input out fault))
