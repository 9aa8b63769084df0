-- Concatenated answers.
use Rattle.std.proofs.Common.{◌≡◌, ℕ, Bool, true, false, cond, ◌||◌, ◌⊎◌, ◌+◌, List, [], ◌∷◌, ◌++◌, length, Option}
use Rattle.std.proofs.Common.{None, Some, Result, Ok, Err, refl, sym, ap, subst, ◌∙◌, inl, inr, arith, map, get_or}
use Rattle.std.proofs.Common.{append_assoc, append-nil, take}
use Rattle.std.proofs.Math.Bool.{or-false, or_assoc}
use Rattle.std.proofs.Math.Seq.{take-append-add, take-append_seam}
use Rattle.std.proofs.lemmas.Bool.{cases_lt, lt-ltb}
use Rattle.std.proofs.lemmas.List.{length-append, length-take-le, take_all}
use Rattle.hdt_terms.specs.Documents.{AreLines, LinesSoFar, FaultAfterLines}
use Rattle.hdt_terms.specs.LinesReader.{LinesState, start, unread_input, line_number}
use Rattle.hdt_terms.specs.LinesTexts.{ReturnsNextPrefix, TakesLinePrefix, TakesText, IsNextLineError}
use Rattle.hdt_terms.specs.LinesTexts.{IsUnreadLineError}
use Rattle.hdt_terms.specs.declared.fault.LineFault.{LineFault}
use Rattle.hdt_terms.specs.declared.fault.LineReason.{LineReason}
use Rattle.hdt_terms.specs.declared.fault.LineReason.TheVariants as reasons
use Rattle.hdt_terms.specs.declared.fault.TermFault.{TermFault}
use Rattle.hdt_tool.specs.Changes.{Change, FailsAfter, Gains, IsUnfailed}
use Rattle.hdt_tool.proofs.Pieces.{step}
use Rattle.hdt_tool.specs.Faults.{fault_of_reason, line_fault_of}
use Rattle.hdt_tool.specs.Inside.AnswerLoop.{HasTakenLines}
use Rattle.hdt_tool.specs.declared.fault.ToolFault.{ToolFault}
use Rattle.hdt_tool.specs.declared.fault.ToolFault.TheVariants.{Read, Write, OutOfMemory}
use Rattle.std.specs.Io.KnownBytes.{Appends}
use Rattle.std.specs.Prelude.{IfErr, IsErrOf, option_map}
use Rattle.hdt_dict.specs.Strings.{BorrowedString}
use Rattle.std.proofs.KnownBytes.{Appends-nil, Appends-trans}
use Rattle.hdt_file.specs.File.{GraphParts}
use Rattle.hdt_tool.specs.declared.request.AnswerOptions.{AnswerOptions}
use Rattle.hdt_tool.specs.declared.request.AnswerReport.{AnswerReport}
use Rattle.hdt_tool.specs.declared.request.OutputFormat.{OutputFormat}
use Rattle.hdt_tool.specs.declared.request.OutputFormat.TheVariants.{NTriples, Numbers, Count}
use Rattle.hdt_tool.specs.NonTermText.{kept_format}
use Rattle.hdt_tool.specs.TriplesText.{AppendsTriples, PrintsTriples}
use Rattle.hdt_triples.specs.TripleSequences.{Triple}
use Rattle.hdt_file.specs.Writable.{SkipsNonTerms}
use Rattle.hdt_tool.specs.Dialogue.{AnswersKept, AnswersLine, AnswersLines, AnswersRequest}
use Rattle.hdt_tool.specs.Dialogue.{AnswersUntilFault, AreFirstLines, FollowsLines, StopsAfterAnswers, RequestStrings}
use Rattle.hdt_tool.specs.Dialogue.{bounded_request_in, given_strings, is_count, joined_reports, max_input_bytes}
use Rattle.hdt_tool.specs.Dialogue.{answer_of, with_empty_line}
use Rattle.hdt_tool.specs.Dialogue.{plain_report, skips, skips_in}

-- Reports are joined in any order.
abbrev made : Bool → ℕ → AnswerReport
made b n = record { has_errors = b; skipped = n }

made_of : (b c : Bool) (m n : ℕ) → b ≡ c → m ≡ n → made b m ≡ made c n
made_of b c m n same equal = rw (same, equal) refl

joined_nothing : (one : AnswerReport)
    → joined_reports (plain_report false) one ≡ joined_reports one (plain_report false)
joined_nothing one = made_of (false || one.has_errors) (one.has_errors || false) (0 + one.skipped) (one.skipped + 0)
    (sym (or-false one.has_errors)) (omega arith)

joined_assoc : (a b c : AnswerReport) → joined_reports (joined_reports a b) c ≡ joined_reports a (joined_reports b c)
joined_assoc a b c =
    made_of ((a.has_errors || b.has_errors) || c.has_errors) (a.has_errors || (b.has_errors || c.has_errors))
    (a.skipped + b.skipped + c.skipped) (a.skipped + (b.skipped + c.skipped))
    (or_assoc a.has_errors b.has_errors c.has_errors) (omega arith)

-- One more line and its answer.
pub lines_on : (g : GraphParts) (options : AnswerOptions) (lines : List (ℕ × List ℕ)) (line : ℕ
    × List ℕ) (report one : AnswerReport) (text answer : List ℕ) → AnswersLines g options lines report text
    → AnswersLine g options line one answer
    → AnswersLines g options (lines ++ line ∷ []) (joined_reports report one) (text ++ answer)
lines_on g options [] line report one text answer h a = (
  one,
  answer,
  plain_report false,
  [],
  a,
  (refl, refl),
  ap (λ (r : AnswerReport). joined_reports r one) h.0
      ∙ joined_nothing one,
  ap (λ t. t ++ answer) h.1 ∙ sym (append-nil answer),
)
lines_on g options (first ∷ lines) line report one text answer h a = (
  h.0,
  h.1,
  joined_reports h.2 one,
  h.3 ++ answer,
  h.4,
  lines_on g options lines line h.2 one h.3 answer h.5 a,
  ap (λ (r : AnswerReport). joined_reports r one) h.6 ∙ joined_assoc h.0 h.2 one,
  ap (λ t. t ++ answer) h.7 ∙ append_assoc h.1 h.3 answer,
)

-- The answer for triples that have a line: their text and an empty line.
kept_format_is : (skip : Bool) (format : OutputFormat) → skips_in skip format ≡ true
    → kept_format (is_count format) ≡ format
kept_format_is skip NTriples h = refl
kept_format_is skip Numbers h = absurd cc
kept_format_is skip Count h = refl

pub kept_answered : (g : GraphParts) (options : AnswerOptions) (count : Bool) (found kept printed : List Triple)
    (n : ℕ) (old mid new : List ℕ) → count ≡ is_count options.format → skips options ≡ true
    → SkipsNonTerms g options.most found kept n → printed ≡ kept
    → AppendsTriples (kept_format count) g printed old mid → new ≡ mid ++ 10 ∷ []
    → (answer : List ℕ) × AnswersKept g options found n answer × (new ≡ old ++ answer)
kept_answered g options count found kept printed n old mid new counts skipping skipped same appends ended_is =
    let prints =
    subst (λ (f : OutputFormat). PrintsTriples f g kept appends.text)
    (kept_format_is options.skip options.format skipping)
    (subst (λ (b : Bool). PrintsTriples (kept_format b) g kept appends.text) counts
    (subst (λ (ts : List Triple). PrintsTriples (kept_format count) g ts appends.text) same appends.prints)) in (
      with_empty_line appends.text,
      (kept, skipped, (appends.text, prints, refl)),
      ended_is ∙ ap (λ (x : List ℕ). x ++ 10 ∷ []) appends.appended ∙ append_assoc old appends.text (10 ∷ []),
    )

-- One byte more than the maximum length is enough to see that a line is too long: such a prefix has the answer of the
-- line.
front_asked : (options : AnswerOptions) (front line : List ℕ) → front ≡ take (options.longest + 1) line
    → bounded_request_in options front ≡ bounded_request_in options line
front_asked options front line is =
    elim (cases_lt options.longest (length line)) [
      | inl long ↦
          let len : length front ≡ options.longest + 1 =
          ap length is ∙ length-take-le (options.longest + 1) line (omega (arith, long)) in
          rw (
            lt-ltb options.longest (length front) (omega (arith, len)),
            lt-ltb options.longest (length line) long,
          ) refl
      | inr short ↦ ap (bounded_request_in options) (is ∙ take_all (options.longest + 1) line (omega (arith, short)))
    ]

pub front_answered : (g : GraphParts) (options : AnswerOptions) (n : ℕ) (front line : List ℕ) (report : AnswerReport)
    (answer : List ℕ) → front ≡ take (options.longest + 1) line
    → AnswersLine g options (n, front) report answer → AnswersLine g options (n, line) report answer
front_answered g options n front line report answer is h =
    subst (λ (r : Result (Option RequestStrings) TermFault). AnswersRequest g options n r (answer_of report answer))
    (front_asked options front line is) h

-- Lines that have been read are the first lines of the input.
pub gone_some : (s : LinesState) (input mid : Option (List ℕ)) (lines : List (ℕ × List ℕ))
    → HasTakenLines s input mid lines → AreFirstLines input lines
gone_some s input mid lines (inl h) = inl (s, mid, h.1)
gone_some s input mid lines (inr h) = inr h.1

bool_case : {A : Type 0} (b : Bool) → (b ≡ true → A) → (b ≡ false → A) → A
bool_case true one other = one refl
bool_case false one other = other refl

-- One more line is read.
pub gone_on : (goes_on : (limit : ℕ) (s new : LinesState) (input mid after : Option (List ℕ))
    (lines : List (ℕ × List ℕ)) (text : List ℕ) → LinesSoFar limit s input mid lines → TakesText s new mid after text
    → new.ended ≡ false
    → LinesSoFar limit new input after (lines ++ (line_number new, text) ∷ []))
    → (last : (limit : ℕ) (s new : LinesState) (input mid after : Option (List ℕ)) (lines : List (ℕ × List ℕ))
    (text : List ℕ) → LinesSoFar limit s input mid lines → TakesText s new mid after text → new.ended ≡ true
    → AreLines limit input (lines ++ (line_number new, text) ∷ []))
    → (s new : LinesState) (input mid after : Option (List ℕ)) (lines : List (ℕ × List ℕ)) (text : List ℕ)
    → s.ended ≡ false → TakesText s new mid after text → HasTakenLines s input mid lines
    → HasTakenLines new input after (lines ++ (line_number new, text) ∷ [])
gone_on goes_on last s new input mid after lines text going t (inl h) =
    bool_case new.ended (λ e. inr (e, last max_input_bytes s new input mid after lines text h.1 t e))
    (λ e. inl (e, goes_on max_input_bytes s new input mid after lines text h.1 t e))
gone_on goes_on last s new input mid after lines text going t (inr h) = absurd (cc (h.0, going))

-- The result is a line.
pub taken_front : (r : Result Bool LineFault) (most : ℕ) (front : List ℕ) (s new : LinesState)
    (mid after given : Option (List ℕ)) → r ≡ Ok true → ReturnsNextPrefix r most front s new mid after given
    → TakesLinePrefix most s new mid after front
taken_front (Ok true) most front s new mid after given e h = h
taken_front (Ok false) most front s new mid after given e h = absurd h
taken_front (Err fault) most front s new mid after given e h = absurd cc

-- The result is an error.
pub taken_fault : (r : Result Bool LineFault) (most : ℕ) (front : List ℕ) (s new : LinesState)
    (mid after given : Option (List ℕ)) → ReturnsNextPrefix r most front s new mid after given
    → IfErr r (λ f. IsNextLineError f s mid given)
taken_fault (Ok told) most front s new mid after given h = tt
taken_fault (Err fault) most front s new mid after given h = h

pub ended_fault : (P : LineFault → Type 0) (r : Result Bool LineFault) → r ≡ Ok false → IfErr r P
ended_fault P (Ok told) e = tt
ended_fault P (Err fault) e = absurd cc

-- ---- errors that end the answers

-- A line that could not be read.
stopped_by : (fault : LineFault) (reason : LineReason) (text : List ℕ) (out : Change) → IsUnfailed out
    → Gains out text → StopsAfterAnswers (fault_of_reason fault reason) text out
stopped_by fault reasons.Read text out same gained = (same, gained)
stopped_by fault reasons.OutOfMemory text out same gained = (same, gained)
stopped_by fault reason text out same gained = (same, gained)

read_fault : (fault : LineFault) → fault.reason ≡ reasons.Read → fault.column ≡ 0
    → fault ≡ record { line = fault.line; column = 0; reason = reasons.Read }
read_fault fault is none = ap (λ k. record { line = fault.line; column = k; reason = fault.reason }) none
    ∙ ap (λ r. record { line = fault.line; column = 0; reason = r }) is

-- The error occurs after the lines that were answered. Of the errors of reading a line, only `TooLong` is an error of
-- the input.
stopped_behind : (fault : LineFault) (reason : LineReason) (input : Change) (lines : List (ℕ × List ℕ))
    → fault.reason ≡ reason → FaultAfterLines fault max_input_bytes input.before input.after lines
    → FollowsLines (fault_of_reason fault reason) input lines
stopped_behind fault reasons.Read input lines is h = (
  fault.line,
  subst (λ f. FaultAfterLines f max_input_bytes input.before input.after lines) (read_fault fault is h.column) h,
)
stopped_behind fault reasons.OutOfMemory input lines is h = tt
stopped_behind fault reasons.TooLong input lines is h = (is, h)
stopped_behind fault reason input lines is h =
    absurd (subst (λ (r : LineReason). IsUnreadLineError r (length h.front) max_input_bytes h.left input.after) is
    h.fault_is)

-- The error of a line is `Read` only if the reader failed.
reader_failed_by : (fault : LineFault) (reason : LineReason) → fault_of_reason fault reason ≡ Read
    → reason ≡ reasons.Read
reader_failed_by fault reasons.Read is = refl
reader_failed_by fault reasons.OutOfMemory is = absurd cc
reader_failed_by fault reason is = absurd cc

pub reader_failed : {T : Type 0} (fault : LineFault) (e : ToolFault) → e ≡ line_fault_of fault
    → IsErrOf {T = T} (Err e) Read → fault.reason ≡ reasons.Read
reader_failed {T} fault e is h =
    let same : e ≡ Read = cc in
    reader_failed_by fault fault.reason (sym is ∙ same)

-- The writer fails after m bytes of one more answer.
pub fails_on : (a b c : Option (List ℕ)) (text answer : List ℕ) (n m f g h : ℕ) → n ≡ length text → Appends a b text
    → g ≡ f → FailsAfter m answer (step b c g h) → FailsAfter (n + m) (text ++ answer) (step a c f h)
fails_on a b c text answer n m f g h count one same fails = record {
  failed = fails.failed ∙ ap (λ k. k + 1) same;
  within = omega (arith, count, fails.within, length-append text answer);
  written = subst (Appends a c) (sym (ap (λ k. take (k + m) (text ++ answer)) count ∙ take-append-add text answer m))
      (Appends-trans a b c text (take m answer) one fails.written);
}

-- The writer has gained the text except its end, which is pending; n bytes are written.
abbrev pub GainedButFor : Option (List ℕ) → Option (List ℕ) → List ℕ → List ℕ → ℕ → Type 0
GainedButFor a b text pending n = (gone : List ℕ) × (text ≡ gone ++ pending) × Appends a b gone × (n ≡ length gone)

-- One more answer is pending.
pub gained_answer : (a b : Option (List ℕ)) (text pending answer new : List ℕ) (n : ℕ) → GainedButFor a b text pending n
    → new ≡ pending ++ answer → GainedButFor a b (text ++ answer) new n
gained_answer a b text pending answer new n h one =
    (h.0, ap (λ t. t ++ answer) h.1 ∙ append_assoc h.0 pending answer ∙ ap (λ t. h.0 ++ t) (sym one), h.2, h.3)

-- A prefix of the pending answers is written.
pub gained_on : (a b c : Option (List ℕ)) (text pending new : List ℕ) (n m : ℕ) → GainedButFor a b text pending n
    → ((part : List ℕ) × (m ≡ n + length part) × (pending ≡ part ++ new) × Appends b c part)
    → GainedButFor a c text new m
gained_on a b c text pending new n m h one = (
  h.0 ++ one.0,
  h.1 ∙ ap (λ t. h.0 ++ t) one.2 ∙ sym (append_assoc h.0 one.0 new),
  Appends-trans a b c h.0 one.0 h.2 one.3,
  omega (arith, one.1, h.3, length-append h.0 one.0),
)

pub gained_all : (a b c : Option (List ℕ)) (text pending : List ℕ) (n : ℕ) → GainedButFor a b text pending n
    → Appends b c pending → Appends a c text
gained_all a b c text pending n h one = subst (Appends a c) (sym h.1) (Appends-trans a b c h.0 pending h.2 one)

-- The writer failed within the pending answers.
pub cut_pending : (g : GraphParts) (options : AnswerOptions) (input : Change) (a b c : Option (List ℕ))
    (lines : List (ℕ × List ℕ)) (report : AnswerReport) (text pending : List ℕ) (n f d h : ℕ) (e : ToolFault)
    → AreFirstLines input.before lines → AnswersLines g options lines report text → GainedButFor a b text pending n
    → d ≡ f → ((m : ℕ) × (e ≡ Write (n + m)) × FailsAfter m pending (step b c d h))
    → AnswersUntilFault g options input (step a c f h) e
cut_pending g options input a b c lines report text pending n f d h e some all gained same cut = record {
  lines = lines;
  are = some;
  behind = subst (λ (t : ToolFault). FollowsLines t input lines) (sym cut.1) tt;
  report = report;
  text = text;
  answers = all;
  stopped =
      subst (λ (t : ToolFault). StopsAfterAnswers t text (step a c f h)) (sym cut.1)
      (subst (λ t. FailsAfter (n + cut.0) t (step a c f h)) (sym gained.1)
      (fails_on a b c gained.0 pending n cut.0 f d h gained.3 gained.2 same cut.2));
}

-- Memory ran out after complete answers.
pub refused_behind : (g : GraphParts) (options : AnswerOptions) (input out : Change)
    (lines : List (ℕ × List ℕ)) (report : AnswerReport) (text : List ℕ) (e : ToolFault)
    → AreFirstLines input.before lines → AnswersLines g options lines report text → Gains out text → IsUnfailed out
    → e ≡ OutOfMemory → AnswersUntilFault g options input out e
refused_behind g options input out lines report text e some all gained same is = record {
  lines = lines;
  are = some;
  behind = subst (λ (t : ToolFault). FollowsLines t input lines) (sym is) tt;
  report = report;
  text = text;
  answers = all;
  stopped = subst (λ (t : ToolFault). StopsAfterAnswers t text out) (sym is) (same, gained);
}

-- After one more answer, the count overflowed or the writer failed.
pub cut_answer : (g : GraphParts) (options : AnswerOptions) (input : Change) (a b c : Option (List ℕ))
    (lines : List (ℕ × List ℕ)) (line : ℕ × List ℕ) (report one : AnswerReport) (text pending answer new : List ℕ)
    (start n f d h : ℕ) (e : ToolFault)
    → AreFirstLines input.before lines → AreFirstLines input.before (lines ++ line ∷ [])
    → AnswersLines g options lines report text
    → AnswersLine g options line one answer → GainedButFor a b text pending n → new ≡ pending ++ answer
    → start ≡ length pending → d ≡ f
    → ((e ≡ OutOfMemory) × (h ≡ d) × Appends b c (take start new))
    ⊎ ((m : ℕ) × (e ≡ Write (n + m)) × FailsAfter m new (step b c d h))
    → AnswersUntilFault g options input (step a c f h) e
cut_answer g options input a b c lines line report one text pending answer new start n f d h e before after all
    this gained grown behind same (inl refused) =
    let front : take start new ≡ pending = ap (λ k. take k new) behind ∙ ap (take (length pending)) grown
    ∙ take-append_seam pending answer in
    refused_behind g options input (step a c f h) lines report text e before all
    (gained_all a b c text pending n gained (subst (Appends b c) front refused.2)) (refused.1 ∙ same) refused.0
cut_answer g options input a b c lines line report one text pending answer new start n f d h e before after all
    this gained grown behind same (inr cut) =
    cut_pending g options input a b c (lines ++ line ∷ []) (joined_reports report one) (text
    ++ answer) new n f d h e after (lines_on g options lines line report one text answer all this)
    (gained_answer a b text pending answer new n gained grown) same cut

-- Answers are pending only if a complete line is buffered.
pub pending_or_held : {P : Type 0} (pending : List ℕ) (held : Bool) → (pending ≡ []) ⊎ (held ≡ true) → (held ≡ true → P)
    → (pending ≡ []) ⊎ P
pending_or_held pending held (inl none) is = inl none
pending_or_held pending held (inr e) is = inr (is e)

-- A line that could not be read, after the answers to earlier ones.
pub unread_line : (g : GraphParts) (options : AnswerOptions) (s : LinesState) (mid : Option (List ℕ))
    (input out : Change) (lines : List (ℕ × List ℕ)) (report : AnswerReport) (text : List ℕ) (fault : LineFault)
    → HasTakenLines s input.before mid lines → AnswersLines g options lines report text → Gains out text
    → IsUnfailed out → FaultAfterLines fault max_input_bytes input.before input.after lines
    → AnswersUntilFault g options input out (line_fault_of fault)
unread_line g options s mid input out lines report text fault gone all gained same h =
    record {
      lines = lines;
      are = gone_some s input.before mid lines gone;
      behind = stopped_behind fault fault.reason input lines refl h;
      report = report;
      text = text;
      answers = all;
      stopped = stopped_by fault fault.reason text out same gained;
    }

-- ---- the initial state

abbrev Begins : Type 0
Begins = (limit : ℕ) (input : Option (List ℕ)) → LinesSoFar limit (start limit) input
    (unread_input (start limit) input) []

pub nothing_answered : Begins → (g : GraphParts) (options : AnswerOptions) (input out : Change)
    → out.after ≡ out.before → IsUnfailed out → AnswersUntilFault g options input out OutOfMemory
nothing_answered begins g options input out same well = record {
  lines = [];
  are = inl (
    start max_input_bytes,
    unread_input (start max_input_bytes) input.before,
    begins max_input_bytes input.before,
  );
  behind = tt;
  report = plain_report false;
  text = [];
  answers = (refl, refl);
  stopped = (well, subst (λ b. Appends out.before b []) (sym same) (Appends-nil out.before));
}

pub begun : Begins → (s : LinesState) (input : Option (List ℕ)) → s ≡ start max_input_bytes
    → HasTakenLines s input (unread_input s input) [] × (s.failed ≡ None)
begun begins s input is =
    subst (λ (t : LinesState). HasTakenLines t input (unread_input t input) []
    × (t.failed ≡ None)) (sym is) (inl (refl, begins max_input_bytes input), refl)

-- ---- the given strings

pub lent_given : (given : List Bool) (s p o : List ℕ) (x y z : Option BorrowedString) (a b c : Bool) → length given ≡ 3
    → option_map (λ t. t.now) x ≡ cond (get_or given 0 a) (Some s) None
    → option_map (λ t. t.now) y ≡ cond (get_or given 1 b) (Some p) None
    → option_map (λ t. t.now) z ≡ cond (get_or given 2 c) (Some o) None
    → map (option_map (λ t. t.now)) (x ∷ y ∷ z ∷ []) ≡ given_strings given s p o
lent_given [] s p o x y z a b c n one two last = absurd (omega arith)
lent_given (i ∷ []) s p o x y z a b c n one two last = absurd (omega arith)
lent_given (i ∷ j ∷ []) s p o x y z a b c n one two last = absurd (omega arith)
lent_given (i ∷ j ∷ k ∷ []) s p o x y z a b c n one two last = rw (one, two, last) refl
lent_given (i ∷ j ∷ k ∷ l ∷ rest) s p o x y z a b c n one two last = absurd (omega arith)
