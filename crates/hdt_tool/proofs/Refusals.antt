-- Usage errors, derived from the contracts of `clap`.
use Rattle.std.proofs.Common.{◌≡◌, List, [], ◌∷◌, true, Option, None, Some, Result, Ok, Err, codes, refl, sym, subst}
use Rattle.std.proofs.Common.{string_bytes, inl, inr}
use Rattle.std.specs.Prelude.{◌≢◌, IfOk, IfErr, IsSomeAnd, option_map}
use Rattle.clap.specs.Words.{App, Row, Text, HasKind, HasMatchesOf, IsAmong, fault_of, found_of, is_simple}
use Rattle.clap.specs.Words.{first_of, is_simple_and_free, kind_of, matches_of, one_of, rows_of, subcommand_of}
use Rattle.clap.specs.Words.{subcommand_rows_of}
use Rattle.clap.specs.declared.parser.matches.ArgMatches.{ArgMatches}
use Rattle.clap.specs.declared.error.Error.{Error}
use Rattle.clap.specs.declared.error.kind.ErrorKind.{ErrorKind}
use Rattle.clap.specs.declared.error.kind.ErrorKind.TheVariants as kind
use Rattle.hdt_terms.specs.declared.fault.TermFault.{TermFault}
use Rattle.hdt_tool.specs.declared.fault.TermArgument.{TermArgument}
use Rattle.hdt_tool.specs.declared.fault.UsageFault.{UsageFault}
use Rattle.hdt_tool.specs.declared.fault.UsageFault.TheVariants.{Usage, Help, InvalidTerm, OutOfMemory}
use Rattle.hdt_tool.specs.declared.request.Action.{Action}
use Rattle.hdt_tool.specs.declared.request.Action.TheVariants as action
use Rattle.hdt_tool.specs.declared.request.Invocation.{Invocation}
use Rattle.hdt_tool.specs.declared.request.Request.{Request}
use Rattle.hdt_usage.specs.CommandTable.{Names, AreRoles, table}
use Rattle.hdt_usage.proofs.Simple.{simple, simple_and_free}
use Rattle.hdt_tool.specs.CommandLine.{AsksFor, IsRequestOfCommand, IsRequestOf, IsQueryAction, IsOutputAction}
use Rattle.hdt_tool.specs.CommandLine.{HasInvalidTerm, ParsesAsMemory}
use Rattle.hdt_tool.specs.CommandLine.{HasInvalidTermIn, ParsesAsFlag, ParsesAsNumberOrNone, ParsesAsProgress}
use Rattle.hdt_tool.specs.CommandLine.{ParsesToRequest}
use Rattle.hdt_tool.specs.CommandLine.{ParsesToInvocation, IsExplainCommand, IsExplanation, IsFaultOfCommand, IsRefused}
use Rattle.hdt_tool.specs.CommandLine.{IsRefusedWithRoles, IsFaultOfKind, Refutes, RefutesOrInvalidTerm, clap_errors}
use Rattle.hdt_tool.proofs.ParsedArguments.{differ}

-- The errors of `clap` for the built commands are those for the table.
pub taken : (names : Names) (app : App) (words : List Text) → app ≡ table names
    → (is_simple_and_free app ≡ true → fault_of app words ≡ []) → clap_errors names words ≡ []
unfolding clap_errors
taken names app words is h =
    (subst (λ (a : App). is_simple_and_free a ≡ true → fault_of a words ≡ []) is h) (simple_and_free names)

pub refused_by : (names : Names) (app : App) (words : List Text) (e : Error) → app ≡ table names
    → (is_simple_and_free app ≡ true → HasKind (fault_of app words) e) → HasKind (clap_errors names words) e
unfolding clap_errors
refused_by names app words e is h =
    (subst (λ (a : App). is_simple_and_free a ≡ true → HasKind (fault_of a words) e) is h) (simple_and_free names)

-- What `clap` finds for the built commands is what it finds for the table.
pub stated : (names : Names) (app : App) (words : List Text) (m : ArgMatches) → app ≡ table names
    → HasMatchesOf app words m → subcommand_rows_of m ≡ subcommand_of (table names) words
stated names app words m is h =
    (subst (λ (a : App). is_simple a ≡ true → (rows_of (found_of m) ≡ matches_of a words)
    × (subcommand_rows_of m ≡ subcommand_of a words)) is h (simple names)).1

alone : (j k : ErrorKind) → IsAmong k (j ∷ []) → k ≡ j
alone j k (inl e) = e
alone j k (inr b) = absurd b

told_by : (names : Names) (words : List Text) (e : Error) (fault : UsageFault) → HasKind (clap_errors names words) e
    → IsFaultOfKind (kind_of e) fault → IsRefusedWithRoles names words fault
told_by names words e (Help text) (inl memory) (inl k) = absurd cc
told_by names words e (Help text) (inl memory) (inr k) = absurd cc
told_by names words e (Help text) (inr among) (inl k) =
    inl (subst (λ (t : ErrorKind). IsAmong t (clap_errors names words)) k among)
told_by names words e (Help text) (inr among) (inr k) =
    inr (inl (subst (λ (t : ErrorKind). IsAmong t (clap_errors names words)) k among))
told_by names words e (Usage text) (inl memory) k = absurd (k.1 memory)
told_by names words e (Usage text) (inr among) k = (
  λ only. k.0 (inl (alone kind.DisplayHelp (kind_of e) (subst (IsAmong (kind_of e)) only among))),
  λ only. k.0 (inr (alone kind.DisplayVersion (kind_of e) (subst (IsAmong (kind_of e)) only among))),
  λ request w. subst (IsAmong (kind_of e)) w.taken among,
  λ text w. subst (IsAmong (kind_of e)) w.taken among,
)
told_by names words e (InvalidTerm argument fault) h k = absurd k
told_by names words e OutOfMemory h k = tt

-- A usage error, with the names of the roles given.
with : (names : Names) → AreRoles names → (words : List Text) (fault : UsageFault)
    → IsRefusedWithRoles names words fault → IsRefused words fault
with names roles words OutOfMemory h = tt
with names roles words fault h = record { names = names; roles = roles; refused = h }

-- A usage error for an error of `clap`.
pub told : (names : Names) → AreRoles names → (words : List Text) (e : Error) (fault : UsageFault)
    → HasKind (clap_errors names words) e → IsFaultOfKind (kind_of e) fault → IsRefused words fault
told names roles words e fault h k = with names roles words fault (told_by names words e fault h k)

-- The command line gives the invocation that the command's arguments give.
pub wanted : (names : Names) → AreRoles names
    → (words : List Text) (name : Text) (rows : List Row) (r : Result Invocation UsageFault)
    → clap_errors names words ≡ [] → subcommand_of (table names) words ≡ Some (name, rows)
    → IfOk r (λ asked. IsRequestOf name rows asked.request) → IfOk r (λ asked. ParsesAsMemory rows asked.memory)
    → IfOk r (λ asked. first_of (codes "scratch") rows ≡ option_map string_bytes asked.scratch)
    → IfOk r (λ asked. ParsesAsProgress rows asked.progress)
    → IfOk r (λ asked. ParsesAsFlag (one_of (codes "verbose") rows) asked.verbose)
    → IfOk r (λ asked. ParsesAsNumberOrNone (one_of (codes "longest-line") rows) asked.longest_line)
    → IfOk r (λ asked. first_of (codes "header") rows ≡ option_map string_bytes asked.header)
    → IfOk r (ParsesToInvocation words)
wanted names roles words name rows (Ok asked) none is h memory scratch progress verbose longest header = record {
  names = names;
  roles = roles;
  wanted = record {
    taken = none;
    asked = subst (λ (o : Option (Text × List Row)). IsRequestOfCommand o asked.request) (sym is)
        (h, (asked.memory, memory));
  };
  memory = subst (λ (o : Option (Text × List Row)). IsSomeAnd o
      (λ command. ParsesAsMemory command.1 asked.memory)) (sym is) memory;
  scratch = subst (λ (o : Option (Text × List Row)). IsSomeAnd o
      (λ command. first_of (codes "scratch") command.1 ≡ option_map string_bytes asked.scratch)) (sym is) scratch;
  progress = subst (λ (o : Option (Text × List Row)). IsSomeAnd o
      (λ command. ParsesAsProgress command.1 asked.progress)) (sym is) progress;
  verbose = subst (λ (o : Option (Text × List Row)). IsSomeAnd o
      (λ command. ParsesAsFlag (one_of (codes "verbose") command.1) asked.verbose)) (sym is) verbose;
  longest_line = subst (λ (o : Option (Text × List Row)). IsSomeAnd o
      (λ command. ParsesAsNumberOrNone (one_of (codes "longest-line") command.1) asked.longest_line)) (sym is) longest;
  header = subst (λ (o : Option (Text × List Row)). IsSomeAnd o
      (λ command. first_of (codes "header") command.1 ≡ option_map string_bytes asked.header)) (sym is) header;
}
wanted names roles words name rows (Err fault) none is h memory scratch progress verbose longest header = tt

-- The request of an invocation is the request of the command line.
pub parses_to_request : (words : List Text) (asked : Invocation) → ParsesToInvocation words asked
    → ParsesToRequest words asked.request
parses_to_request words asked w = record { names = w.names; roles = w.roles; wanted = w.wanted }

-- An error of a command other than `explain`.
pub of_request : (name : Text) (rows : List Row) (fault : UsageFault) → name ≢ codes "explain"
    → RefutesOrInvalidTerm ((request : Request) × AsksFor name rows request) (HasInvalidTerm name rows) fault
    → IsFaultOfCommand name rows fault
of_request name rows (Help text) other h = absurd h
of_request name rows (Usage text) other h = (λ request w. h (request, w), λ text w. other w.0)
of_request name rows (InvalidTerm argument fault) other h = h
of_request name rows OutOfMemory other h = tt

-- What refutes a request refutes all that asks for more.
pub asks_for_more : (P Q : Type 0) (R : TermArgument → TermFault → Type 0) (fault : UsageFault) → (Q → P)
    → RefutesOrInvalidTerm P R fault → RefutesOrInvalidTerm Q R fault
asks_for_more P Q R (Help text) less h = absurd h
asks_for_more P Q R (Usage text) less h = λ q. h (less q)
asks_for_more P Q R (InvalidTerm argument fault) less h = h
asks_for_more P Q R OutOfMemory less h = tt

-- No request is that of `explain`.
none_on_file : (name : Text) (rows : List Row) → name ≡ codes "explain" → (a : Action) → IsQueryAction name rows a → ⊥
none_on_file name rows is (action.Find given numbers) (inl h) = differ name _ _ is h.named refl
none_on_file name rows is (action.Find given numbers) (inr h) = differ name _ _ is h.0 refl
none_on_file name rows is (action.SkipNonTerms given count most) (inl h) = differ name _ _ is h.named refl
none_on_file name rows is (action.SkipNonTerms given count most) (inr h) = differ name _ _ is h.0 refl
none_on_file name rows is (action.Search given format most) h = differ name _ _ is h.named refl
none_on_file name rows is (action.Count role top raw) h = differ name _ _ is h.named refl
none_on_file name rows is (action.Answer options) h = differ name _ _ is h.named refl
none_on_file name rows is (action.Build options) h = h
none_on_file name rows is (action.Rewrite b) h = h
none_on_file name rows is a h = differ name _ _ is h.0 refl

none_making : (name : Text) (rows : List Row) → name ≡ codes "explain" → (a : Action) → IsOutputAction name rows a → ⊥
none_making name rows is (action.Rewrite b) h = differ name _ _ is h.0 refl
none_making name rows is a h = h

no_request : (name : Text) (rows : List Row) → name ≡ codes "explain" → (request : Request)
    → IsRequestOf name rows request → ⊥
no_request name rows is request (inl w) = none_on_file name rows is request.action w.action
no_request name rows is request (inr (inl w)) = none_making name rows is request.action w.action
no_request name rows is request (inr (inr w)) = differ name _ _ is w.named refl

-- The error of `explain`.
pub of_explain : (name : Text) (rows : List Row) (fault : UsageFault) → name ≡ codes "explain"
    → IsExplanation rows fault → IsFaultOfCommand name rows fault
of_explain name rows (Help text) is h = (is, h)
of_explain name rows (Usage text) is h = (λ request w. no_request name rows is request w.0, λ text w. h text w.1)
of_explain name rows (InvalidTerm argument fault) is h = absurd h
of_explain name rows OutOfMemory is h = tt

lacking : (names : Names) (words : List Text) (name : Text) (rows : List Row) (fault : UsageFault)
    → clap_errors names words ≡ [] → subcommand_of (table names) words ≡ Some (name, rows)
    → IsFaultOfCommand name rows fault → IsRefusedWithRoles names words fault
lacking names words name rows (Help text) none is h =
    inr (inr (record {
      taken = none;
      asked =
          subst (λ (o : Option (Text × List Row)). IsExplainCommand o (string_bytes text)) (sym is) h;
    }))
lacking names words name rows (Usage text) none is h = (
  λ only. cc,
  λ only. cc,
  λ request w. h.0 request (subst (λ (o : Option (Text × List Row)). IsRequestOfCommand o request) is w.asked),
  λ text w. h.1 text (subst (λ (o : Option (Text × List Row)). IsExplainCommand o text) is w.asked),
)
lacking names words name rows (InvalidTerm argument fault) none is h =
    (none, subst (λ (o : Option (Text × List Row)). HasInvalidTermIn o argument fault) (sym is) h)
lacking names words name rows OutOfMemory none is h = tt

pub unwanted : (names : Names) → AreRoles names
    → (words : List Text) (name : Text) (rows : List Row) (r : Result Invocation UsageFault)
    → clap_errors names words ≡ [] → subcommand_of (table names) words ≡ Some (name, rows)
    → IfErr r (IsFaultOfCommand name rows) → IfErr r (IsRefused words)
unwanted names roles words name rows (Ok asked) none is h = tt
unwanted names roles words name rows (Err fault) none is h =
    with names roles words fault (lacking names words name rows fault none is h)

lacking_command : (names : Names) (words : List Text) (fault : UsageFault) → clap_errors names words ≡ []
    → subcommand_of (table names) words ≡ None → Refutes ⊥ fault → IsRefusedWithRoles names words fault
lacking_command names words (Help text) none is h = absurd h
lacking_command names words (Usage text) none is h = (
  λ only. cc,
  λ only. cc,
  λ request w. subst (λ (o : Option (Text × List Row)). IsRequestOfCommand o request) is w.asked,
  λ text w. subst (λ (o : Option (Text × List Row)). IsExplainCommand o text) is w.asked,
)
lacking_command names words (InvalidTerm argument fault) none is h = absurd h
lacking_command names words OutOfMemory none is h = tt

-- The error for a command line that `clap` accepts without a command.
pub without_command : (names : Names) → AreRoles names → (words : List Text) (fault : UsageFault)
    → clap_errors names words ≡ [] → subcommand_of (table names) words ≡ None → Refutes ⊥ fault
    → IsRefused words fault
without_command names roles words fault none is h =
    with names roles words fault (lacking_command names words fault none is h)
