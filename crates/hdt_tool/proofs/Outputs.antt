-- The output and the new file of a run, by kind of command.
use Rattle.std.proofs.Common.{◌≡◌, ◌≢◌, ◌++◌, ◌∙◌, ℕ, Bool, true, false, List, [], Option, Result, Ok, Err, length}
use Rattle.std.proofs.Common.{take, refl}
use Rattle.std.proofs.Common.{sym, ap, subst}
use Rattle.std.specs.Prelude.{IfErr, IsErrOf, OnErr, OnOk}
use Rattle.std.proofs.lemmas.List.{append-nil, take_at}
use Rattle.hdt_build.specs.Reading.{ReadFailed}
use Rattle.hdt_build.specs.declared.fault.BuildFault.{BuildFault}
use Rattle.hdt_build.specs.declared.fault.BuildFault.TheVariants as building
use Rattle.hdt_build.specs.declared.options.Options.{Options}
use Rattle.hdt_tool.specs.declared.fault.ToolFault.{ToolFault}
use Rattle.hdt_tool.specs.declared.fault.ToolFault.TheVariants.{BadOptions, Read, Write}
use Rattle.hdt_tool.specs.declared.request.Action.{Action}
use Rattle.hdt_tool.specs.declared.request.Action.TheVariants.{Build, Find, Rewrite, Search, SkipNonTerms, Strings}
use Rattle.hdt_tool.specs.declared.request.Action.TheVariants.{VerifyTerms}
use Rattle.hdt_tool.specs.declared.request.OutputFormat.TheVariants.{Count}
use Rattle.hdt_file.specs.File.{GraphParts, IsLayout}
use Rattle.hdt_tool.specs.NonTermText.{PrintsKept}
use Rattle.hdt_tool.specs.Changes.{Change, FailsAfter, Gains, HasFailed, update}
use Rattle.hdt_tool.specs.Outcomes.{Completes, IfBuild, IsReadOnly, Prints}
use Rattle.hdt_tool.specs.Outcomes.{PrintsInPieces, PrintsText}
use Rattle.hdt_tool.specs.Outcomes.{PrintsWithCount, ReadsAll}
use Rattle.hdt_tool.specs.Outcomes.{ReadsWith}
use Rattle.hdt_tool.specs.Outcomes.{RewritesFile, WritesOutputPrefix, Yields, YieldsAppended}
use Rattle.hdt_tool.specs.TriplesText.{GivenStrings, query}
use Rattle.hdt_tool.specs.Faults.{build_fault_of, fault_of_reason}

-- If the command's error is not a read error, neither is that of the builder.
pub not_failed : (fault : BuildFault) → build_fault_of fault ≢ Read → ReadFailed fault → ⊥
not_failed (building.Line fault) not h = not (ap (fault_of_reason fault) h)
not_failed fault not h = h

-- A command other than `build` and `rewrite` writes no file.
pub read_only : (action : Action) → ((options : Options) → action ≢ Build options) → ((b : ℕ) → action ≢ Rewrite b)
    → IsReadOnly action
read_only (Build options) not_build not_rewrite = absurd (not_build options refl)
read_only (Rewrite b) not_build not_rewrite = absurd (not_rewrite b refl)
read_only action not_build not_rewrite = tt

-- A command that writes no file leaves `made` unchanged.
pub nothing_built : (action : Action) → IsReadOnly action → (input : Change) (text made : List ℕ)
    → ReadsWith input (λ bytes. Prints action bytes text)
    → YieldsAppended action input text (update made made)
nothing_built (Build options) is input text made h = absurd is
nothing_built (Rewrite b) is input text made h = absurd is
nothing_built action is input text made h =
    record { built = []; yields = (h, refl); made = sym (append-nil made) }

-- What a command prints, with what it counts, is its output.
printed : (action : Action) (bytes text : List ℕ) (n : ℕ) → PrintsWithCount action bytes text n
    → Prints action bytes text
printed (SkipNonTerms given count most) bytes text n h = (n, h)
printed (VerifyTerms tight) bytes text n h = (n, h)
printed action bytes text n h = h.0

pub reads_printed : (action : Action) (input : Change) (text : List ℕ) (n : ℕ)
    → ReadsWith input (λ bytes. PrintsWithCount action bytes text n)
    → ReadsWith input (λ bytes. Prints action bytes text)
reads_printed action input text n h =
    record { bytes = h.bytes; read = h.read; holds = printed action h.bytes text n h.holds }

-- A command that counts nothing.
pub counts_nothing : (action : Action) (bytes text : List ℕ) → PrintsText action → Prints action bytes text
    → PrintsWithCount action bytes text 0
counts_nothing (SkipNonTerms given count most) bytes text is h = absurd is
counts_nothing (VerifyTerms tight) bytes text is h = absurd is
counts_nothing action bytes text is h = (h, refl)

pub reads_only : (action : Action) → PrintsInPieces action → IsReadOnly action
reads_only (Build options) is = absurd is
reads_only (Rewrite b) is = absurd is
reads_only action is = tt

pub not_in_pieces : (action : Action) (b : Bool) → (PrintsInPieces action → b ≡ true) → b ≡ false
    → PrintsInPieces action → ⊥
not_in_pieces action b told fails is = let holds = told is in absurd cc

-- The number of the triples that have a line.
pub counts_kept : (given : GivenStrings) (count : Bool) (most : Option ℕ) (bytes text : List ℕ) (n : ℕ)
    (graph : GraphParts) → (PrintsInPieces (SkipNonTerms given count most) → ⊥) → IsLayout bytes graph
    → PrintsKept graph (query given Count most) text n → PrintsWithCount (SkipNonTerms given count most) bytes text n
counts_kept given true most bytes text n graph is encoded h = record { graph = graph; encoded = encoded; holds = h }
counts_kept given false most bytes text n graph is encoded h = absurd (is tt)

pub prints_text : (action : Action) → IsReadOnly action → (PrintsInPieces action → ⊥)
    → ((given : GivenStrings) (count : Bool) (most : Option ℕ) → action ≢ SkipNonTerms given count most)
    → ((tight : Bool) → action ≢ VerifyTerms tight) → PrintsText action
prints_text (Strings role) is not_pieces not_skipping not_terms = absurd (not_pieces tt)
prints_text (Find given numbers) is not_pieces not_skipping not_terms = absurd (not_pieces tt)
prints_text (Search given format most) is not_pieces not_skipping not_terms = absurd (not_pieces tt)
prints_text (SkipNonTerms given count most) is not_pieces not_skipping not_terms =
    absurd (not_skipping given count most refl)
prints_text (VerifyTerms tight) is not_pieces not_skipping not_terms = absurd (not_terms tight refl)
prints_text action is not_pieces not_skipping not_terms = is

-- `rewrite` of the bytes that were read.
pub rewrites : (b : ℕ) (input : Change) (bytes seen text made more : List ℕ)
    → ReadsAll input bytes → seen ≡ bytes
    → ((file : List ℕ) × RewritesFile b seen text file × (more ≡ made ++ file))
    → YieldsAppended (Rewrite b) input text (update made more)
rewrites b input bytes seen text made more read same h = record {
  built = h.0;
  yields = record {
    bytes = bytes;
    read = read;
    holds =
        subst (λ (bytes : List ℕ). RewritesFile b bytes text h.0) same h.1;
  };
  made = h.2;
}

-- What follows for the options of `build`.
pub if_build : (action : Action) (P Q : Options → Type 0) → ((options : Options) → P options → Q options)
    → IfBuild action P → IfBuild action Q
if_build (Build options) P Q f h = f options h
if_build action P Q f h = tt

-- It has no options of `build`.
pub no_options : (action : Action) (Holds : Options → Type 0) → IsReadOnly action → IfBuild action Holds
no_options (Build options) Holds is = absurd is
no_options action Holds is = tt

-- ---- writing a complete text

-- The writer failed after a prefix of the text.
abbrev pub IsWriteFault : List ℕ → Change → ToolFault → Type 0
IsWriteFault text out e = (n : ℕ) × (e ≡ Write n) × FailsAfter n text out

-- All of the text is written.
pub completes : (r : Result (Unit {0}) ToolFault) (action : Action) (input out : Change)
    (text made mid last : List ℕ) → YieldsAppended action input text (update made mid)
    → OnOk r (Gains out text) → OnOk r (last ≡ mid) → OnOk r (Completes action input out (update made last))
completes (Ok done) action input out text made mid last makes written same =
    record {
      text = text;
      makes = subst (λ (bytes : List ℕ). YieldsAppended action input text (update made bytes)) (sym same) makes;
      written = written;
    }
completes (Err e) action input out text made mid last makes written same = tt

-- A prefix of it is written.
pub writes_prefix : (r : Result (Unit {0}) ToolFault) (action : Action) (input out : Change) (text built : List ℕ)
    → Yields action input text built → IfErr r (IsWriteFault text out)
    → IfErr r (λ e. (n : ℕ) → e ≡ Write n → HasFailed out × WritesOutputPrefix action input out n)
writes_prefix (Ok done) action input out text built yields fails = tt
writes_prefix (Err e) action input out text built yields fails = λ n is.
    let same : Write fails.0 ≡ Write n = sym fails.1 ∙ is in
    let count : fails.0 ≡ n = cc in
    let cut : FailsAfter n text out = subst (λ m. FailsAfter m text out) count fails.2 in
    (cut.failed, record { text = text; built = built; yields = yields; within = cut.within; written = cut.written })

-- A write error is no other error.
pub only_writing : (A : ToolFault → Type 0) (r : Result (Unit {0}) ToolFault) (out : Change) (text : List ℕ)
    → IfErr r (IsWriteFault text out) → IfErr r (λ e. ((n : ℕ) → e ≢ Write n) → A e)
only_writing A (Ok done) out text fails = tt
only_writing A (Err e) out text fails = λ none. absurd (none fails.0 fails.1)

pub not_bad_writing : (r : Result (Unit {0}) ToolFault) (out : Change) (text : List ℕ)
    → IfErr r (IsWriteFault text out) → IsErrOf r BadOptions → ⊥
not_bad_writing (Ok done) out text fails is = absurd cc
not_bad_writing (Err e) out text fails is =
    let bad : e ≡ BadOptions = cc in
    let same : Write fails.0 ≡ BadOptions = sym fails.1 ∙ bad in absurd cc

-- Truncation removes exactly what was appended.
pub restored : (r : Result (Unit {0}) ToolFault) (start : ℕ) (before built after new : List ℕ) → length before ≡ start
    → after ≡ before ++ built → OnErr r (new ≡ take start after) → OnErr r (new ≡ before)
restored (Ok done) start before built after new long made cut = tt
restored (Err e) start before built after new long made cut = cut ∙ ap (take start) made
    ∙ take_at before built start long
