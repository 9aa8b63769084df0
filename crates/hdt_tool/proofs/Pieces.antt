-- Writing a text in pieces: its first n bytes have been written, and the buffer holds the next ones.
use Rattle.std.proofs.Common.{◌≡◌, ◌≤◌, ◌+◌, ◌++◌, ◌∙◌, ◌⊎◌, ◌≢◌, ℕ, Bool, true, false, List, []}
use Rattle.std.proofs.Common.{Option, None, length, take, drop, refl, sym}
use Rattle.std.proofs.Common.{ap, subst, arith, append_assoc, take-append-drop, inl, inr}
use Rattle.std.specs.Io.KnownBytes.{Appends}
use Rattle.std.proofs.lemmas.List.{length-drop, length-append, take_at, drop_at, drop-drop, take-append-le}
use Rattle.std.proofs.Math.Seq.{take-add}
use Rattle.std.proofs.KnownBytes.{Appends-trans}
use Rattle.hdt_tool.specs.declared.fault.ToolFault.{ToolFault}
use Rattle.hdt_tool.specs.declared.fault.ToolFault.TheVariants.{Write, OutOfMemory}
use Rattle.hdt_tool.specs.declared.request.Action.{Action}
use Rattle.hdt_tool.specs.declared.request.Action.TheVariants.{Find, Search, SkipNonTerms, Strings}
use Rattle.hdt_tool.specs.declared.request.OutputFormat.{OutputFormat}
use Rattle.hdt_tool.specs.declared.request.OutputFormat.TheVariants.{NTriples}
use Rattle.hdt_tool.specs.StringsText.{string_lines}
use Rattle.hdt_tool.specs.NonTermText.{PrintsKept}
use Rattle.hdt_tool.specs.TriplesText.{GivenStrings, IsFindFault, PrintsFound, find_format, query}
use Rattle.hdt_wire.specs.declared.Role.{Role}
use Rattle.hdt_file.specs.File.{GraphParts, IsLayout}
use Rattle.hdt_dict.specs.Dictionary.{role_strings}
use Rattle.hdt_tool.specs.Changes.{Change, FailsAfter, GainsBeginning, HasFailed, IsUnfailed}
use Rattle.hdt_tool.specs.Outcomes.{WritesOutputPrefix, PrintsInPieces}
use Rattle.hdt_tool.specs.Outcomes.{InterruptsOutput, IsCutShort, IsFaultOfBytes, IsFaultOfInput, Prints, ReadsAll}
use Rattle.hdt_tool.specs.Outcomes.{PrintsCountingNonTerms}
use Rattle.hdt_tool.proofs.InputFaults.{fault_of_input, no_find, no_text, not_write}
use Rattle.hdt_tool.proofs.Outputs.{nothing_built, reads_only}

-- The writer before and after.
abbrev pub step : Option (List ℕ) → Option (List ℕ) → ℕ → ℕ → Change
step a b f g = record { before = a; after = b; failed_before = f; failed_after = g }

abbrev pub PiecesOutcome : Action → List ℕ → ToolFault → Type 0 → Change → Type 0
PiecesOutcome action bytes e Same out = (IsFaultOfBytes action bytes e × Same)
    ⊎ ((text : List ℕ) × Prints action bytes text × IsCutShort e text out)

-- An error other than a write error.
memory_cut : (fault : ToolFault) (text : List ℕ) (out : Change) → IsCutShort fault text out
    → ((n : ℕ) → fault ≢ Write n) → (fault ≡ OutOfMemory) × IsUnfailed out × GainsBeginning out text
memory_cut (Write n) text out h none = absurd (none n refl)
memory_cut OutOfMemory text out h none = (refl, h.0, h.1)
memory_cut fault text out h none = absurd h

-- A part of the buffer is written.
pub more_within : (all part behind : List ℕ) (n : ℕ) → n ≤ length all → drop n all ≡ part ++ behind
    → n + length part ≤ length all
more_within all part behind n h e = omega (arith, h, length-drop n all, ap length e, length-append part behind)

pub more_gained : (a b c : Option (List ℕ)) (all part behind : List ℕ) (n : ℕ) → drop n all ≡ part ++ behind
    → Appends a b (take n all) → Appends b c part → Appends a c (take (n + length part) all)
more_gained a b c all part behind n e one two =
    let whole : take (n + length part) all ≡ take n all ++ part =
    take-add n (length part) all
    ∙ ap (λ (t : List ℕ). take n all ++ t) (ap (take (length part)) e ∙ take_at part behind (length part) refl) in
    subst (Appends a c) (sym whole) (Appends-trans a b c (take n all) part one two)

pub less_kept : (all part behind : List ℕ) (n : ℕ) → drop n all ≡ part ++ behind → drop (n + length part) all ≡ behind
less_kept all part behind n e = sym (drop-drop (length part) n all) ∙ ap (drop (length part)) e
    ∙ drop_at part behind (length part) refl

-- The writer fails after m bytes of that part.
pub fails_behind : (a b c : Option (List ℕ)) (all part behind : List ℕ) (n m f g h : ℕ) → n ≤ length all
    → drop n all ≡ part ++ behind → Appends a b (take n all) → g ≡ f
    → FailsAfter m part (step b c g h) → FailsAfter (n + m) all (step a c f h)
fails_behind a b c all part behind n m f g h within e one same fails =
    let whole : take (n + m) all ≡ take n all ++ take m part =
    take-add n m all ∙ ap (λ (t : List ℕ). take n all ++ t) (ap (take m) e
    ∙ take-append-le m part behind (omega (arith, fails.within))) in
    record {
      failed = fails.failed ∙ ap (λ (k : ℕ). k + 1) same;
      within = omega (arith, within, fails.within, length-drop n all, ap length e, length-append part behind);
      written = subst (Appends a c) (sym whole) (Appends-trans a b c (take n all) (take m part) one fails.written);
    }

-- If pending bytes are not written, the text is incomplete.
pub cut_by : {C : Type 0} (contents : C → Option (List ℕ)) (failed : C
    → ℕ) (fault : ToolFault) (start out new : C) (all part behind : List ℕ) (n k : ℕ) → n ≤ length all
    → drop n all ≡ part ++ behind
    → Appends (contents start) (contents out) (take n all) → failed out ≡ failed start
    → ((fault ≡ OutOfMemory) × (failed new ≡ failed out) × Appends (contents out) (contents new) (take k part))
    ⊎ ((m : ℕ) × (fault ≡ Write (n + m))
    × FailsAfter m part (step (contents out) (contents new) (failed out) (failed new)))
    → IsCutShort fault all (step (contents start) (contents new) (failed start) (failed new))
cut_by contents failed fault start out new all part behind n k within e one same (inl none) =
    let front : drop n all ≡ take k part ++ (drop k part ++ behind) =
    e ∙ ap (λ (t : List ℕ). t ++ behind) (sym (take-append-drop k part))
    ∙ append_assoc (take k part) (drop k part) behind in
    subst (λ (t : ToolFault). IsCutShort t all (step (contents start) (contents new) (failed start) (failed new)))
    (sym none.0) (
      none.1 ∙ same,
      (
        n + length (take k part),
        more_gained (contents start) (contents out) (contents new) all (take k part) (drop k part
            ++ behind) n front one none.2,
      ),
    )
cut_by contents failed fault start out new all part behind n k within e one same (inr some) =
    subst (λ (t : ToolFault). IsCutShort t all (step (contents start) (contents new) (failed start) (failed new)))
    (sym some.1)
    (fails_behind (contents start) (contents out) (contents new) all part behind n some.0 (failed start) (failed out)
    (failed new) within e one same some.2)

-- The last bytes of the text are written.
pub whole_gained : (a b c : Option (List ℕ)) (all bytes : List ℕ) (n : ℕ) → Appends a b (take n all)
    → drop n all ≡ bytes → Appends b c bytes → Appends a c all
whole_gained a b c all bytes n gained behind h =
    subst (Appends a c) (ap (λ (t : List ℕ). take n all ++ t) (sym behind) ∙ take-append-drop n all)
    (Appends-trans a b c (take n all) bytes gained h)

-- A run with incomplete output.
pub pieces_write : (action : Action) (input out : Change) (bytes seen : List ℕ) (fault : ToolFault) (Same : Type 0)
    → PrintsInPieces action → ReadsAll input bytes → seen ≡ bytes → PiecesOutcome action seen fault Same out
    → (n : ℕ) → fault ≡ Write n → HasFailed out × WritesOutputPrefix action input out n
pieces_write action input out bytes seen fault Same asked read is (inl told) n e =
    absurd (not_write action seen fault n told.0 e)
pieces_write action input out bytes seen fault Same asked read is (inr h) n e =
    let cut : FailsAfter n h.0 out = subst (λ (t : ToolFault). IsCutShort t h.0 out) e h.2 in
    let makes = nothing_built action (reads_only action asked) input h.0 []
    (record { bytes = bytes; read = read; holds = subst (λ (x : List ℕ). Prints action x h.0) is h.1 }) in (
      cut.failed,
      record {
        text = h.0;
        built = makes.built;
        yields = makes.yields;
        within = cut.within;
        written = cut.written;
      },
    )

-- An error that cuts the output short says nothing of the input.
cut_reported : (action : Action) (input out : Change) (fault : ToolFault) (text : List ℕ) → IsCutShort fault text out
    → IsFaultOfInput action input fault
cut_reported action input out (Write n) text h = tt
cut_reported action input out OutOfMemory text h = tt
cut_reported action input out fault text h = absurd h

pub pieces_reported : (action : Action) (input out : Change) (bytes seen : List ℕ) (fault : ToolFault) (Same : Type 0)
    → ReadsAll input bytes → seen ≡ bytes → PiecesOutcome action seen fault Same out → IsFaultOfInput action input fault
pieces_reported action input out bytes seen fault Same read is (inl told) =
    fault_of_input action input bytes fault read
    (subst (λ (text : List ℕ). IsFaultOfBytes action text fault) is told.0)
pieces_reported action input out bytes seen fault Same read is (inr h) = cut_reported action input out fault h.0 h.2

pub pieces_halt : (action : Action) (input out : Change) (bytes seen : List ℕ) (fault : ToolFault) (Same : Type 0)
    → PrintsInPieces action → ReadsAll input bytes → seen ≡ bytes → PiecesOutcome action seen fault Same out
    → ((n : ℕ) → fault ≢ Write n) → Same ⊎ ((fault ≡ OutOfMemory) × InterruptsOutput action input out)
pieces_halt action input out bytes seen fault Same asked read is (inl told) none = inl told.1
pieces_halt action input out bytes seen fault Same asked read is (inr h) none =
    let cut = memory_cut fault h.0 out h.2 none in
    inr (
      cut.0,
      record {
        asked = asked;
        text = h.0;
        printed = record { bytes = bytes; read = read; holds = subst (λ (x : List ℕ). Prints action x h.0) is h.1 };
        well = cut.1;
        written = cut.2;
      },
    )

-- ---- commands that print in pieces

pub strings_print : (role : Role) (bytes : List ℕ) (graph : GraphParts) → IsLayout bytes graph
    → Prints (Strings role) bytes (string_lines 1 (role_strings graph.dictionary role))
strings_print role bytes graph encoded = record { graph = graph; encoded = encoded; holds = refl }

pub find_prints : (given : GivenStrings) (numbers : Bool) (format : OutputFormat) (bytes text : List ℕ)
    (graph : GraphParts) → format ≡ find_format numbers → IsLayout bytes graph
    → PrintsFound graph (query given format None) text → Prints (Find given numbers) bytes text
find_prints given numbers format bytes text graph same encoded h = record {
  graph = graph;
  encoded = encoded;
  holds = subst (λ (f : OutputFormat). PrintsFound graph (query given f None) text) same h;
}

-- What printing triples reports, as an outcome of the command.
abbrev pub FindOutcome : GivenStrings → OutputFormat → Option ℕ → GraphParts → ToolFault → Type 0 → Change → Type 0
FindOutcome given format most graph e Same out = (IsFindFault graph (query given format most) e × Same)
    ⊎ ((text : List ℕ) × PrintsFound graph (query given format most) text × IsCutShort e text out)

pub find_told : (given : GivenStrings) (numbers : Bool) (format : OutputFormat) (bytes : List ℕ) (graph : GraphParts)
    (e : ToolFault) (Same : Type 0) (out : Change) → format ≡ find_format numbers
    → IsLayout bytes graph → FindOutcome given format None graph e Same out
    → PiecesOutcome (Find given numbers) bytes e Same out
find_told given numbers format bytes graph e Same out same encoded (inl h) =
    inl (no_find given numbers format bytes e same (no_text given format None bytes graph e encoded h.0), h.1)
find_told given numbers format bytes graph e Same out same encoded (inr h) =
    inr (h.0, find_prints given numbers format bytes h.0 graph same encoded h.1, h.2)

pub search_told : (given : GivenStrings) (format : OutputFormat) (most : Option ℕ) (bytes : List ℕ)
    (graph : GraphParts) (e : ToolFault) (Same : Type 0) (out : Change) → IsLayout bytes graph
    → FindOutcome given format most graph e Same out → PiecesOutcome (Search given format most) bytes e Same out
search_told given format most bytes graph e Same out encoded (inl h) =
    inl (no_text given format most bytes graph e encoded h.0, h.1)
search_told given format most bytes graph e Same out encoded (inr h) =
    inr (h.0, record { graph = graph; encoded = encoded; holds = h.1 }, h.2)

pub kept_prints : (given : GivenStrings) (count : Bool) (most : Option ℕ) (bytes text : List ℕ) (n : ℕ)
    (graph : GraphParts) → PrintsInPieces (SkipNonTerms given count most) → IsLayout bytes graph
    → PrintsKept graph (query given NTriples most) text n
    → PrintsCountingNonTerms (SkipNonTerms given count most) bytes text n
kept_prints given false most bytes text n graph is encoded h = record { graph = graph; encoded = encoded; holds = h }
kept_prints given true most bytes text n graph is encoded h = absurd is

pub kept_told : (given : GivenStrings) (count : Bool) (most : Option ℕ) (bytes : List ℕ) (graph : GraphParts)
    (e : ToolFault) (Same : Type 0) (out : Change)
    → PrintsInPieces (SkipNonTerms given count most) → IsLayout bytes graph
    → ((e ≡ OutOfMemory) × Same)
    ⊎ ((text : List ℕ) × (n : ℕ) × PrintsKept graph (query given NTriples most) text n × IsCutShort e text out)
    → PiecesOutcome (SkipNonTerms given count most) bytes e Same out
kept_told given count most bytes graph e Same out is encoded (inl h) =
    inl (subst (λ (x : ToolFault). IsFaultOfBytes (SkipNonTerms given count most) bytes x) (sym h.0) tt, h.1)
kept_told given count most bytes graph e Same out is encoded (inr h) =
    inr (h.0, (h.1, kept_prints given count most bytes h.0 h.1 graph is encoded h.2), h.3)

pub only_pieces : (action : Action) → PrintsInPieces action → ((role : Role) → action ≢ Strings role)
    → ((given : GivenStrings) (numbers : Bool) → action ≢ Find given numbers)
    → ((given : GivenStrings) (format : OutputFormat) (most : Option ℕ) → action ≢ Search given format most)
    → ((given : GivenStrings) (count : Bool) (most : Option ℕ) → action ≢ SkipNonTerms given count most) → ⊥
only_pieces (Strings role) is not_strings not_find not_search not_skip = not_strings role refl
only_pieces (Find given numbers) is not_strings not_find not_search not_skip = not_find given numbers refl
only_pieces (Search given format most) is not_strings not_find not_search not_skip = not_search given format most refl
only_pieces (SkipNonTerms given count most) is not_strings not_find not_search not_skip =
    not_skip given count most refl
only_pieces action is not_strings not_find not_search not_skip = is
