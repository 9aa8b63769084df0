-- Errors for the bytes of a file as errors of the complete run.
use Rattle.std.proofs.Common.{◌≡◌, ◌≢◌, ◌⊎◌, ℕ, Bool, List, Option, None, Some, sym, subst, inl, inr}
use Rattle.std.specs.declared.alloc.Global.{Global}
use Rattle.std.specs.declared.vec.Vec.{Vec}
use Rattle.hdt_tool.specs.declared.fault.ToolFault.{ToolFault}
use Rattle.hdt_tool.specs.declared.fault.ToolFault.TheVariants.{Input, NoTriples, NoSuchTerm, NoMatch, NoSuchNumber}
use Rattle.hdt_tool.specs.declared.fault.ToolFault.TheVariants.{NotATerm, BadOptions, Read, Write, OutOfMemory}
use Rattle.hdt_tool.specs.declared.request.Action.{Action}
use Rattle.hdt_tool.specs.declared.request.Action.TheVariants.{ListStrings, Nth, Number, Find, Search, Exists, Count}
use Rattle.hdt_tool.specs.declared.request.Action.TheVariants.{Rewrite}
use Rattle.hdt_tool.specs.declared.request.OutputFormat.{OutputFormat}
use Rattle.hdt_wire.specs.declared.Role.{Role}
use Rattle.hdt_dict.specs.Ids.{string_at_id}
use Rattle.hdt_file.specs.File.{GraphParts, IsLayout}
use Rattle.hdt_dict.specs.Dictionary.{role_strings}
use Rattle.hdt_tool.specs.Changes.{Change}
use Rattle.hdt_tool.specs.Outcomes.{HasBadBlockSize, HasNonTerm, IsFaultOfBytes, ReadsAll, IsFaultOfInput}
use Rattle.hdt_tool.specs.Outcomes.{HasBadOptions}
use Rattle.hdt_tool.specs.ListedStrings.{IsListFault}
use Rattle.hdt_tool.specs.TermCounts.{IsCountFault}
use Rattle.hdt_tool.specs.TriplesText.{GivenStrings, IsFindFault, LacksMatch, find_format, query}

-- A block size that is not valid.
bad_blocks : (action : Action) (input : Change) (bytes : List ℕ) → ReadsAll input bytes
    → HasBadBlockSize action bytes → HasBadOptions action input
bad_blocks (Rewrite b) input bytes read h = record { bytes = bytes; read = read; holds = h }
bad_blocks action input bytes read h = absurd h

-- An error for the bytes that were read is an error of the run.
pub fault_of_input : (action : Action) (input : Change) (bytes : List ℕ) (e : ToolFault)
    → ReadsAll input bytes → IsFaultOfBytes action bytes e → IsFaultOfInput action input e
fault_of_input action input bytes (Input fault) read h = absurd h
fault_of_input action input bytes NoTriples read h = absurd h
fault_of_input action input bytes BadOptions read h = bad_blocks action input bytes read h
fault_of_input action input bytes Read read h = absurd h
fault_of_input action input bytes (Write n) read h = absurd h
fault_of_input action input bytes OutOfMemory read h = tt
fault_of_input action input bytes fault read h = record { bytes = bytes; read = read; holds = h }

-- An error for the bytes is never a write error.
pub not_write : (action : Action) (bytes : List ℕ) (e : ToolFault) (n : ℕ) → IsFaultOfBytes action bytes e → e ≡ Write n
    → ⊥
not_write action bytes e n h is = subst (IsFaultOfBytes action bytes) is h

-- A look-up without a result.
pub no_number : (role : Role) (n : ℕ) (bytes : List ℕ) (graph : GraphParts) (e : ToolFault) → IsLayout bytes graph
    → (e ≡ OutOfMemory) ⊎ ((e ≡ NoSuchNumber) × (string_at_id (role_strings graph.dictionary role) n ≡ None))
    → IsFaultOfBytes (Nth role n) bytes e
no_number role n bytes graph e encoded (inl is) =
    subst (λ (t : ToolFault). IsFaultOfBytes (Nth role n) bytes t) (sym is) tt
no_number role n bytes graph e encoded (inr h) =
    subst (λ (t : ToolFault). IsFaultOfBytes (Nth role n) bytes t) (sym h.0)
    (record { graph = graph; encoded = encoded; holds = h.1 })

pub no_term : (role : Role) (x : Vec ℕ Global) (bytes : List ℕ) (graph : GraphParts) (e : ToolFault)
    → IsLayout bytes graph
    → (e ≡ OutOfMemory) ⊎ ((e ≡ NoSuchTerm)
    × ((n : ℕ) → string_at_id (role_strings graph.dictionary role) n ≢ Some x.items))
    → IsFaultOfBytes (Number role x) bytes e
no_term role x bytes graph e encoded (inl is) =
    subst (λ (t : ToolFault). IsFaultOfBytes (Number role x) bytes t) (sym is) tt
no_term role x bytes graph e encoded (inr h) =
    subst (λ (t : ToolFault). IsFaultOfBytes (Number role x) bytes t) (sym h.0)
    (record { graph = graph; encoded = encoded; holds = h.1 })

-- Triples that cannot be printed.
pub no_text : (given : GivenStrings) (format : OutputFormat) (most : Option ℕ) (bytes : List ℕ) (graph : GraphParts)
    (e : ToolFault) → IsLayout bytes graph
    → IsFindFault graph (query given format most) e → IsFaultOfBytes (Search given format most) bytes e
no_text given format most bytes graph (NotATerm role n) encoded h =
    record { graph = graph; encoded = encoded; holds = h }
no_text given format most bytes graph OutOfMemory encoded h = tt
no_text given format most bytes graph fault encoded h = absurd h

-- The same for `find` without a limit.
pub no_find : (given : GivenStrings) (numbers : Bool) (format : OutputFormat) (bytes : List ℕ) (e : ToolFault)
    → format ≡ find_format numbers → IsFaultOfBytes (Search given format None) bytes e
    → IsFaultOfBytes (Find given numbers) bytes e
no_find given numbers format bytes (NotATerm role n) is h =
    subst (λ (f : OutputFormat). HasNonTerm (Search given f None) bytes role n) is h
no_find given numbers format bytes fault is h = h

-- Terms that cannot be printed with their counts.
pub no_counts : (role : Role) (top : Option ℕ) (raw : Bool) (bytes : List ℕ) (graph : GraphParts) (e : ToolFault)
    → IsLayout bytes graph
    → IsCountFault graph role top raw e → IsFaultOfBytes (Count role top raw) bytes e
no_counts role top raw bytes graph (NotATerm other n) encoded h = record { graph = graph; encoded = encoded; holds = h }
no_counts role top raw bytes graph OutOfMemory encoded h = tt
no_counts role top raw bytes graph fault encoded h = absurd h

-- Strings that cannot be printed as terms.
pub no_listing : (role : Role) (prefix : Vec ℕ Global) (terms : Bool) (bytes : List ℕ) (graph : GraphParts)
    (e : ToolFault) → IsLayout bytes graph
    → IsListFault (role_strings graph.dictionary role) prefix.items role terms e
    → IsFaultOfBytes (ListStrings role prefix terms) bytes e
no_listing role prefix terms bytes graph (NotATerm other n) encoded h =
    (h.0, record { graph = graph; encoded = encoded; holds = h.1 })
no_listing role prefix terms bytes graph OutOfMemory encoded h = tt
no_listing role prefix terms bytes graph fault encoded h = absurd h

-- A search without a match.
pub no_match : (given : GivenStrings) (bytes : List ℕ) (graph : GraphParts) (e : ToolFault) → IsLayout bytes graph
    → (e ≡ NoMatch) × LacksMatch graph given → IsFaultOfBytes (Exists given) bytes e
no_match given bytes graph e encoded h =
    subst (IsFaultOfBytes (Exists given) bytes) (sym h.0) (record { graph = graph; encoded = encoded; holds = h.1 })
