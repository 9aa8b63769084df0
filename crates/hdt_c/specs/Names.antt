-- The names of reasons.
use Rattle.std.specs.Prelude.{◌≡◌, ℕ, List, length}
use Rattle.hdt_wire.specs.declared.fault.Reason.{Reason}
use Rattle.hdt_wire.specs.Fault.{reason_number, reason_name}
use Rattle.hdt_terms.specs.declared.fault.LineReason.{LineReason}
use Rattle.hdt_terms.specs.Reasons.{line_reason_number, line_reason_name}
use Rattle.hdt_c.specs.CallerBuffer.{overwritten_prefix}

-- the text was written to the buffer, as much as fits, and its length is the result
abbrev pub PutsText : List ℕ → ℕ → List ℕ → List ℕ → Type 0
PutsText text answer old new = (answer ≡ length text) × (new ≡ overwritten_prefix text old)

-- the name of the reason of a file with this number was written to the buffer
abbrev pub NamesFileReason : ℕ → ℕ → List ℕ → List ℕ → Type 0
NamesFileReason n answer old new = (reason : Reason) → reason_number reason ≡ n
    → PutsText (reason_name reason) answer old new

-- no reason of a file has this number
abbrev pub IsNoFileReason : ℕ → Type 0
IsNoFileReason n = (reason : Reason) → reason_number reason ≡ n → ⊥

-- the name of the reason of a text with this number was written to the buffer
abbrev pub NamesTextReason : ℕ → ℕ → List ℕ → List ℕ → Type 0
NamesTextReason n answer old new = (reason : LineReason) → line_reason_number reason ≡ n
    → PutsText (line_reason_name reason) answer old new

-- no reason of a text has this number
abbrev pub IsNoTextReason : ℕ → Type 0
IsNoTextReason n = (reason : LineReason) → line_reason_number reason ≡ n → ⊥
