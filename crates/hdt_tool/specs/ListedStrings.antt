-- The output of `strings` with `--prefix` or `--terms`: the strings of a role that begin with a prefix.
use Rattle.std.specs.Prelude.{◌≡◌, ◌↔◌, ◌<◌, ℕ, suc, Bool, true, false, List, [], ◌∷◌, ◌++◌, Some, get_or, length}
use Rattle.std.specs.List.{Contains}
use Rattle.hdt_wire.specs.declared.Role.{Role}
use Rattle.hdt_dict.specs.Ids.{string_at_id}
use Rattle.hdt_dict.specs.Prefixes.{SomeBeginsWith}
use Rattle.hdt_tool.specs.StringsText.{AreLinesOf, IsFirstWithoutLine, string_line}
use Rattle.hdt_tool.specs.TermCounts.{IsStringOrTerm}
use Rattle.hdt_tool.specs.declared.fault.ToolFault.{ToolFault}
use Rattle.hdt_tool.specs.declared.fault.ToolFault.TheVariants.{NotATerm, OutOfMemory}

-- ---- the strings

-- The IDs are those of the strings that begin with the prefix, ascending.
pub record ArePrefixIds (strings : List (List ℕ)) (prefix ids : List ℕ) : Type 0 where
  pub exact : (n : ℕ) → Contains ids n ↔ SomeBeginsWith prefix (string_at_id strings n)
  pub ascend : (i d : ℕ) → suc i < length ids → get_or ids i d < get_or ids (suc i) d

-- The IDs ascend, and each has a string.
pub record AreAscendingIds (strings : List (List ℕ)) (ids : List ℕ) : Type 0 where
  pub found : (i d : ℕ) → i < length ids → (string : List ℕ) × (string_at_id strings (get_or ids i d) ≡ Some string)
  pub ascend : (i d : ℕ) → suc i < length ids → get_or ids i d < get_or ids (suc i) d

-- ---- lines

-- The line of a string with ID n: with `--terms` its N-Triples term, else the ID, a tab and the escaped string.
abbrev pub IsListedLine : Bool → ℕ → List ℕ → List ℕ → Type 0
IsListedLine true n string line = (shown : List ℕ) × IsStringOrTerm false string shown × (line ≡ shown ++ 10 ∷ [])
IsListedLine false n string line = line ≡ string_line n string

-- The line of ID n.
pub record IsLineOfId (strings : List (List ℕ)) (terms : Bool) (n : ℕ) (line : List ℕ) : Type 0 where
  pub string : List ℕ
  pub found : string_at_id strings n ≡ Some string
  pub listed : IsListedLine terms n string line

-- The text has the lines of these IDs, in order.
abbrev pub AreLinesOfIds : List (List ℕ) → Bool → List ℕ → List ℕ → Type 0
AreLinesOfIds strings terms ids text = AreLinesOf (IsLineOfId strings terms) ids text

-- The text has a line for each string that begins with the prefix.
pub record PrintsListed (strings : List (List ℕ)) (prefix : List ℕ) (terms : Bool) (text : List ℕ) : Type 0 where
  pub ids : List ℕ
  pub are : ArePrefixIds strings prefix ids
  pub lines : AreLinesOfIds strings terms ids text

-- ---- errors

-- The error is one that printing these IDs of the role may return.
abbrev pub IsLineFault : List (List ℕ) → List ℕ → Role → Bool → ToolFault → Type 0
IsLineFault strings ids role terms (NotATerm other n) = (other ≡ role) × (terms ≡ true)
    × IsFirstWithoutLine (IsLineOfId strings true) strings ids n
IsLineFault strings ids role terms OutOfMemory = Unit {0}
IsLineFault strings ids role terms fault = ⊥

-- With `--terms`, ID n of the role is the first one to print whose string is not a term.
abbrev pub HasUnlistedTerm : List (List ℕ) → List ℕ → Bool → ℕ → Type 0
HasUnlistedTerm strings prefix terms n = (terms ≡ true)
    × ((ids : List ℕ) × ArePrefixIds strings prefix ids × IsFirstWithoutLine (IsLineOfId strings true) strings ids n)

-- The error is one that the listing may return.
abbrev pub IsListFault : List (List ℕ) → List ℕ → Role → Bool → ToolFault → Type 0
IsListFault strings prefix role terms (NotATerm other n) = (other ≡ role) × HasUnlistedTerm strings prefix terms n
IsListFault strings prefix role terms OutOfMemory = Unit {0}
IsListFault strings prefix role terms fault = ⊥
