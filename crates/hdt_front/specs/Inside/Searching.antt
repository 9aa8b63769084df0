-- A search for a string, or for the strings that begin with it, and its intermediate results.
use Rattle.std.specs.Prelude.{◌≡◌, ℕ, ◌+◌, ◌-◌, ◌*◌, ◌<◌, ◌≤◌, ◌||◌, Bool, true, false, List, [], length, get_or}
use Rattle.std.specs.Prelude.{nat_eq, Result, Ok, Err}
use Rattle.std.specs.declared.cmp.Ordering.{Ordering}
use Rattle.std.specs.declared.cmp.Ordering.TheVariants.{Equal, Greater}
use Rattle.std.specs.Ordering.{is_lt}
use Rattle.hdt_front.specs.declared.search.Bound.{Bound}
use Rattle.hdt_front.specs.declared.search.Bound.TheVariants.{Lower, Upper}
use Rattle.hdt_front.specs.declared.search.BlockProbe.{BlockProbe}
use Rattle.hdt_front.specs.declared.search.BlockProbe.TheVariants as block_probe
use Rattle.hdt_front.specs.declared.search.EntryProbe.{EntryProbe}
use Rattle.hdt_front.specs.declared.search.EntryProbe.TheVariants as entry_probe
use Rattle.hdt_front.specs.EntryFacts.{bytes_from_entry}
use Rattle.hdt_front.specs.Order.{string_cmp, lcp_len}

-- Given the order of a string and the searched one, and the length of their longest common prefix: the string is less
-- (Lower); or it is less or begins with the searched one (Upper).
abbrev pub is_before_by : Bound → ℕ → Ordering → ℕ → Bool
is_before_by Lower len order lcp = is_lt order
is_before_by Upper len order lcp = is_lt order || nat_eq lcp len

-- The string is before the searched one. In ascending strings those come first.
unfoldable pub is_before : Bound → List ℕ → List ℕ → Bool
is_before bound x string = is_before_by bound (length x) (string_cmp string x) (lcp_len string x)

-- The string is before, and its longest common prefix with the searched one has length k.
pub record IsBefore (bound : Bound) (string x : List ℕ) (k : ℕ) : Type 0 where
  pub before : is_before bound x string ≡ true
  pub same : lcp_len string x ≡ k

-- The string is not before, and compares like this.
abbrev pub Compares : Bound → List ℕ → List ℕ → Ordering → Type 0
Compares bound string x order = (is_before bound x string ≡ false) × (string_cmp string x ≡ order)

-- The comparison of a string with the searched one is correct.
abbrev pub IsEntryProbe : Bound → List ℕ → List ℕ → EntryProbe → Type 0
IsEntryProbe bound string x entry_probe.Same = Compares bound string x Equal
IsEntryProbe bound string x entry_probe.After = Compares bound string x Greater
IsEntryProbe bound string x (entry_probe.Before k) = IsBefore bound string x k

-- The result of the binary search over the blocks is correct. The arguments are the strings, the block size, the number
-- of blocks, the front-coded bytes, the searched string, and the result.
abbrev pub IsBlockProbe : Bound → List (List ℕ) → ℕ → ℕ → List ℕ → List ℕ → BlockProbe → Type 0
IsBlockProbe bound strings b blocks bytes x block_probe.Before = Compares bound (get_or strings 0 []) x Greater
IsBlockProbe bound strings b blocks bytes x (block_probe.Head q) = (q < blocks)
    × Compares bound (get_or strings (q * b) []) x Equal
IsBlockProbe bound strings b blocks bytes x (block_probe.Inside q same rest) = (q < blocks)
    × IsBefore bound (get_or strings (q * b) []) x same × (rest.now ≡ bytes_from_entry b (q * b + 1) bytes)
    × (q + 1 < blocks → Compares bound (get_or strings ((q + 1) * b) []) x Greater)

-- The first n strings are before.
pub record IsBoundary (bound : Bound) (x : List ℕ) (strings : List (List ℕ)) (n : ℕ) : Type 0 where
  pub within : n ≤ length strings
  pub last : 0 < n → is_before bound x (get_or strings (n - 1) []) ≡ true
  pub next : n < length strings → is_before bound x (get_or strings n []) ≡ false

-- The result of a search: the index of the searched string; or that it is absent, and how many strings are before.
abbrev pub IsPosition : Bound → List (List ℕ) → List ℕ → Result ℕ ℕ → Type 0
IsPosition bound strings x (Ok n) = (n < length strings) × Compares bound (get_or strings n []) x Equal
IsPosition bound strings x (Err n) = IsBoundary bound x strings n
    × (n < length strings → string_cmp (get_or strings n []) x ≡ Greater)
