-- Strings as lists of bytes, and lists of them.
use Rattle.std.specs.Prelude.{◌≡◌, ℕ, ◌<◌, Bool, List, [], slice_index_or, ◌↔◌}
use Rattle.std.specs.declared.cmp.Ordering.TheVariants.{Less}
use Rattle.std.specs.List.{Contains, list_any}
use Rattle.hdt_wire.specs.Control.{HasNoZero}
use Rattle.hdt_front.specs.Order.{string_cmp}
use Rattle.std.specs.Str.{bytes_eq, IsUtf8}
use Rattle.std.specs.Borrow.{Bor}

-- a borrowed string, a `&[u8]`
abbrev pub BorrowedString : Type 0
BorrowedString = Bor (List ℕ)

-- the default for an index past the end of a list of borrowed strings
abbrev pub empty_string : BorrowedString
empty_string = record { ref_ptr = (0, 0); now = [] }

-- the lists have the same members, in any order and any number of times
abbrev pub SameMembers : {X : Type 0} → List X → List X → Type 0
SameMembers {X} xs ys = (x : X) → Contains xs x ↔ Contains ys x

-- the string is in the list
abbrev pub has : List (List ℕ) → List ℕ → Bool
has ys x = list_any (λ y. bytes_eq y x) ys

-- the first n strings are less than x
abbrev pub FirstBelow : List (List ℕ) → ℕ → List ℕ → Type 0
FirstBelow ys n x = (k : ℕ) → k < n → string_cmp (slice_index_or ys k x) x ≡ Less

-- The string is one that a dictionary can have: UTF-8 without zero bytes.
pub record IsDictionaryString (string : List ℕ) : Type 0 where
  pub utf8 : IsUtf8 string
  pub no_zero : HasNoZero string
