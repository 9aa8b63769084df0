-- Iterating over the strings of a section.
use Rattle.std.specs.Prelude.{◌≡◌, true, ℕ, zero, suc, ◌+◌, List, [], ◌∷◌, map, nat_eq, Option, Some, None}
use Rattle.std.specs.declared.cmp.Ordering.{Ordering}
use Rattle.std.specs.declared.cmp.Ordering.TheVariants.{Greater}
use Rattle.std.specs.List.{common_prefix_len}
use Rattle.hdt_front.specs.Order.{string_cmp}
use Rattle.hdt_front.specs.Decoding.{is_block_start, decoded_string, after_entry}
use Rattle.hdt_front.specs.StringChecks.{BlockLayout, rest_offset, precedes}

-- A string, and the byte offset of its entry in the input.
pub record LocatedString : Type 0 where
  pub string : List ℕ
  pub place : ℕ

-- The strings without their offsets.
abbrev pub strings : List LocatedString → List (List ℕ)
strings items = map (λ (p : LocatedString). p.string) items

-- The next n strings. The first has index i and follows the string `before`.
unfoldable pub located_from : BlockLayout → ℕ → ℕ → List ℕ → List ℕ → List LocatedString
located_from p zero i before rest = []
located_from p (suc n) i before rest =
    record { string = decoded_string (is_block_start p.block_size i) before rest; place = rest_offset p rest }
    ∷ located_from p n (i + 1) (decoded_string (is_block_start p.block_size i) before rest)
    (after_entry (is_block_start p.block_size i) rest)

-- The strings ascend from x on.
abbrev pub After : List ℕ → List LocatedString → Type 0
After x [] = Unit {0}
After x (p ∷ ps) = (precedes x p.string ≡ true) × After p.string ps

-- The strings ascend.
abbrev pub LocatedAscend : List LocatedString → Type 0
LocatedAscend [] = Unit {0}
LocatedAscend (p ∷ ps) = After p.string ps

-- The state of an iterator: the last string, and the remaining ones.
pub record IterState : Type 0 where
  pub last : List ℕ
  pub ahead : List LocatedString

-- The state after one step; unchanged at the end.
abbrev pub step_iter_by : IterState → List LocatedString → IterState
step_iter_by w [] = w
step_iter_by w (p ∷ ps) = record { last = p.string; ahead = ps }

abbrev pub step_iter : IterState → IterState
step_iter w = step_iter_by w w.ahead

-- The offset of the next string.
abbrev pub next_offset : List LocatedString → Option ℕ
next_offset [] = None
next_offset (p ∷ ps) = Some p.place

-- ---- a cursor, whose state is the list of the strings from the current one on

-- The state of a cursor whose iterator has just returned this offset: the strings from the last one on, or none.
abbrev pub cursor_strings : Option ℕ → IterState → List LocatedString
cursor_strings None w = []
cursor_strings (Some place) w = record { string = w.last; place = place } ∷ w.ahead

-- The current string.
abbrev pub first_string : List LocatedString → Option (List ℕ)
first_string [] = None
first_string (p ∷ ps) = Some p.string

-- The order of the current string and x; the end is greater than all strings.
abbrev pub first_order : List LocatedString → List ℕ → Ordering
first_order [] x = Greater
first_order (p ∷ ps) x = string_cmp p.string x

-- The common-prefix length of the current string and x; 0 at the end.
abbrev pub first_lcp : List LocatedString → List ℕ → ℕ
first_lcp [] x = 0
first_lcp (p ∷ ps) x = common_prefix_len nat_eq p.string x

-- The common-prefix length of the current string and the next one; 0 at the end.
abbrev pub next_lcp : List LocatedString → ℕ
next_lcp [] = 0
next_lcp (p ∷ ps) = first_lcp ps p.string
