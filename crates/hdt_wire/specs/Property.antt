-- Properties (rdfhdt.org, "HDT binary format", Control Information): items separated by ';'. An item with '=' has the
-- key before its first '=' and the value after it. The last item with a key counts.
use Rattle.std.specs.Prelude.{ℕ, ◌==◌, ◌&&◌, ◌-◌, Bool, nat_lt, List, length, slice_get, Option, Some, None}
use Rattle.std.specs.Prelude.{if◌then◌else◌}
use Rattle.std.specs.Str.{bytes_eq}
use Rattle.std.specs.List.{position_or_len, before_first, after_first, slice_split, filter_map}

abbrev pub is_byte : ℕ → ℕ → Bool
is_byte byte b = b == byte

-- the value of an item, if it has the key; 61 is '='
abbrev pub item_value : List ℕ → List ℕ → Option (List ℕ)
item_value key piece =
    if nat_lt (position_or_len (is_byte 61) piece) (length piece) && bytes_eq
    (before_first (is_byte 61) piece) key then Some (after_first (is_byte 61) piece) else None

-- the values of the items that have the key, in order; 59 is ';'
abbrev pub item_values : List ℕ → List ℕ → List (List ℕ)
item_values text key = filter_map (item_value key) (slice_split (is_byte 59) text)

-- the last of them, which is the one that counts; none if there are none, as 0 - 1 is 0 here
unfoldable pub property_value : List ℕ → List ℕ → Option (List ℕ)
property_value text key = slice_get (item_values text key) (length (item_values text key) - 1)
