-- Triples of strings: which of them match given strings, and that none occurs twice.
use Rattle.std.specs.Prelude.{◌≢◌, ℕ, ◌<◌, ◌&&◌, Bool, true, List, length, Option, Some, None, slice_index_or}
use Rattle.std.specs.Str.{bytes_eq}
use Rattle.hdt_dict.specs.Strings.{BorrowedString}
use Rattle.hdt_file.specs.Denoted.{StringTriple}
use Rattle.hdt_file.specs.Search.{string_given}

-- any string if none is given, otherwise only the given one
abbrev pub admits_string : Option BorrowedString → List ℕ → Bool
admits_string None x = true
admits_string (Some y) x = bytes_eq y.now x

-- the triple has each given string in its role
abbrev pub has_given_strings : List (Option BorrowedString) → StringTriple → Bool
has_given_strings given t =
    admits_string (string_given given 0) t.0 && admits_string (string_given given 1) t.1 && admits_string
    (string_given given 2) t.2

-- no triple occurs at two indexes
abbrev pub AreDistinctTriples : List StringTriple → Type 0
AreDistinctTriples ts = (i j : ℕ) (x : StringTriple) → i < j → j < length ts
    → slice_index_or ts i x ≢ slice_index_or ts j x
