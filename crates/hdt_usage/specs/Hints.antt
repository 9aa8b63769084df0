-- Hints for an input that is not what the command reads.
use Rattle.std.specs.Prelude.{ℕ, Bool, ◌&&◌, ◌||◌, ◌==◌, slice_index, List, [], ◌∷◌, codes, nat_le, nat_eq}
use Rattle.std.specs.Prelude.{if◌then◌else◌}
use Rattle.std.specs.List.{starts_with, list_any}
use Rattle.hdt_usage.specs.declared.hints.Hint.{Hint}

-- The first hint for bytes that begin as it says, or an empty text.
abbrev pub hint_in : List ℕ → List Hint → List ℕ
hint_in first [] = []
hint_in first (h ∷ hs) = if starts_with nat_eq first h.start.now then h.text.now else hint_in first hs

-- Whether a text begins as an IRI, a literal or a blank node does.
abbrev pub begins_as_term : List ℕ → Bool
begins_as_term text = (slice_index text 0 == 60) || (slice_index text 0 == 34) || (slice_index text 0 == 95)

-- Whether a text begins with a digit or a sign.
abbrev pub begins_as_number : List ℕ → Bool
begins_as_number text = (nat_le 48 (slice_index text 0) && nat_le (slice_index text 0) 57) || (slice_index text 0 == 43)
    || (slice_index text 0 == 45)

-- What to do about a prefix with which no string begins: a bracket is no part of an IRI, and a quotation mark is part
-- of a
-- literal. Nothing is known of one that may begin a blank node, a literal or an IRI.
abbrev pub prefix_hint : List ℕ → List ℕ
prefix_hint prefix = if slice_index prefix 0 == 60 then codes
    "an IRI has no < and > in a dictionary: --prefix http://example.org/"
    else if begins_as_term prefix || list_any (λ b. nat_eq b 58) prefix then []
    else codes "a literal begins with a double quote in a dictionary: --prefix '\"text'"

-- What to do about an argument that is not an N-Triples term: nothing is known of one that begins as a term does.
abbrev pub term_hint : List ℕ → List ℕ
term_hint term = if begins_as_term term then []
    else if slice_index term 0 == 63 then codes "any term is written ?, without a name: '?'"
    else if list_any (λ b. nat_eq b 58) term then codes
    "an IRI is written between < and >, in single quotes: '<http://example.org/a>'"
    else if begins_as_number term then codes
    "a number is a literal: '\"5\"^^<http://www.w3.org/2001/XMLSchema#integer>'"
    else codes "a literal is written in double quotes, within single ones: '\"text\"'"
