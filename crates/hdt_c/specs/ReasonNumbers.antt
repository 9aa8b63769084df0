-- The reasons of c/hdt.h that are no reasons of a file or a text.
use Rattle.std.specs.Prelude.{ℕ}

-- a string is not a term that its role allows
abbrev pub not_a_term_reason : ℕ
not_a_term_reason = 250

-- the document has no triples
abbrev pub no_triples_reason : ℕ
no_triples_reason = 251

-- the options are not valid
abbrev pub bad_options_reason : ℕ
bad_options_reason = 252

-- the graph is not open
abbrev pub closed_reason : ℕ
closed_reason = 253

-- the graph is open already
abbrev pub open_reason : ℕ
open_reason = 254

-- memory ran out
abbrev pub out_of_memory_reason : ℕ
out_of_memory_reason = 255
