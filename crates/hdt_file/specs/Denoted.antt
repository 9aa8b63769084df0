-- The graph that a file denotes: triples of strings.
use Rattle.std.specs.Prelude.{ℕ, List, [], map}
use Rattle.std.specs.Option.{unwrap_or}
use Rattle.hdt_dict.specs.Ids.{string_at_id}
use Rattle.hdt_wire.specs.declared.Role.{Role}
use Rattle.hdt_wire.specs.declared.Role.TheVariants.{Subject, Predicate, Object}
use Rattle.hdt_triples.specs.TripleSequences.{Triple}
use Rattle.hdt_file.specs.File.{GraphParts}
use Rattle.hdt_dict.specs.Dictionary.{role_strings}

-- the strings of subject, predicate and object
abbrev pub StringTriple : Type 0
StringTriple = List ℕ × List ℕ × List ℕ

-- the string with ID n, from 1, of a role; the empty string if there is no such ID, which no triple of a valid file has
abbrev pub string_of : GraphParts → Role → ℕ → List ℕ
string_of g role n = unwrap_or (string_at_id (role_strings g.dictionary role) n) []

-- the triple with each ID replaced by its string
abbrev pub denoted_triple : GraphParts → Triple → StringTriple
denoted_triple g t = (string_of g Subject t.0, string_of g Predicate t.1, string_of g Object t.2)

-- the triples of strings that a graph denotes, in order
abbrev pub denoted : GraphParts → List Triple → List StringTriple
denoted g ts = map (denoted_triple g) ts
