-- Triple patterns and their matches.
use Rattle.std.specs.Prelude.{ℕ, ◌==◌, ◌&&◌, Bool, true, List, filter, Option, Some, None}
use Rattle.hdt_triples.specs.TripleSequences.{Triple}
use Rattle.hdt_triples.specs.declared.pattern.Pattern.{Pattern}

-- Nothing is given, or this ID.
abbrev pub admits : Option ℕ → ℕ → Bool
admits None n = true
admits (Some m) n = m == n

-- The triple has each given ID.
abbrev pub agrees : Pattern → Triple → Bool
agrees p t = admits p.s t.0 && admits p.p t.1 && admits p.o t.2

-- The triples that match, in order.
unfoldable pub matches : Pattern → List Triple → List Triple
matches p ts = filter (agrees p) ts
