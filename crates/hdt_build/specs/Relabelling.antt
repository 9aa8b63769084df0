-- Prefixes before the labels of blank nodes, in dictionary strings.
use Rattle.std.specs.Prelude.{ℕ, ◌==◌, ◌&&◌, ◌++◌, if◌then◌else◌, Bool, false, List, [], ◌∷◌, codes, map}
use Rattle.std.specs.Fmt.{decimal}
use Rattle.hdt_terms.specs.Split.{prefix_label}
use Rattle.hdt_file.specs.Denoted.{StringTriple}

-- the prefix for the document or graph with this number, from 0, of several whose nodes are kept apart
abbrev pub apart_prefix : ℕ → List ℕ
apart_prefix n = codes "f" ++ decimal n ++ codes "_"

-- Whether the string begins with U+005F and U+003A, as those of blank nodes do, and those of no other terms.
abbrev pub has_label : List ℕ → Bool
has_label [] = false
has_label (a ∷ []) = false
has_label (a ∷ b ∷ label) = a == 95 && b == 58

-- The string, with the prefix before its label if it has one. All other strings are unchanged, terms or not.
abbrev pub relabelled : List ℕ → List ℕ → List ℕ
relabelled prefix string = if has_label string then prefix_label prefix string else string

-- the triple, with the prefix before the labels of its strings, in each role
abbrev pub relabelled_triple : List ℕ → StringTriple → StringTriple
relabelled_triple prefix t = (relabelled prefix t.0, relabelled prefix t.1, relabelled prefix t.2)

abbrev pub relabelled_triples : List ℕ → List StringTriple → List StringTriple
relabelled_triples prefix ts = map (relabelled_triple prefix) ts
