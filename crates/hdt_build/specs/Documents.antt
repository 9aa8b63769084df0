-- Adding the triples of documents to those of a graph, with a prefix before the labels of their blank nodes.
use Rattle.std.specs.Prelude.{◌≡◌, ◌||◌, ◌++◌, ℕ, Bool, true, false, List, map, Option}
use Rattle.std.specs.List.{flat_map, list_any}
use Rattle.hdt_terms.specs.declared.triple.Term.{Term}
use Rattle.hdt_terms.specs.declared.triple.Term.TheVariants.{Blank}
use Rattle.hdt_terms.specs.declared.triple.Triple.{Triple}
use Rattle.hdt_terms.specs.Documents.{IsDocumentInput}
use Rattle.hdt_terms.specs.Lines.{Document}
use Rattle.hdt_file.specs.Denoted.{StringTriple}
use Rattle.hdt_file.specs.File.{GraphParts}
use Rattle.hdt_build.specs.Built.{BuiltGraph}
use Rattle.hdt_build.specs.Reading.{most, term_strings}

-- the term, with the prefix before its label if it is a blank node
abbrev pub prefixed_term : List ℕ → Term → Term
prefixed_term prefix (Blank label) = Blank (prefix ++ label)
prefixed_term prefix term = term

-- the triple, with the prefix before the labels of its blank nodes; a predicate is none
abbrev pub prefixed_triple : List ℕ → Triple → Triple
prefixed_triple prefix t = record t { s = prefixed_term prefix t.s; o = prefixed_term prefix t.o }

abbrev pub is_blank_node : Term → Bool
is_blank_node (Blank label) = true
is_blank_node term = false

-- whether one of the triples has a blank node
abbrev pub triples_have_blank_nodes : List Triple → Bool
triples_have_blank_nodes triples = list_any (λ (t : Triple). is_blank_node t.s || is_blank_node t.o) triples

-- the triples as dictionary strings, with the prefix before the labels of their blank nodes
abbrev pub prefixed_strings : List ℕ → List Triple → List StringTriple
prefixed_strings prefix triples = map (λ (t : Triple). term_strings (prefixed_triple prefix t)) triples

-- The input is a document. Its triples, with the prefix before the labels of their blank nodes, were added in input
-- order, with duplicates; has_blank_nodes says whether it has blank nodes.
pub record AddsDocument (prefix : List ℕ) (input : Option (List ℕ)) (before after : List StringTriple)
    (has_blank_nodes : Bool) : Type 0 where
  pub triples : List Triple
  pub document : IsDocumentInput most input triples
  pub strings : after ≡ before ++ prefixed_strings prefix triples
  pub blank : has_blank_nodes ≡ triples_have_blank_nodes triples

-- the input is a document; has_blank_nodes says whether it has blank nodes
pub record IsDocumentWith (input : Option (List ℕ)) (has_blank_nodes : Bool) : Type 0 where
  pub triples : List Triple
  pub document : IsDocumentInput most input triples
  pub blank : has_blank_nodes ≡ triples_have_blank_nodes triples

-- ---- files of documents

-- a document, a prefix for its labels, and the graph of the file that was built from the document without the prefix
pub record BuiltDocument : Type 0 where
  pub prefix : List ℕ
  pub bytes : List ℕ
  pub triples : List Triple
  pub document : Document bytes triples
  pub file : BuiltGraph
  pub strings : file.triples ≡ map term_strings triples

-- the graphs of the files, with the prefixes
abbrev pub prefixed_graphs : List BuiltDocument → List (List ℕ × GraphParts)
prefixed_graphs ds = map (λ d. (d.prefix, d.file.graph)) ds

-- the triples of all documents, one document after another, with the prefix of each before its labels
abbrev pub prefixed_documents : List BuiltDocument → List StringTriple
prefixed_documents ds = flat_map (λ d. prefixed_strings d.prefix d.triples) ds
