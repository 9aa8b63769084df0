-- The triples of terms that an N-Triples document has.
use Rattle.hdt_terms.specs.declared.triple.Triple.{Triple}
use Rattle.hdt_terms.specs.Terms.{IsGrammarTerm}
use Rattle.hdt_file.specs.Text.{TermTriple}

-- the same triple as the type of hdt_terms
abbrev pub triple_of : TermTriple → Triple
triple_of t = record { s = t.0; p = t.1; o = t.2 }

-- each of the three is a term of the N-Triples grammar
abbrev pub AreGrammarTerms : TermTriple → Type 0
AreGrammarTerms t = IsGrammarTerm t.0 × IsGrammarTerm t.1 × IsGrammarTerm t.2
