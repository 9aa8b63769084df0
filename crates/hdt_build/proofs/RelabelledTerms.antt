-- A prefix before the labels of the strings of a document: it goes into them as into the terms.
use Rattle.std.proofs.Common.{◌≡◌, ℕ, Bool, true, false, List, [], ◌∷◌, ◌++◌, map, Option, None, Some, refl, sym}
use Rattle.std.proofs.Common.{ap, ◌∙◌}
use Rattle.std.specs.Prelude.{if◌then◌else◌}
use Rattle.hdt_terms.specs.declared.triple.Term.{Term}
use Rattle.hdt_terms.specs.declared.triple.Term.TheVariants.{Iri, Blank, Literal}
use Rattle.hdt_terms.specs.declared.triple.Triple.{Triple}
use Rattle.hdt_terms.specs.Grammar.{Encodes}
use Rattle.hdt_terms.specs.Lines.{Document, EncodesTriple, IsPredicate, Line, TerminatedLines, triples_of_lines}
use Rattle.hdt_terms.specs.Split.{prefix_label}
use Rattle.hdt_terms.specs.Terms.{IsGrammarTerm, dictionary_string}
use Rattle.hdt_build.specs.Documents.{prefixed_strings, prefixed_term, prefixed_triple}
use Rattle.hdt_build.specs.Reading.{term_strings}
use Rattle.hdt_build.specs.Relabelling.{has_label, relabelled, relabelled_triple, relabelled_triples}
use Rattle.hdt_build.proofs.PrefixedLabels.{iri_kept, literal_kept}
use Rattle.hdt_build.proofs.StringsOfIds.{same_strings}

kept : (prefix x : List ℕ) → prefix_label prefix x ≡ x → relabelled prefix x ≡ x
kept prefix x same = case (has_label x)
  where
    case : (test : Bool) → (if test then prefix_label prefix x else x) ≡ x
    case true = same
    case false = refl

relabelled_term : (prefix : List ℕ) (t : Term) → IsGrammarTerm t
    → relabelled prefix (dictionary_string t) ≡ dictionary_string (prefixed_term prefix t)
unfolding dictionary_string
relabelled_term prefix (Iri iri) h = kept prefix iri (iri_kept prefix iri h.absolute)
relabelled_term prefix (Blank label) h = refl
relabelled_term prefix (Literal text suffix) h =
    kept prefix (dictionary_string (Literal text suffix)) (literal_kept prefix _)

relabelled_predicate : (prefix : List ℕ) (t : Term) → IsGrammarTerm t → IsPredicate t
    → relabelled prefix (dictionary_string t) ≡ dictionary_string t
relabelled_predicate prefix (Iri iri) h p = relabelled_term prefix (Iri iri) h
relabelled_predicate prefix (Blank label) h p = absurd p
relabelled_predicate prefix (Literal text suffix) h p = absurd p

module _ (grammar : (text : List ℕ) (term : Term) → Encodes text term → IsGrammarTerm term) (prefix : List ℕ) where
  one_triple : (text : List ℕ) (t : Triple) → EncodesTriple text t
      → relabelled_triple prefix (term_strings t) ≡ term_strings (prefixed_triple prefix t)
  one_triple text t h = same_strings _ _ _ _ _ _
      (relabelled_term prefix t.s (grammar h.s t.s h.subject.0))
      (relabelled_predicate prefix t.p (grammar h.p t.p h.predicate.0) h.predicate.1)
      (relabelled_term prefix t.o (grammar h.o t.o h.object))

  abbrev AreSame : List Triple → Type 0
  AreSame ts = relabelled_triples prefix (map term_strings ts) ≡ prefixed_strings prefix ts

  one_more : (text : List ℕ) (t : Triple) (ts : List Triple) → EncodesTriple text t → AreSame ts → AreSame (t ∷ ts)
  one_more text t ts h same = λ i. one_triple text t h i ∷ same i

  all_lines : (xs : List (Option Triple)) (bytes last : List ℕ) (x : Option Triple) → TerminatedLines xs bytes
      → Line last x → AreSame (triples_of_lines (xs ++ x ∷ []))
  all_lines [] bytes last None ended line = refl
  all_lines [] bytes last (Some t) ended line = one_more last t [] line.1 refl
  all_lines (None ∷ xs) bytes last x ended line = all_lines xs ended.2 last x ended.7 line
  all_lines (Some t ∷ xs) bytes last x ended line =
      one_more ended.0 t (triples_of_lines (xs ++ x ∷ [])) ended.6.1 (all_lines xs ended.2 last x ended.7 line)

  pub document_relabelled : (bytes : List ℕ) (ts : List Triple) → Document bytes ts
      → relabelled_triples prefix (map term_strings ts) ≡ prefixed_strings prefix ts
  document_relabelled bytes ts d =
      ap (λ (us : List Triple). relabelled_triples prefix (map term_strings us)) d.triples_are
      ∙ (all_lines d.lines d.front d.last d.last_line d.ended d.is_line
      ∙ ap (λ (us : List Triple). prefixed_strings prefix us) (sym d.triples_are))
