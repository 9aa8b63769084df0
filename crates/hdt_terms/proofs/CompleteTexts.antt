-- Parsing a complete text: its term or its error.
use Rattle.std.proofs.Common.{◌≡◌, ℕ, ◌<◌, eqb, List, [], length, Result, Ok, Err, refl, sym, ap, subst, ◌∙◌, inl, inr}
use Rattle.std.proofs.Common.{◌⊎◌, arith, ne_eqb}
use Rattle.std.specs.Prelude.{IsUtf8, IfOk, IfErr, OnOk}
use Rattle.std.proofs.lemmas.Str.{utf8_valid_len-IsUtf8}
use Rattle.std.proofs.lemmas.List.{append-nil, nil_from_length}
use Rattle.std.proofs.lemmas.Bool.{eq-eqb, eqb-true}
use Rattle.hdt_terms.specs.declared.fault.LineReason.TheVariants.{Syntax}
use Rattle.hdt_terms.specs.declared.fault.FailedCheck.{FailedCheck}
use Rattle.hdt_terms.specs.declared.fault.TermFault.{TermFault}
use Rattle.hdt_terms.specs.declared.fault.ParseError.{ParseError}
use Rattle.hdt_terms.specs.declared.fault.ParseError.TheVariants as errors
use Rattle.hdt_terms.specs.declared.triple.Term.{Term}
use Rattle.hdt_terms.specs.Faults.{fault_at, out_of_memory, LocatesError, whole, unless_not_utf8, EqualsUnlessOom}
use Rattle.hdt_terms.specs.Faults.{AppendsParsedTerm, term_in}
use Rattle.hdt_terms.specs.Appending.{AppendsStringOfText}
use Rattle.hdt_terms.specs.TermParsing.{Fails, term_at}
use Rattle.hdt_terms.specs.Grammar.{EncodesTermForm, Encodes}
use Rattle.hdt_terms.specs.Terms.{IsGrammarTerm, dictionary_string}
use Rattle.hdt_terms.proofs.Cases.{chosen}
use Rattle.hdt_terms.proofs.TermSoundness.{term_found}
use Rattle.hdt_terms.proofs.TermCompleteness.{whole_again}
use Rattle.hdt_terms.proofs.GrammarTerms.{Encodes-IsGrammarTerm}

pub checked_ok : {A : Type 0} (text : List ℕ) (read : Result A TermFault) → IsUtf8 text
    → unless_not_utf8 text read ≡ read
unfolding unless_not_utf8
checked_ok text read utf8 = rw (eq-eqb _ _ (utf8_valid_len-IsUtf8 text utf8)) refl

whole_ok : {A : Type 0} (text : List ℕ) (read : Result (A × List ℕ) FailedCheck) (x : A) (rest : List ℕ)
    → read ≡ Ok (x, rest) → length rest ≡ 0 → whole text read ≡ Ok x
unfolding whole
whole_ok text read x rest e none = rw (e, none) refl

whole_more : {A : Type 0} (text : List ℕ) (read : Result (A × List ℕ) FailedCheck) (x : A) (rest : List ℕ)
    → read ≡ Ok (x, rest) → 0 < length rest → whole text read ≡ Err (fault_at (length text) (length rest) Syntax)
unfolding whole
whole_more text read x rest e some = rw (e, ne_eqb (length rest) 0 (omega arith)) refl

whole_fails : {A : Type 0} (text : List ℕ) (read : Result (A × List ℕ) FailedCheck) (error : ParseError)
    (fault : TermFault) → Fails error read → LocatesError (length text) error fault
    → (fault ≡ out_of_memory) ⊎ (whole text read ≡ Err fault)
unfolding whole
whole_fails text read errors.OutOfMemory fault h f = inl f
whole_fails text read (errors.Check stop) fault h f = inr (rw (h, f) refl)

-- if a text was parsed in full, nothing was left
whole_is : {A : Type 0} (text : List ℕ) (read : Result (A × List ℕ) FailedCheck) (x : A) → whole text read ≡ Ok x
    → read ≡ Ok (x, [])
unfolding whole
whole_is text (Ok y) x e =
    elim (chosen (eqb (length y.1) 0) (Ok y.0) (Err (fault_at (length text) (length y.1) Syntax)) (Ok x) e) [
      | inl p ↦
          let value : y.0 ≡ x = cc in
          let none : y.1 ≡ [] = nil_from_length y.1 (eqb-true _ _ p.0) in
          ap (λ v. Ok (v, y.1)) value ∙ ap (λ r. Ok (x, r)) none
      | inr p ↦ absurd cc
    ]
whole_is text (Err stop) x e = absurd cc

-- ---- the exits of code that parses a complete text

pub term_in-ok : (text rest : List ℕ) (term : Term) → IsUtf8 text → term_at text ≡ Ok (term, rest) → length rest ≡ 0
    → term_in text ≡ Ok term
unfolding term_in
term_in-ok text rest term utf8 e none = checked_ok text (whole text (term_at text)) utf8
    ∙ whole_ok text (term_at text) term rest e none

pub term_in-more : (text rest : List ℕ) (term : Term) → IsUtf8 text → term_at text ≡ Ok (term, rest) → 0 < length rest
    → term_in text ≡ Err (fault_at (length text) (length rest) Syntax)
unfolding term_in
term_in-more text rest term utf8 e some = checked_ok text (whole text (term_at text)) utf8
    ∙ whole_more text (term_at text) term rest e some

pub term_in-fails : (text : List ℕ) (error : ParseError) (fault : TermFault) → IsUtf8 text → Fails error (term_at text)
    → LocatesError (length text) error fault → (fault ≡ out_of_memory) ⊎ (term_in text ≡ Err fault)
unfolding term_in
term_in-fails text error fault utf8 h f =
    elim (whole_fails text (term_at text) error fault h f)
    [ inl m ↦ inl m | inr e ↦ inr (checked_ok text (whole text (term_at text)) utf8 ∙ e) ]

-- ---- the laws

-- soundness
pub term_in-Encodes : (text : List ℕ) (term : Term) → IsUtf8 text → term_in text ≡ Ok term → Encodes text term
unfolding term_in
term_in-Encodes text term utf8 e =
    let f = term_found text [] term utf8
    (whole_is text (term_at text) term (sym (checked_ok text (whole text (term_at text)) utf8) ∙ e)) in
    record {
      utf8 = utf8;
      form =
          subst (λ (bs : List ℕ). EncodesTermForm bs term) (sym (f.whole ∙ append-nil f.text)) f.spelled.form;
    }

-- completeness
pub Encodes-term_in : (text : List ℕ) (term : Term) → Encodes text term → term_in text ≡ Ok term
Encodes-term_in text term s = term_in-ok text [] term s.utf8 (whole_again text term s.utf8 s.form) refl

pub found : (text : List ℕ) (r : Result Term TermFault) → EqualsUnlessOom r (term_in text) → OnOk r (IsUtf8 text)
    → IfOk r (λ term. Encodes text term × IsGrammarTerm term)
found text (Ok term) e utf8 = let s = term_in-Encodes text term utf8 e in (s, Encodes-IsGrammarTerm text term s)
found text (Err fault) e utf8 = tt

pub only : (text : List ℕ) (r : Result Term TermFault) (term : Term) → EqualsUnlessOom r (term_in text)
    → Encodes text term → EqualsUnlessOom r (Ok term)
only text r term reads s =
    subst (λ (read : Result Term TermFault). EqualsUnlessOom r read) (Encodes-term_in text term s) reads

-- the term of the string that was appended
pub made : (text string : List ℕ) (r : Result Term TermFault) → AppendsParsedTerm text [] string → IsUtf8 text
    → ((term : Term) → IsGrammarTerm term → string ≡ dictionary_string term → IfOk r (λ t. t ≡ term))
    → IfErr r (λ fault. fault ≡ out_of_memory) → EqualsUnlessOom r (term_in text)
made text string (Ok term) p utf8 ok err =
    p.reads ∙ ap Ok (sym (ok p.term (Encodes-IsGrammarTerm text p.term (term_in-Encodes text p.term utf8 p.reads))
    p.whole))
made text string (Err fault) p utf8 ok err = inl err

pub puts_found : (text old new : List ℕ) → AppendsParsedTerm text old new → IsUtf8 text
    → AppendsStringOfText text old new
puts_found text old new p utf8 =
    let f = found text (Ok p.term) p.reads utf8 in
    record { term = p.term; spelled = f.0; grammar = f.1; whole = p.whole }
