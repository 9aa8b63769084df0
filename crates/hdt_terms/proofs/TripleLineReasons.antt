-- The reason of an error in the text of a line is never a failed read or the limit.
use Rattle.std.proofs.Common.{◌≡◌, ℕ, List, Err, sym, ap, subst}
use Rattle.hdt_terms.specs.declared.fault.LineReason.{LineReason}
use Rattle.hdt_terms.specs.declared.fault.LineReason.TheVariants.{Syntax, NotUtf8, BadEscape, RelativeIri, IriCharacter}
use Rattle.hdt_terms.specs.declared.fault.LineReason.TheVariants.{ZeroCharacter, Read, OutOfMemory, TooLong}
use Rattle.hdt_terms.specs.declared.fault.FailedCheck.{FailedCheck}
use Rattle.hdt_terms.specs.declared.escaped_tokens.Token.{Token}
use Rattle.hdt_terms.specs.declared.escaped_tokens.Token.TheVariants.{Iri, Quoted}
use Rattle.hdt_terms.specs.LineParsing.{begins, line_triple}
use Rattle.hdt_terms.specs.ContentErrors.{CheckFails, ContentCheckFails}
use Rattle.hdt_terms.specs.TermErrors.{IriCheckFails, no_iri, in_iri, relative, SuffixCheckFails, no_tag, no_caret}
use Rattle.hdt_terms.specs.TermErrors.{no_datatype, TermCheckFails, no_term, iri, blank, string, suffix}
use Rattle.hdt_terms.specs.LinesReader.{IsTripleLineError}

abbrev pub OfText : LineReason → Type 0
OfText Read = ⊥
OfText OutOfMemory = ⊥
OfText TooLong = ⊥
OfText reason = Unit {0}

row_reason : (token : Token) (reason : LineReason) (rest : List ℕ) → CheckFails token reason rest → OfText reason
row_reason token Syntax rest h = tt
row_reason token NotUtf8 rest h = tt
row_reason token BadEscape rest h = tt
row_reason token RelativeIri rest h = tt
row_reason token IriCharacter rest h = tt
row_reason token ZeroCharacter rest h = tt
row_reason Iri Read rest h = h
row_reason Iri OutOfMemory rest h = h
row_reason Iri TooLong rest h = h
row_reason Quoted Read rest h = h
row_reason Quoted OutOfMemory rest h = h
row_reason Quoted TooLong rest h = h

of_text : (reason : LineReason) (s : FailedCheck) → OfText reason → s.reason ≡ reason → OfText s.reason
of_text reason s h e = subst OfText (sym e) h

stop_reason : (s t : FailedCheck) → s ≡ t → s.reason ≡ t.reason
stop_reason s t e = ap (λ (x : FailedCheck). x.reason) e

inside_reason : (token : Token) (bytes : List ℕ) (s : FailedCheck) → ContentCheckFails token bytes s → OfText s.reason
inside_reason token bytes s h = row_reason token s.reason h.rest h.row

iri_reason : (bytes : List ℕ) (s : FailedCheck) → IriCheckFails bytes s → OfText s.reason
iri_reason bytes s (no_iri begins is) = of_text Syntax s tt (stop_reason s _ is)
iri_reason bytes s (in_iri rest whole h) = inside_reason Iri rest s h
iri_reason bytes s (relative inner value more h whole not is) = of_text RelativeIri s tt (stop_reason s _ is)

suffix_reason : (bytes : List ℕ) (s : FailedCheck) → SuffixCheckFails bytes s → OfText s.reason
suffix_reason bytes s (no_tag before rest are whole begins is) = of_text Syntax s tt (stop_reason s _ is)
suffix_reason bytes s (no_caret before rest are whole begins is) = of_text Syntax s tt (stop_reason s _ is)
suffix_reason bytes s (no_datatype before behind rest are are' whole begins h) = iri_reason rest s h

pub table_reason : (bytes : List ℕ) (s : FailedCheck) → TermCheckFails bytes s → OfText s.reason
table_reason bytes s (no_term begins is) = of_text Syntax s tt (stop_reason s _ is)
table_reason bytes s (iri rest whole h) = iri_reason bytes s h
table_reason bytes s (blank rest whole none is) = of_text Syntax s tt (stop_reason s _ is)
table_reason bytes s (string rest whole h) = inside_reason Quoted rest s h
table_reason bytes s (suffix inner value behind i whole h) = suffix_reason behind s h

pub of_triple : (text : List ℕ) (column : ℕ) (reason : LineReason) → OfText reason
    → line_triple text ≡ Err (record { column = column; reason = reason }) → IsTripleLineError reason column text
of_triple text column Syntax h e = e
of_triple text column NotUtf8 h e = e
of_triple text column BadEscape h e = e
of_triple text column RelativeIri h e = e
of_triple text column IriCharacter h e = e
of_triple text column ZeroCharacter h e = e
of_triple text column Read h e = absurd h
of_triple text column OutOfMemory h e = absurd h
of_triple text column TooLong h e = absurd h
