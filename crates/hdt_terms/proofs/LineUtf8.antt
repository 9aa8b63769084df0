-- What follows a term in a UTF-8 text is UTF-8.
use Rattle.std.proofs.Common.{◌≡◌, ℕ, List, Result, Ok, Err, subst}
use Rattle.std.specs.Prelude.{IsUtf8, IfOk}
use Rattle.hdt_terms.specs.declared.fault.ParseError.{ParseError}
use Rattle.hdt_terms.specs.declared.triple.Term.{Term}
use Rattle.hdt_terms.specs.Appending.{AppendsParsed}
use Rattle.hdt_terms.specs.TermParsing.{term_at}
use Rattle.hdt_terms.specs.Terms.{dictionary_string}
use Rattle.hdt_terms.proofs.TermSoundness.{term_found}
use Rattle.hdt_terms.proofs.AsciiBorders.{behind_text}

pub rest_utf8 : (bytes rest : List ℕ) (term : Term) → IsUtf8 bytes → term_at bytes ≡ Ok (term, rest) → IsUtf8 rest
rest_utf8 bytes rest term utf8 e =
    let f = term_found bytes rest term utf8 e in
    behind_text f.text rest (subst IsUtf8 f.whole utf8) f.spelled.utf8

pub appended_utf8 : {X : Type 0} (left : X → List ℕ) (old new bytes : List ℕ) (r : Result X ParseError) → IsUtf8 bytes
    → AppendsParsed dictionary_string old new left r (term_at bytes) → IfOk r (λ x. IsUtf8 (left x))
appended_utf8 left old new bytes (Ok x) utf8 a = rest_utf8 bytes (left x) a.value utf8 a.reads
appended_utf8 left old new bytes (Err e) utf8 h = tt
