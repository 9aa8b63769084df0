-- The error of a text is the one of the table.
use Rattle.std.proofs.Common.{◌≡◌, ◌≢◌, ◌≤◌, ◌+◌, ℕ, Bool, true, false, cond, eqb, List, [], ◌∷◌, ◌++◌, length, take}
use Rattle.std.proofs.Common.{drop, Some, Result, Ok, Err, refl, sym, ap, subst, ◌∙◌, append_assoc, length-append, inl}
use Rattle.std.proofs.Common.{inr, ◌⊎◌, arith, ne_eqb}
use Rattle.std.specs.Prelude.{IfErr, IsUtf8, encode_utf8_all, option_map}
use Rattle.std.specs.Str.{chars, is_utf8}
use Rattle.std.specs.Str.Lossy.{utf8_valid_len}
use Rattle.std.proofs.lemmas.List.{length-drop}
use Rattle.std.proofs.lemmas.Str.{chars-append, encodes-append, encodes-chars, is_utf8-from_IsUtf8, IsUtf8-from_is_utf8}
use Rattle.hdt_terms.specs.declared.fault.LineReason.TheVariants.{Syntax}
use Rattle.hdt_terms.specs.declared.fault.FailedCheck.{FailedCheck}
use Rattle.hdt_terms.specs.declared.fault.TermFault.{TermFault}
use Rattle.hdt_terms.specs.declared.escaped_tokens.Token.TheVariants.{Quoted}
use Rattle.hdt_terms.specs.declared.triple.Suffix.{Suffix}
use Rattle.hdt_terms.specs.declared.triple.Suffix.TheVariants.{Plain, Tag, Datatype}
use Rattle.hdt_terms.specs.declared.triple.Term.{Term}
use Rattle.hdt_terms.specs.declared.triple.Term.TheVariants as terms
use Rattle.hdt_terms.specs.Faults.{fault_at, out_of_memory, whole, unless_not_utf8, term_in, TermParseFails}
use Rattle.hdt_terms.specs.Faults.{EqualsUnlessOom, not_utf8_at}
use Rattle.hdt_terms.specs.Labels.{label_bytes}
use Rattle.hdt_terms.specs.TermParsing.{◌>>=◌, token_content, tag_at, suffix_at, blank_at, with_suffix, literal_at}
use Rattle.hdt_terms.specs.TermParsing.{term_at}
use Rattle.hdt_terms.specs.Grammar.{EncodesBlankNode, EncodesDatatype, EncodesSuffix, EncodesLiteral, EncodesTermForm}
use Rattle.hdt_terms.specs.Grammar.{Encodes}
use Rattle.hdt_terms.specs.TermErrors.{IsLongest, IsTermError, not_utf8, stopped, left_over, TermCheckFails}
use Rattle.hdt_terms.specs.Terms.{IsTag, xsd_string}
use Rattle.hdt_terms.proofs.ContentCompleteness.{pieces_again}
use Rattle.hdt_terms.proofs.Cases.{chosen, bind_ok, refused, ok_is, err_is, ok_or_err}
use Rattle.hdt_terms.proofs.LawsLemmas.{all_valid}
use Rattle.hdt_terms.proofs.TermCompleteness.{datatype_again, tag_behind, term_again}
use Rattle.hdt_terms.proofs.TermSoundness.{term_stops, term_found, suffix_found}
use Rattle.hdt_terms.proofs.Longest.{takes_label}
use Rattle.hdt_terms.proofs.TagSoundness.{behind_parts, tag_len-more}
use Rattle.hdt_terms.proofs.TermErrorCompleteness.{table_again}
use Rattle.hdt_terms.proofs.CompleteTexts.{checked_ok}
use Rattle.hdt_terms.proofs.AsciiBorders.{behind_ascii}

-- ---- parsing reads at least a prefix that encodes a term

abbrev Read : Type 0
Read = Result (Term × List ℕ) FailedCheck

rest_is : (t u : Term) (r q : List ℕ) (read : Read) → read ≡ Ok (t, r) → read ≡ Ok (u, q) → q ≡ r
rest_is t u r q read e f = let both : (t, r) ≡ (u, q) = ok_is _ _ (sym e ∙ f) in
    sym (ap (λ (x : Term × List ℕ). x.1) both)

suffix_rest : (s t : Suffix) (r q : List ℕ) (read : Result (Suffix × List ℕ) FailedCheck) → read ≡ Ok (s, r)
    → read ≡ Ok (t, q) → q ≡ r
suffix_rest s t r q read e f = let both : (s, r) ≡ (t, q) = ok_is _ _ (sym e ∙ f) in
    sym (ap (λ (x : Suffix × List ℕ). x.1) both)

tag_least : (tag rest r : List ℕ) (s : Suffix) → IsTag tag → tag_at (64 ∷ (tag ++ rest)) ≡ Ok (s, r)
    → length r ≤ length rest
unfolding tag_at
tag_least tag rest r s h e =
    let n = length (tag ++ behind_parts h.parts rest) in
    let read : tag_at (64 ∷ (tag ++ rest)) ≡ Ok (Tag (take n (tag ++ rest)), drop n (tag ++ rest)) =
    rw (tag_len-more tag rest h) refl in
    let is = suffix_rest (Tag (take n (tag ++ rest))) s (drop n (tag ++ rest)) r (tag_at (64 ∷ (tag ++ rest))) read e in
    omega (
      arith,
      ap length is,
      length-drop n (tag ++ rest),
      length-append tag rest,
      length-append tag (behind_parts h.parts rest),
    )

datatype_least : (text iri rest r : List ℕ) (s : Suffix) → EncodesDatatype text iri
    → suffix_at (text ++ rest) ≡ Ok (s, r) → length r ≤ length rest
datatype_least text iri rest r s h e =
    omega (arith, ap length (suffix_rest _ s rest r (suffix_at (text ++ rest)) (datatype_again text iri rest h) e))

plain_least : (text rest r : List ℕ) (s : Suffix) → EncodesSuffix text Plain → suffix_at (text ++ rest) ≡ Ok (s, r)
    → length r ≤ length rest
plain_least text rest r s (inl none) e =
    let f = suffix_found rest r s (ap (λ (bs : List ℕ). suffix_at (bs ++ rest)) (sym none) ∙ e) in
    omega (arith, ap length f.whole, length-append f.text r)
plain_least text rest r s (inr h) e = datatype_least text xsd_string rest r s h e

suffix_least : (text rest r : List ℕ) (suffix s : Suffix) → EncodesSuffix text suffix
    → suffix_at (text ++ rest) ≡ Ok (s, r) → length r ≤ length rest
suffix_least text rest r Plain s h e = plain_least text rest r s h e
suffix_least text rest r (Tag tag) s h e =
    tag_least tag rest r s h.form
    (sym (ap suffix_at (ap (λ (bs : List ℕ). bs ++ rest) h.whole ∙ append_assoc h.before (64 ∷ tag) rest)
    ∙ tag_behind h.before tag rest h.whitespace) ∙ e)
suffix_least text rest r (Datatype iri) s h e = datatype_least text iri rest r s h.0 e

literal_least : (text value rest r : List ℕ) (suffix : Suffix) (term : Term) → EncodesLiteral text value suffix
    → term_at (text ++ rest) ≡ Ok (term, r) → length r ≤ length rest
unfolding term_at literal_at
literal_least text value rest r suffix term h e =
    let i = h.content in
    let cut : text ++ rest ≡ 34 ∷ (h.inner ++ 34 ∷ (h.tail ++ rest)) = ap (λ (bs : List ℕ). bs ++ rest) h.whole
    ∙ ap (λ (bs : List ℕ). 34 ∷ bs) (append_assoc h.inner (34 ∷ h.tail) rest) in
    let body : token_content Quoted 0 (h.inner ++ 34 ∷ (h.tail ++ rest)) ≡ Ok (value, h.tail ++ rest) =
    rw (i.whole, i.means) (pieces_again Quoted i.pieces (h.tail ++ rest) i.each) in
    let read : with_suffix (value, h.tail ++ rest) ≡ Ok (term, r) =
    ap (λ (x : Result (List ℕ × List ℕ) FailedCheck). x >>= with_suffix) (sym body) ∙ ap term_at (sym cut) ∙ e in
    let b = bind_ok (suffix_at (h.tail ++ rest)) (λ s. Ok (terms.Literal value s.0, s.1)) (term, r) read in
    let is : b.0.1 ≡ r = let both : (terms.Literal value b.0.0, b.0.1) ≡ (term, r) = ok_is _ _ b.2 in
    ap (λ (x : Term × List ℕ). x.1) both in
    subst (λ (bs : List ℕ). length bs ≤ length rest) is (suffix_least h.tail rest b.0.1 suffix b.0.0 h.behind b.1)

blank_least : (text label rest r : List ℕ) (term : Term) → IsUtf8 text → EncodesBlankNode text label
    → term_at (text ++ rest) ≡ Ok (term, r) → length r ≤ length rest
unfolding term_at blank_at
blank_least text label rest r term utf8 h e =
    let inside_utf8 = behind_ascii 58 label (omega arith)
    (behind_ascii 95 (58 ∷ label) (omega arith) (subst IsUtf8 h.whole utf8)) in
    let t = takes_label (chars label) (chars rest) h.form in
    let n = length (encode_utf8_all t.taken) in
    let len : label_bytes (chars (label ++ rest)) ≡ Some n =
    ap label_bytes (chars-append label rest inside_utf8)
    ∙ ap (option_map (λ (xs : List ℕ). length (encode_utf8_all xs))) t.is in
    let least : n ≡ length label + length (encode_utf8_all t.front.more) =
    ap (λ (xs : List ℕ). length (encode_utf8_all xs)) t.front.whole
    ∙ ap length (encodes-append (chars label) t.front.more)
    ∙ length-append (encode_utf8_all (chars label)) (encode_utf8_all t.front.more)
    ∙ ap (λ (xs : List ℕ). length xs + length (encode_utf8_all t.front.more)) (encodes-chars label inside_utf8) in
    let read : term_at (text ++ rest) ≡ Ok (terms.Blank (take n (label ++ rest)), drop n (label ++ rest)) =
    rw (h.whole, len) refl in
    omega (
      arith,
      ap length (rest_is _ term (drop n (label ++ rest)) r (term_at (text ++ rest)) read e),
      length-drop n (label ++ rest),
      length-append label rest,
      least,
    )

term_least : (text rest r : List ℕ) (other term : Term) → IsUtf8 text → EncodesTermForm text other
    → term_at (text ++ rest) ≡ Ok (term, r) → length r ≤ length rest
term_least text rest r (terms.Iri iri) term utf8 h e =
    omega (
      arith,
      ap length (rest_is (terms.Iri iri) term rest r (term_at (text ++ rest))
          (term_again text rest (terms.Iri iri) utf8 h tt) e),
    )
term_least text rest r (terms.Blank label) term utf8 h e = blank_least text label rest r term utf8 h e
term_least text rest r (terms.Literal value suffix) term utf8 h e = literal_least text value rest r suffix term h e

-- a prefix that encodes a term is no longer than what was parsed
pub least : (text front rest r : List ℕ) (other term : Term) → Encodes front other → text ≡ front ++ rest
    → term_at text ≡ Ok (term, r) → length r ≤ length rest
least text front rest r other term s whole e =
    term_least front rest r other term s.utf8 s.form (ap term_at (sym whole) ∙ e)

-- ---- the table

not_empty : (xs : List ℕ) → eqb (length xs) 0 ≡ false → xs ≢ []
not_empty xs h e = let both : true ≡ false = ap (λ (ys : List ℕ). eqb (length ys) 0) (sym e) ∙ h in cc

some_len : (xs : List ℕ) → xs ≢ [] → eqb (length xs) 0 ≡ false
some_len [] h = absurd (h refl)
some_len (x ∷ xs) h = ne_eqb (length (x ∷ xs)) 0 (λ e. omega arith)

read_table : (read : Read) (text : List ℕ) (fault : TermFault) → IsUtf8 text → term_at text ≡ read
    → whole text read ≡ Err fault → IsTermError text fault
unfolding whole
read_table (Ok x) text fault utf8 e h =
    elim (chosen (eqb (length x.1) 0) (Ok x.0) (refused (fault_at (length text) (length x.1) Syntax))
    (refused fault) h) [
      | inl p ↦ absurd cc
      | inr p ↦
          let f = term_found text x.1 x.0 utf8 e in
          left_over utf8 (λ stop stops. ok_or_err x stop (sym e ∙ table_again text stop utf8 stops)) x.0 f.text x.1
          f.spelled
          (λ other longer rest s w. omega (
            arith,
            least text longer rest x.1 other x.0 s w e,
            ap length f.whole,
            ap length w,
            length-append f.text x.1,
            length-append longer rest,
          ))
          f.whole (not_empty x.1 p.0) (err_is _ fault p.1)
    ]
read_table (Err s) text fault utf8 e h =
    stopped utf8 s (term_stops text s utf8 e) (err_is (fault_at (length text) s.left s.reason) fault h)

pub not_valid : (text : List ℕ) → ¬ (IsUtf8 text) → eqb (utf8_valid_len text) (length text) ≡ false
not_valid text h = ne_eqb _ _ (λ e. h (all_valid text e))

in_table : (b : Bool) (text : List ℕ) (fault : TermFault) → is_utf8 text ≡ b → TermParseFails text fault
    → IsTermError text fault
unfolding term_in unless_not_utf8
in_table true text fault is h =
    let utf8 = IsUtf8-from_is_utf8 text is in
    read_table (term_at text) text fault utf8 refl (sym (checked_ok text (whole text (term_at text)) utf8) ∙ h)
in_table false text fault is h =
    let none : ¬ (IsUtf8 text) = λ utf8. (let both : true ≡ false = sym (is_utf8-from_IsUtf8 text utf8) ∙ is in cc) in
    let read : refused (not_utf8_at (utf8_valid_len text)) ≡ refused fault =
    sym (ap (λ (b : Bool). cond b (whole text (term_at text)) (refused (not_utf8_at (utf8_valid_len text))))
    (not_valid text none)) ∙ h in
    not_utf8 none (err_is _ fault read)

pub fault_in : (text : List ℕ) (fault : TermFault) → TermParseFails text fault → IsTermError text fault
fault_in text fault h = in_table (is_utf8 text) text fault refl h

left_again : (read : Read) (text front more : List ℕ) (term : Term) → IsUtf8 text
    → ((stop : FailedCheck) → ¬ (TermCheckFails text stop)) → Encodes front term → IsLongest text front
    → text ≡ front ++ more → more ≢ []
    → term_at text ≡ read → whole text read ≡ Err (fault_at (length text) (length more) Syntax)
unfolding whole
left_again (Err s) text front more term utf8 stops s' longest w some e = absurd (stops s (term_stops text s utf8 e))
left_again (Ok x) text front more term utf8 stops s longest w some e =
    let f = term_found text x.1 x.0 utf8 e in
    let len : length x.1 ≡ length more =
    omega (
      arith,
      longest x.0 f.text x.1 f.spelled f.whole,
      least text front more x.1 term x.0 s w e,
      ap length f.whole,
      ap length w,
      length-append f.text x.1,
      length-append front more,
    ) in
    rw (len, some_len more some) refl

pub fault_again : (text : List ℕ) (fault : TermFault) → IsTermError text fault → TermParseFails text fault
unfolding term_in unless_not_utf8 whole
fault_again text fault (not_utf8 none is) = rw (not_valid text none) (ap refused (sym is))
fault_again text fault (stopped utf8 stop h is) =
    checked_ok text (whole text (term_at text)) utf8 ∙ ap (whole text) (table_again text stop utf8 h)
    ∙ ap refused (sym is)
fault_again text fault (left_over utf8 stops term front more s longest w some is) =
    checked_ok text (whole text (term_at text)) utf8
    ∙ left_again (term_at text) text front more term utf8 stops s longest w some refl ∙ ap refused (sym is)

-- the returned error is in the table
pub answered : (text : List ℕ) (r : Result Term TermFault) → EqualsUnlessOom r (term_in text)
    → IfErr r (λ fault. (fault ≡ out_of_memory) ⊎ IsTermError text fault)
answered text (Ok term) h = tt
answered text (Err fault) h = elim h [ inl memory ↦ inl memory | inr stands ↦ inr (fault_in text fault stands) ]
