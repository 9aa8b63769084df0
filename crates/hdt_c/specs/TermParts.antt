-- Terms as the parts of their dictionary strings.
use Rattle.std.specs.Prelude.{◌≡◌, ◌⊎◌, ℕ, zero, suc, ◌+◌, List, [], length, Option, Some, None}
use Rattle.hdt_terms.specs.declared.triple.Term.{Term}
use Rattle.hdt_terms.specs.declared.triple.Term.TheVariants.{Iri, Blank, Literal}
use Rattle.hdt_terms.specs.declared.triple.Suffix.TheVariants.{Plain, Tag, Datatype}
use Rattle.hdt_terms.specs.Terms.{IsDictionaryTerm, dictionary_string}
use Rattle.hdt_c.specs.LookUps.{absent, no_memory}
use Rattle.hdt_c.specs.Names.{PutsText}
use Rattle.hdt_c.specs.declared.terms.HdtTermParts.{HdtTermParts}
use Rattle.hdt_c.specs.ReasonNumbers.{not_a_term_reason, out_of_memory_reason}

-- no parts
abbrev pub no_parts : HdtTermParts
no_parts = record { kind = 0; at = 0; len = 0; suffix_at = 0; suffix_len = 0 }

-- the kind of a term, and where in its dictionary string its text and its language tag or datatype are
abbrev pub parts_of_term : Term → HdtTermParts
parts_of_term (Iri iri) = record { kind = 1; at = 0; len = length iri; suffix_at = 0; suffix_len = 0 }
parts_of_term (Blank label) = record { kind = 2; at = 2; len = length label; suffix_at = 0; suffix_len = 0 }
parts_of_term (Literal text Plain) = record { kind = 3; at = 1; len = length text; suffix_at = 0; suffix_len = 0 }
parts_of_term (Literal text (Tag tag)) =
    record { kind = 4; at = 1; len = length text; suffix_at = length text + 3; suffix_len = length tag }
parts_of_term (Literal text (Datatype iri)) =
    record { kind = 5; at = 1; len = length text; suffix_at = length text + 5; suffix_len = length iri }

-- the parts are those of the term with this string
pub record ArePartsOf (bytes : List ℕ) (parts : HdtTermParts) : Type 0 where
  pub term : Term
  pub is : IsDictionaryTerm term
  pub string : dictionary_string term ≡ bytes
  pub parts_are : parts ≡ parts_of_term term

-- no term has this string
abbrev pub HasNoParts : List ℕ → Type 0
HasNoParts bytes = (term : Term) → IsDictionaryTerm term → dictionary_string term ≡ bytes → ⊥

-- the result of `hdt_term`: done, no term, or out of memory
abbrev pub ReturnsParts : List ℕ → ℕ → HdtTermParts → Type 0
ReturnsParts bytes reason parts = ((reason ≡ 0) × ArePartsOf bytes parts)
    ⊎ ((parts ≡ no_parts) × (((reason ≡ not_a_term_reason) × HasNoParts bytes) ⊎ (reason ≡ out_of_memory_reason)))

-- the term of a kind with these texts
abbrev pub term_of_kind : ℕ → List ℕ → List ℕ → Option Term
term_of_kind zero text suffix = None
term_of_kind (suc zero) text suffix = Some (Iri text)
term_of_kind (suc (suc zero)) text suffix = Some (Blank text)
term_of_kind (suc (suc (suc zero))) text suffix = Some (Literal text Plain)
term_of_kind (suc (suc (suc (suc zero)))) text suffix = Some (Literal text (Tag suffix))
term_of_kind (suc (suc (suc (suc (suc zero))))) text suffix = Some (Literal text (Datatype suffix))
term_of_kind (suc (suc (suc (suc (suc (suc n)))))) text suffix = None

-- there is a term, and a dictionary may have it
abbrev pub IsTermOfKind : Option Term → Type 0
IsTermOfKind None = ⊥
IsTermOfKind (Some term) = IsDictionaryTerm term

-- its dictionary string
abbrev pub string_of_term : Option Term → List ℕ
string_of_term None = []
string_of_term (Some term) = dictionary_string term

-- the string is that of the term, or there is no string and no such term
abbrev pub IsStringOfKind : Option Term → Option (List ℕ) → Type 0
IsStringOfKind term None = IsTermOfKind term → ⊥
IsStringOfKind term (Some string) = IsTermOfKind term × (string ≡ string_of_term term)

-- the result of `hdt_term_string`: the string was written, or there is no such term, or memory ran out
abbrev pub ReturnsTermString : Option Term → ℕ → List ℕ → List ℕ → Type 0
ReturnsTermString term answer old new = (IsTermOfKind term × PutsText (string_of_term term) answer old new)
    ⊎ ((new ≡ old) × (((answer ≡ absent) × (IsTermOfKind term → ⊥)) ⊎ (answer ≡ no_memory)))
