-- The N-Triples text of triples of strings (W3C RDF 1.1 N-Triples, section 7), and the first string that is not a term
-- which its role allows.
use Rattle.std.specs.Prelude.{◌≡◌, ℕ, ◌⊎◌, ⊤, List, [], ◌∷◌, ◌++◌}
use Rattle.std.specs.List.{flat_map}
use Rattle.hdt_terms.specs.declared.triple.Term.{Term}
use Rattle.hdt_terms.specs.Lines.{IsSubject, IsPredicate}
use Rattle.hdt_terms.specs.Terms.{dictionary_string, IsDictionaryTerm}
use Rattle.hdt_terms.specs.Writing.{written}
use Rattle.hdt_wire.specs.declared.Role.{Role}
use Rattle.hdt_wire.specs.declared.Role.TheVariants.{Subject, Predicate, Object}
use Rattle.hdt_triples.specs.TripleSequences.{Triple}
use Rattle.hdt_file.specs.File.{GraphParts}
use Rattle.hdt_triples.specs.Uses.{role_component}
use Rattle.hdt_file.specs.Denoted.{StringTriple, denoted_triple}

-- the terms of subject, predicate and object
abbrev pub TermTriple : Type 0
TermTriple = Term × Term × Term

-- a subject is an IRI or a blank node, a predicate is an IRI, an object is any term
abbrev pub FitsRole : Role → Term → Type 0
FitsRole Subject term = IsSubject term
FitsRole Predicate term = IsPredicate term
FitsRole Object term = ⊤

-- the string is that of the term, which the role allows
pub record IsTermOf (role : Role) (string : List ℕ) (term : Term) : Type 0 where
  pub dictionary : IsDictionaryTerm term
  pub is : dictionary_string term ≡ string
  pub fits : FitsRole role term

-- each string is that of the term, which its role allows
abbrev pub AreTermsOf : StringTriple → TermTriple → Type 0
AreTermsOf strings terms = (role : Role) → IsTermOf role (role_component role strings) (role_component role terms)

-- the lists have the same length, and P holds at each index
abbrev pub Pairwise : {X Y : Type 0} → (X → Y → Type 0) → List X → List Y → Type 0
Pairwise P [] [] = ⊤
Pairwise P [] (y ∷ ys) = ⊥
Pairwise P (x ∷ xs) [] = ⊥
Pairwise P (x ∷ xs) (y ∷ ys) = P x y × Pairwise P xs ys

-- the line of a triple: subject, predicate and object, a space after each, a full stop and a line feed
abbrev pub line : TermTriple → List ℕ
line t = written t.0 ++ 32 ∷ (written t.1 ++ 32 ∷ (written t.2 ++ 32 ∷ 46 ∷ 10 ∷ []))

-- the text has one line for each triple, in order, and each string is a term that its role allows
pub record IsTextOf (triples : List StringTriple) (text : List ℕ) : Type 0 where
  pub terms : List TermTriple
  pub each : Pairwise AreTermsOf triples terms
  pub whole : text ≡ flat_map line terms

-- ---- strings that are not terms

-- the string is that of a term that the role allows
abbrev pub HasTerm : Role → List ℕ → Type 0
HasTerm role string = (term : Term) × IsTermOf role string term

-- the string is not that of a term that the role allows
abbrev pub HasNoTerm : Role → List ℕ → Type 0
HasNoTerm role string = (term : Term) → IsTermOf role string term → ⊥

-- the order of the roles: subject, predicate, object
abbrev pub IsEarlierRole : Role → Role → Type 0
IsEarlierRole Subject Subject = ⊥
IsEarlierRole Subject Predicate = ⊤
IsEarlierRole Subject Object = ⊤
IsEarlierRole Predicate Subject = ⊥
IsEarlierRole Predicate Predicate = ⊥
IsEarlierRole Predicate Object = ⊤
IsEarlierRole Object role = ⊥

-- the role of the first string of the triple that is not a term which its role allows
pub record IsFirstNonTermOfTriple (strings : StringTriple) (role : Role) : Type 0 where
  pub none : HasNoTerm role (role_component role strings)
  pub earlier : (other : Role) → IsEarlierRole other role → HasTerm other (role_component other strings)

-- the role and the ID of the first such string of the first such triple
abbrev pub IsFirstNonTerm : GraphParts → List Triple → Role → ℕ → Type 0
IsFirstNonTerm g [] role number = ⊥
IsFirstNonTerm g (t ∷ ts) role number =
    (IsFirstNonTermOfTriple (denoted_triple g t) role × (number ≡ role_component role t))
    ⊎ (((other : Role) → HasTerm other (role_component other (denoted_triple g t))) × IsFirstNonTerm g ts role number)
