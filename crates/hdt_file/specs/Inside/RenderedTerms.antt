-- The terms of each role as they are written in a line, each with what follows it; lines are put together from them.
use Rattle.std.specs.Prelude.{◌≡◌, ℕ, ◌<◌, ◌+◌, ◌⊎◌, ⊤, Bool, true, List, [], ◌∷◌, ◌++◌, length, slice_index_or}
use Rattle.std.specs.Option.{unwrap_or}
use Rattle.hdt_dict.specs.Ids.{string_at_id}
use Rattle.hdt_wire.specs.declared.Role.{Role}
use Rattle.hdt_wire.specs.declared.Role.TheVariants.{Subject, Predicate, Object}
use Rattle.hdt_terms.specs.declared.triple.Term.{Term}
use Rattle.hdt_triples.specs.TripleSequences.{Triple}
use Rattle.hdt_triples.specs.Uses.{role_component}
use Rattle.hdt_file.specs.Denoted.{string_of}
use Rattle.hdt_file.specs.File.{GraphParts}
use Rattle.hdt_file.specs.Text.{IsTermOf, HasNoTerm}
use Rattle.hdt_file.specs.TextWriting.{render}
use Rattle.hdt_file.specs.declared.term_tables.TermTables.{TermTables}

-- the bytes are the term of the string with what follows it in a line, or empty if the string is not a term of the role
abbrev pub IsRendered : Role → List ℕ → List ℕ → Type 0
IsRendered role string rendered = ((term : Term) × IsTermOf role string term × (rendered ≡ render role term))
    ⊎ ((rendered ≡ []) × HasNoTerm role string)

-- whether an ID is marked; an ID out of range counts as marked
abbrev pub is_marked : List Bool → ℕ → Bool
is_marked marks n = slice_index_or marks n true

-- one entry for each string, whose IDs go on from n; the entry of a marked ID is its term as written in a line
abbrev pub AreRendered : Role → List Bool → ℕ → List (List ℕ) → List (List ℕ) → Type 0
AreRendered role marks n [] [] = ⊤
AreRendered role marks n [] (y ∷ ys) = ⊥
AreRendered role marks n (x ∷ xs) [] = ⊥
AreRendered role marks n (x ∷ xs) (y ∷ ys) = (is_marked marks n ≡ true → IsRendered role x y)
    × AreRendered role marks (n + 1) xs ys

-- the entry of string n, from 1; empty if there is none
abbrev pub rendered_string : List (List ℕ) → ℕ → List ℕ
rendered_string rendered_list n = unwrap_or (string_at_id rendered_list n) []

-- each string that the triples have in the role has its entry
abbrev pub RendersRole : GraphParts → Role → List Triple → List (List ℕ) → Type 0
RendersRole g role ts rendered_list = (i : ℕ) → i < length ts
    → IsRendered role (string_of g role (role_component role (slice_index_or ts i (0, 0, 0))))
    (rendered_string rendered_list (role_component role (slice_index_or ts i (0, 0, 0))))

-- the tables have each string of the triples
pub record AreTables (g : GraphParts) (ts : List Triple) (tables : TermTables) : Type 0 where
  pub subjects : RendersRole g Subject ts tables.subjects
  pub predicates : RendersRole g Predicate ts tables.predicates
  pub objects : RendersRole g Object ts tables.objects

-- the tables have each string of one triple
pub record RendersTriple (g : GraphParts) (tables : TermTables) (t : Triple) : Type 0 where
  pub subject : IsRendered Subject (string_of g Subject t.0) (rendered_string tables.subjects t.0)
  pub predicate : IsRendered Predicate (string_of g Predicate t.1) (rendered_string tables.predicates t.1)
  pub object : IsRendered Object (string_of g Object t.2) (rendered_string tables.objects t.2)

-- `new` is `old` with the entry of the string appended; if the string is not marked, anything may be appended
pub record AppendsRenderedIfMarked (marked : Bool) (role : Role) (string old new : List ℕ) : Type 0 where
  pub rendered : List ℕ
  pub is : marked ≡ true → IsRendered role string rendered
  pub grown : new ≡ old ++ rendered
