-- The string of an ID, and the string triple of three IDs.
use Rattle.std.proofs.Common.{◌≡◌, ◌∙◌, ℕ, zero, suc, ◌-◌, ◌≤◌, List, [], length, get_or, ap, sym, subst, arith}
use Rattle.std.specs.List.{Contains}
use Rattle.std.proofs.lemmas.List.Elements.{Contains-get_or}
use Rattle.std.proofs.lemmas.Option.{unwrap_or-slice_get}
use Rattle.hdt_wire.specs.declared.Role.{Role}
use Rattle.hdt_wire.specs.declared.Role.TheVariants.{Subject, Predicate, Object}
use Rattle.hdt_dict.specs.Dictionary.{SectionLists, role_strings}
use Rattle.hdt_triples.specs.Order.{IsInRange}
use Rattle.hdt_triples.specs.TripleSequences.{Triple}
use Rattle.hdt_triples.specs.Uses.{role_component}
use Rattle.hdt_file.specs.Denoted.{StringTriple, denoted_triple}
use Rattle.hdt_file.specs.File.{role_counts}
use Rattle.hdt_build.specs.Layouts.{graph_parts_of}
use Rattle.hdt_build.specs.Inside.Rewriting.{string_of_id}

-- the strings of the IDs of a triple in the sections
abbrev pub string_triple : SectionLists → Triple → StringTriple
string_triple d t = denoted_triple (graph_parts_of [] d []) t

pub same_strings : (a b c d e f : List ℕ) → a ≡ b → c ≡ d → e ≡ f → let l : StringTriple = (a, c, e) in
    let r : StringTriple = (b, d, f) in l ≡ r
same_strings a b c d e f p q r = cc

pub term_is : (xs : List (List ℕ)) (n : ℕ) → 1 ≤ n → string_of_id xs n ≡ get_or xs (n - 1) []
term_is xs zero from = absurd (omega (arith, from))
term_is xs (suc i) from =
    let at : i ≡ suc i - 1 = omega arith in
    unwrap_or-slice_get xs i [] ∙ ap (λ (k : ℕ). get_or xs k []) at

pub term_in : (xs : List (List ℕ)) (n : ℕ) → 1 ≤ n → n ≤ length xs → Contains xs (string_of_id xs n)
term_in xs n from to = subst (Contains xs) (sym (term_is xs n from))
    (Contains-get_or xs (n - 1) [] (omega (arith, from, to)))

-- in each role, the ID of a triple in range is that of a string
pub in_role : (d : SectionLists) (role : Role) (t : Triple) → IsInRange (role_counts d) t → (1 ≤ role_component role t)
    × (role_component role t ≤ length (role_strings d role))
in_role d Subject t range = range.0
in_role d Predicate t range = range.1
in_role d Object t range = range.2
