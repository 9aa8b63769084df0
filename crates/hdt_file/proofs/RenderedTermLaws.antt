-- The terms of each role as they are written in a line, and the lines put together from them.
use Rattle.std.proofs.Common.{◌≡◌, ℕ, zero, suc, ◌+◌, ◌<◌, Bool, true, false, List, [], ◌∷◌, ◌++◌, length, map, get_or}
use Rattle.std.proofs.Common.{take, drop, Option, Some, refl, sym, ap, ◌∙◌, append_assoc, append-nil, subst, inl, inr}
use Rattle.std.proofs.Common.{arith}
use Rattle.std.specs.Option.{unwrap_or}
use Rattle.std.proofs.lemmas.Bool.{cases_lt}
use Rattle.std.proofs.lemmas.List.{get_or-drop, get_or-map, get_or-take, get_or_default, get_or_past, length-append}
use Rattle.std.proofs.lemmas.List.{length-drop, length-map, length-take}
use Rattle.std.proofs.lemmas.List.Elements.{Contains-get_or}
use Rattle.hdt_dict.specs.Laws.Members.{Contains-map}
use Rattle.hdt_dict.specs.Arena.{AreStringStarts, arena_strings}
use Rattle.hdt_dict.specs.Laws.Arena.{none, none_starts, starts_push, texts_push}
use Rattle.hdt_dict.specs.Ids.{string_at_id}
use Rattle.hdt_dict.specs.Iteration.{RoleIterState, step_role_iter_by, next_id}
use Rattle.hdt_wire.specs.declared.Role.{Role}
use Rattle.hdt_wire.specs.declared.Role.TheVariants.{Subject, Predicate, Object}
use Rattle.hdt_terms.specs.Chars.{is_absolute}
use Rattle.hdt_terms.specs.declared.triple.Term.TheVariants.{Iri, Blank, Literal}
use Rattle.hdt_terms.specs.Terms.{dictionary_string}
use Rattle.hdt_terms.specs.Writing.{written}
use Rattle.hdt_triples.specs.TripleSequences.{Triple}
use Rattle.hdt_file.specs.File.{GraphParts}
use Rattle.hdt_triples.specs.Uses.{AreUseFlags, Uses, role_component}
use Rattle.hdt_file.specs.Denoted.{string_of, denoted_triple}
use Rattle.hdt_file.specs.Inside.RenderedTerms.{is_marked, IsRendered, AreRendered, RendersRole, AreTables}
use Rattle.hdt_file.specs.Inside.RenderedTerms.{AppendsRenderedIfMarked, RendersTriple, rendered_string}
use Rattle.hdt_file.specs.Text.{HasTerm, HasNoTerm, IsEarlierRole, IsFirstNonTermOfTriple}
use Rattle.hdt_file.specs.TextWriting.{AppendsTerm, AppendsLine, ReportsNonTerm, ReportsNonTermOfTriple, separator}
use Rattle.hdt_file.specs.declared.fault.DumpFault.{DumpFault}
use Rattle.hdt_file.specs.declared.fault.DumpFault.TheVariants.{NotATerm, Write, OutOfMemory}
use Rattle.hdt_file.specs.declared.term_tables.TermTables.{TermTables}
use Rattle.hdt_file.proofs.TextByLine.{are_terms}

-- ---- one entry

-- no term has the empty string, and no entry of a term is empty
pub empty_none : (role : Role) → HasNoTerm role []
unfolding dictionary_string
empty_none role (Iri iri) h = let e : is_absolute [] ≡ true =
    subst (λ (x : List ℕ). is_absolute x ≡ true) h.is h.dictionary.1 in absurd cc
empty_none role (Blank label) h = let e = h.is in absurd cc
empty_none role (Literal text suffix) h = let e = h.is in absurd cc

separator_is_not_empty : (role : Role) → length (separator role) ≡ 0 → ⊥
separator_is_not_empty Subject e = absurd (omega (arith, e))
separator_is_not_empty Predicate e = absurd (omega (arith, e))
separator_is_not_empty Object e = absurd (omega (arith, e))

-- an empty entry is that of a string that is not a term
pub no_term : (role : Role) (string rendered : List ℕ) → length rendered ≡ 0 → IsRendered role string rendered
    → HasNoTerm role string
no_term role string rendered e (inl h) =
    absurd (separator_is_not_empty role (omega (arith, e, ap length h.2, length-append (written h.0) (separator role))))
no_term role string rendered e (inr h) = h.1

-- the rendered of string n, where its number is marked; the numbers of the strings go on from m
at_from : (role : Role) (marks : List Bool) (m : ℕ) (strings rendered_list : List (List ℕ)) (i : ℕ)
    → AreRendered role marks m strings rendered_list → is_marked marks (m + i) ≡ true
    → IsRendered role (unwrap_or (string_at_id strings (suc i)) []) (rendered_string rendered_list (suc i))
at_from role marks m [] [] i h marked = inr (refl, empty_none role)
at_from role marks m [] (y ∷ ys) i h marked = absurd h
at_from role marks m (x ∷ xs) [] i h marked = absurd h
at_from role marks m (x ∷ xs) (y ∷ ys) zero h marked = let here : m + 0 ≡ m = omega arith in
    h.0 (subst (λ k. is_marked marks k ≡ true) here marked)
at_from role marks m (x ∷ xs) (y ∷ ys) (suc i) h marked = let next : m + suc i ≡ m + 1 + i = omega arith in
    at_from role marks (m + 1) xs ys i h.1 (subst (λ k. is_marked marks k ≡ true) next marked)

pub at : (role : Role) (marks : List Bool) (strings rendered_list : List (List ℕ)) (n : ℕ)
    → AreRendered role marks 1 strings rendered_list → is_marked marks n ≡ true
    → IsRendered role (unwrap_or (string_at_id strings n) []) (rendered_string rendered_list n)
at role marks strings rendered_list zero h marked = inr (refl, empty_none role)
at role marks strings rendered_list (suc i) h marked = let next : suc i ≡ 1 + i = omega arith in
    at_from role marks 1 strings rendered_list i h (subst (λ k. is_marked marks k ≡ true) next marked)

-- each ID that the triples have in the role is marked, by the flags of the IDs in use
pub used_is_marked : (ts : List Triple) (role : Role) (marks : List Bool) → AreUseFlags ts role marks → (i : ℕ)
    → i < length ts → is_marked marks (role_component role (get_or ts i (0, 0, 0))) ≡ true
used_is_marked ts role marks u i below =
    let n = role_component role (get_or ts i (0, 0, 0)) in
    let used : Uses ts role n =
    Contains-map (role_component role) ts (get_or ts i (0, 0, 0)) (Contains-get_or ts i (0, 0, 0) below) in
    elim (cases_lt n (length marks)) [
      | inl lt ↦ get_or_default marks n true false lt ∙ (u n lt).1 used
      | inr le ↦ get_or_past marks n true le
    ]

-- the tables of some triples are tables of each triple, of the first n and of the rest
pub tables_of_triple : (g : GraphParts) (ts : List Triple) (tables : TermTables) (i : ℕ) → AreTables g ts tables
    → i < length ts → RendersTriple g tables (get_or ts i (0, 0, 0))
tables_of_triple g ts tables i h below =
    record { subject = h.subjects i below; predicate = h.predicates i below; object = h.objects i below }

rendered_of_first : (g : GraphParts) (role : Role) (ts : List Triple) (rendered_list : List (List ℕ)) (n : ℕ)
    → RendersRole g role ts rendered_list → RendersRole g role (take n ts) rendered_list
rendered_of_first g role ts rendered_list n h i below =
    let inside : i < length ts = omega (arith, below, length-take n ts) in
    let first : i < n = omega (arith, below, length-take n ts) in
    subst (λ (t : Triple). IsRendered role (string_of g role (role_component role t))
    (rendered_string rendered_list (role_component role t))) (sym (get_or-take n ts i (0, 0, 0) first)) (h i inside)

rendered_of_rest : (g : GraphParts) (role : Role) (ts : List Triple) (rendered_list : List (List ℕ)) (n : ℕ)
    → RendersRole g role ts rendered_list → RendersRole g role (drop n ts) rendered_list
rendered_of_rest g role ts rendered_list n h i below =
    let inside : n + i < length ts = omega (arith, below, length-drop n ts) in
    subst (λ (t : Triple). IsRendered role (string_of g role (role_component role t))
    (rendered_string rendered_list (role_component role t))) (sym (get_or-drop n ts i (0, 0, 0))) (h (n + i) inside)

pub tables_of_first : (g : GraphParts) (ts : List Triple) (tables : TermTables) (n : ℕ) → AreTables g ts tables
    → AreTables g (take n ts) tables
tables_of_first g ts tables n h = record {
  subjects = rendered_of_first g Subject ts tables.subjects n h.subjects;
  predicates = rendered_of_first g Predicate ts tables.predicates n h.predicates;
  objects = rendered_of_first g Object ts tables.objects n h.objects;
}

pub tables_of_rest : (g : GraphParts) (ts : List Triple) (tables : TermTables) (n : ℕ) → AreTables g ts tables
    → AreTables g (drop n ts) tables
tables_of_rest g ts tables n h = record {
  subjects = rendered_of_rest g Subject ts tables.subjects n h.subjects;
  predicates = rendered_of_rest g Predicate ts tables.predicates n h.predicates;
  objects = rendered_of_rest g Object ts tables.objects n h.objects;
}

pub same_rendered : (role : Role) (string p q : List ℕ) → p ≡ q → IsRendered role string q → IsRendered role string p
same_rendered role string p q e h = subst (IsRendered role string) (sym e) h

-- the entry of the triple with index i, in a list with the entries of all triples
pub found_at : {B : Type 0} (now : B → List ℕ) (rendered : Triple
    → List ℕ) (rendered_list : List B) (ts : List Triple) (i : ℕ) (b : B) (t : Triple)
    → map now rendered_list ≡ map rendered ts → i < length ts
    → b ≡ get_or rendered_list i b → now b ≡ rendered (get_or ts i t)
found_at now rendered rendered_list ts i b t e below read =
    let long : length rendered_list ≡ length ts = sym (length-map rendered_list now) ∙ ap length e
    ∙ length-map ts rendered in
    ap now read ∙ sym (get_or-map now rendered_list i b (now b) (omega (arith, long, below)))
    ∙ ap (λ (l : List (List ℕ)). get_or l i (now b)) e ∙ get_or-map rendered ts i t (now b) below

-- ---- one line

joined : (old s p o : List ℕ) → ((old ++ (s ++ 32 ∷ [])) ++ (p ++ 32 ∷ [])) ++ (o ++ 32 ∷ 46 ∷ 10 ∷ [])
    ≡ old ++ (s ++ 32 ∷ (p ++ 32 ∷ (o ++ 32 ∷ 46 ∷ 10 ∷ [])))
joined old s p o = simp append_assoc

-- the entries of subject, predicate and object make up the line
pub line_made : (g : GraphParts) (t : Triple) (old a b new : List ℕ)
    → AppendsTerm Subject (string_of g Subject t.0) old a
    → AppendsTerm Predicate (string_of g Predicate t.1) a b → AppendsTerm Object (string_of g Object t.2) b new
    → AppendsLine g t old new
line_made g t old a b new one two three =
    let s = written one.term in
    let p = written two.term in
    let o = written three.term in
    record {
      terms = (one.term, two.term, three.term);
      are = are_terms g t (one.term, two.term, three.term) one.is two.is three.is;
      grown = three.grown
          ∙ ap (λ (x : List ℕ). x ++ (o ++ 32 ∷ 46 ∷ 10 ∷ [])) (two.grown
          ∙ ap (λ (x : List ℕ). x ++ (p ++ 32 ∷ [])) one.grown)
          ∙ joined old s p o;
    }

-- ---- the first string that is not a term

reported : (g : GraphParts) (t : Triple) (role : Role) (e : DumpFault)
    → ((other : Role) → IsEarlierRole other role → HasTerm other (role_component other (denoted_triple g t)))
    → ReportsNonTerm role (role_component role t) (role_component role (denoted_triple g t)) e
    → ReportsNonTermOfTriple g t e
reported g t role (NotATerm other n) earlier h =
    subst (λ (r : Role). IsFirstNonTermOfTriple (denoted_triple g t) r
    × (n ≡ role_component r t)) (sym h.0) (record { none = h.2; earlier = earlier }, h.1)
reported g t role (Write k) earlier h = h
reported g t role OutOfMemory earlier h = tt

pub subject_reported : (g : GraphParts) (t : Triple) (e : DumpFault)
    → ReportsNonTerm Subject t.0 (string_of g Subject t.0) e → ReportsNonTermOfTriple g t e
subject_reported g t e h = reported g t Subject e earlier h
  where
    earlier : (other : Role) → IsEarlierRole other Subject → HasTerm other (role_component other (denoted_triple g t))
    earlier Subject before = absurd before
    earlier Predicate before = absurd before
    earlier Object before = absurd before

pub predicate_reported : (g : GraphParts) (t : Triple) (old new : List ℕ) (e : DumpFault)
    → AppendsTerm Subject (string_of g Subject t.0) old new
    → ReportsNonTerm Predicate t.1 (string_of g Predicate t.1) e → ReportsNonTermOfTriple g t e
predicate_reported g t old new e s h = reported g t Predicate e earlier h
  where
    earlier : (other : Role) → IsEarlierRole other Predicate → HasTerm other (role_component other (denoted_triple g t))
    earlier Subject before = (s.term, s.is)
    earlier Predicate before = absurd before
    earlier Object before = absurd before

pub object_reported : (g : GraphParts) (t : Triple) (a b c d : List ℕ) (e : DumpFault)
    → AppendsTerm Subject (string_of g Subject t.0) a b → AppendsTerm Predicate (string_of g Predicate t.1) c d
    → ReportsNonTerm Object t.2 (string_of g Object t.2) e → ReportsNonTermOfTriple g t e
object_reported g t a b c d e s p h = reported g t Object e earlier h
  where
    earlier : (other : Role) → IsEarlierRole other Object → HasTerm other (role_component other (denoted_triple g t))
    earlier Subject before = (s.term, s.is)
    earlier Predicate before = (p.term, p.is)
    earlier Object before = absurd before

-- ---- building a table

-- entries for the strings ahead, whose IDs begin at n, complete the entries made so far to those of all strings
abbrev pub ExtendsToAll : Role → List Bool → List (List ℕ) → ℕ → List (List ℕ) → List (List ℕ) → Type 0
ExtendsToAll role marks all n ahead made = (more : List (List ℕ)) → AreRendered role marks n ahead more
    → AreRendered role marks 1 all (made ++ more)

-- the bytes of a table and the offset of each entry, up to the strings ahead
pub record RenderedUpTo (role : Role) (marks : List Bool) (all : List (List ℕ)) (n : ℕ) (ahead : List (List ℕ))
    (bytes starts : List ℕ) : Type 0 where
  pub are : AreStringStarts bytes starts
  pub go_on : ExtendsToAll role marks all n ahead (arena_strings bytes starts)

pub begins : (role : Role) (marks : List Bool) (all : List (List ℕ)) → RenderedUpTo role marks all 1 all [] (0 ∷ [])
begins role marks all = record {
  are = none_starts;
  go_on =
      λ more are. subst (λ (made : List (List ℕ)). AreRendered role marks 1 all (made ++ more)) (sym none) are;
}

pub one_more : (role : Role) (marks : List Bool) (all xs : List (List ℕ)) (n : ℕ) (x bytes starts new : List ℕ)
    (end : ℕ) → RenderedUpTo role marks all n (x ∷ xs) bytes starts
    → AppendsRenderedIfMarked (is_marked marks n) role x bytes new → end ≡ length new
    → RenderedUpTo role marks all (n + 1) xs new (starts ++ end ∷ [])
one_more role marks all xs n x bytes starts new end h grows long =
    let rendered = grows.rendered in
    let wide : end ≡ length bytes + length rendered = long ∙ ap length grows.grown ∙ length-append bytes rendered in
    let made : arena_strings new (starts ++ end ∷ []) ≡ arena_strings bytes starts ++ rendered ∷ [] =
    ap (λ (b : List ℕ). arena_strings b (starts ++ end ∷ [])) grows.grown
    ∙ texts_push bytes starts rendered end h.are wide in
    record {
      are = subst (λ (b : List ℕ). AreStringStarts b (starts ++ end ∷ [])) (sym grows.grown)
          (starts_push bytes starts rendered end h.are wide);
      go_on = λ more are. subst (λ (m : List (List ℕ)). AreRendered role marks 1 all (m ++ more)) (sym made)
          (subst (AreRendered role marks 1 all) (sym (append_assoc (arena_strings bytes starts) (rendered ∷ []) more))
          (h.go_on (rendered ∷ more) (grows.is, are)));
    }

pub all_made : (role : Role) (marks : List Bool) (all : List (List ℕ)) (n : ℕ) (made : List (List ℕ))
    → ExtendsToAll role marks all n [] made → AreRendered role marks 1 all made
all_made role marks all n made h = subst (AreRendered role marks 1 all) (append-nil made) (h [] tt)

-- the string that a cursor gives next is the first one ahead, with the next ID
pub given : (w new : RoleIterState) (k : ℕ) (xs : List (List ℕ)) → next_id w xs ≡ Some k → new ≡ step_role_iter_by w xs
    → xs ≡ new.last ∷ new.ahead
given w new k [] e step = absurd cc
given w new k (x ∷ xs) e step = ap (λ (p : RoleIterState). p.last ∷ p.ahead) (sym step)

pub numbered_next : (w new : RoleIterState) (k : ℕ) (xs : List (List ℕ)) → next_id w xs ≡ Some k
    → new ≡ step_role_iter_by w xs → (k ≡ w.given + 1) × (new.given ≡ w.given + 1)
numbered_next w new k [] e step = absurd cc
numbered_next w new k (x ∷ xs) e step = (cc, ap (λ (p : RoleIterState). p.given) step)

pub ended : (w : RoleIterState) (xs : List (List ℕ)) (r : Option ℕ) → r ≡ next_id w xs → ((k : ℕ) → r ≡ Some k → ⊥)
    → xs ≡ []
ended w [] r e nothing = refl
ended w (x ∷ xs) r e nothing = absurd (nothing (w.given + 1) e)
