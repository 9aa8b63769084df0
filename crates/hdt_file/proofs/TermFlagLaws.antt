-- Flags of strings: which of them are terms that their roles allow.
use Rattle.std.proofs.Common.{◌≡◌, ◌&&◌, ℕ, zero, suc, Bool, true, false, List, [], ◌∷◌, ◌++◌, subst, append-nil, inl}
use Rattle.std.proofs.Common.{inr, ◌∙◌, ◌-◌, ◌<◌, ap, arith, length, nat_lt, refl, replicate, sym, ◌≤◌, slice_index_or}
use Rattle.std.specs.Bool.{beq}
use Rattle.std.specs.List.{list_any}
use Rattle.std.specs.Option.{unwrap_or}
use Rattle.std.proofs.lemmas.Bool.{and_cases, and_parts, ltb-false, ltb-true}
use Rattle.hdt_dict.specs.Ids.{string_at_id}
use Rattle.hdt_dict.specs.Dictionary.{role_strings}
use Rattle.hdt_wire.specs.declared.Role.{Role}
use Rattle.hdt_wire.specs.declared.Role.TheVariants.{Subject, Predicate, Object}
use Rattle.hdt_triples.specs.TripleSequences.{Triple}
use Rattle.hdt_triples.specs.Uses.{role_component}
use Rattle.hdt_file.specs.Denoted.{denoted_triple, string_of}
use Rattle.hdt_file.specs.File.{GraphParts}
use Rattle.hdt_file.specs.Writable.{DecidesWritable, IsWritable}
use Rattle.hdt_file.specs.Text.{HasTerm, IsEarlierRole, IsFirstNonTermOfTriple, Pairwise}
use Rattle.hdt_file.specs.TextWriting.{AppendsTerm}
use Rattle.hdt_file.specs.TermFlags.{IsTermFlag, AreTermFlags, flag_list, term_flag, is_writable}
use Rattle.hdt_file.specs.declared.term_flags.TermFlags.{TermFlags}
use Rattle.hdt_file.proofs.RenderedTermLaws.{empty_none}

-- a string that was written as a term is one
pub rendered : (role : Role) (string old new : List ℕ) → AppendsTerm role string old new → IsTermFlag role string true
rendered role string old new h = (h.term, h.is)

-- ---- the flags of a role

-- flags for the remaining strings make flags for all of them
abbrev pub FlagsUpTo : Role → List (List ℕ) → List (List ℕ) → List Bool → Type 0
FlagsUpTo role all left flags = (more : List Bool) → Pairwise (IsTermFlag role) left more
    → Pairwise (IsTermFlag role) all (flags ++ more)

pub all_flags : (role : Role) (all left : List (List ℕ)) (flags : List Bool) → FlagsUpTo role all left flags → left ≡ []
    → Pairwise (IsTermFlag role) all flags
all_flags role all [] flags h none = subst (Pairwise (IsTermFlag role) all) (append-nil flags) (h [] tt)
all_flags role all (x ∷ left) flags h none = absurd cc

-- the flag of string n
flag_is : (role : Role) (strings : List (List ℕ)) (flags : List Bool) (n : ℕ) → Pairwise (IsTermFlag role) strings flags
    → IsTermFlag role (unwrap_or (string_at_id strings n) []) (term_flag flags n)
flag_is role strings flags zero h = empty_none role
flag_is role [] [] (suc i) h = empty_none role
flag_is role [] (b ∷ bs) (suc i) h = absurd h
flag_is role (x ∷ xs) [] (suc i) h = absurd h
flag_is role (x ∷ xs) (b ∷ bs) (suc zero) h = h.0
flag_is role (x ∷ xs) (b ∷ bs) (suc (suc i)) h = flag_is role xs bs (suc i) h.1

-- flags that are all true, by their number
pub all_true : (flags : List Bool) → list_any (λ b. beq b false) flags ≡ false
    → replicate (length flags) true ≡ flags
all_true [] h = refl
all_true (true ∷ flags) h = ap (λ (l : List Bool). true ∷ l) (all_true flags h)
all_true (false ∷ flags) h = absurd cc

flag_in : (n i : ℕ) → i < n → slice_index_or (replicate n true) i false ≡ true
flag_in zero i h = absurd (omega (arith, h))
flag_in (suc n) zero h = refl
flag_in (suc n) (suc i) h = flag_in n i (omega (arith, h))

flag_out : (n i : ℕ) → n ≤ i → slice_index_or (replicate n true) i false ≡ false
flag_out zero i h = refl
flag_out (suc n) zero h = absurd (omega (arith, h))
flag_out (suc n) (suc i) h = flag_out n i (omega (arith, h))

flag_by : (b : Bool) (n i : ℕ) → nat_lt i n ≡ b → b ≡ slice_index_or (replicate n true) i false
flag_by true n i e = sym (flag_in n i (ltb-true i n e))
flag_by false n i e = sym (flag_out n i (ltb-false i n e))

pub all_flag : (count n : ℕ) → 0 < n → nat_lt (n - 1) count ≡ term_flag (replicate count true) n
all_flag count zero h = absurd (omega (arith, h))
all_flag count (suc i) h =
    let same : suc i - 1 ≡ i = omega arith in
    ap (λ (k : ℕ). nat_lt k count) same ∙ flag_by (nat_lt i count) count i refl

-- ---- the flags of a triple

-- the flag of the string of a role
abbrev flag : TermFlags → Triple → Role → Bool
flag flags t Subject = term_flag (flag_list flags.subjects) t.0
flag flags t Predicate = term_flag (flag_list flags.predicates) t.1
flag flags t Object = term_flag (flag_list flags.objects) t.2

pub told : (g : GraphParts) (flags : TermFlags) (t : Triple) → AreTermFlags g flags → (role : Role) (b : Bool)
    → flag flags t role ≡ b → IsTermFlag role (role_component role (denoted_triple g t)) b
told g flags t h Subject b e =
    subst (IsTermFlag Subject (string_of g Subject t.0)) e
    (flag_is Subject (role_strings g.dictionary Subject) (flag_list flags.subjects) t.0 h.subjects)
told g flags t h Predicate b e =
    subst (IsTermFlag Predicate (string_of g Predicate t.1)) e
    (flag_is Predicate (role_strings g.dictionary Predicate) (flag_list flags.predicates) t.1 h.predicates)
told g flags t h Object b e =
    subst (IsTermFlag Object (string_of g Object t.2)) e
    (flag_is Object (role_strings g.dictionary Object) (flag_list flags.objects) t.2 h.objects)

each_flag : (flags : TermFlags) (t : Triple) → is_writable flags t ≡ true → (role : Role) → flag flags t role ≡ true
each_flag flags t e Subject =
    (and_parts (flag flags t Subject) (flag flags t Predicate)
    (and_parts (flag flags t Subject && flag flags t Predicate) (flag flags t Object) e).0).0
each_flag flags t e Predicate =
    (and_parts (flag flags t Subject) (flag flags t Predicate)
    (and_parts (flag flags t Subject && flag flags t Predicate) (flag flags t Object) e).0).1
each_flag flags t e Object = (and_parts (flag flags t Subject && flag flags t Predicate) (flag flags t Object) e).1

false_flag : (flags : TermFlags) (t : Triple) → is_writable flags t ≡ false
    → (role : Role) × (flag flags t role ≡ false)
false_flag flags t e = elim (and_cases (flag flags t Subject && flag flags t Predicate) (flag flags t Object) e) [
  | inl front ↦ elim (and_cases (flag flags t Subject) (flag flags t Predicate) front) [
    | inl a ↦ (Subject, a)
    | inr b ↦ (Predicate, b)
  ]
  | inr c ↦ (Object, c)
]

pub tells : (g : GraphParts) (flags : TermFlags) → AreTermFlags g flags → DecidesWritable g (is_writable flags)
tells g flags h = record {
  some = λ t e role. told g flags t h role true (each_flag flags t e role);
  none = λ t e. let f = false_flag flags t e in (f.0, told g flags t h f.0 false f.1);
}

-- ---- the first flag of a triple that is not true

none_earlier : (other : Role) → IsEarlierRole other Subject → ⊥
none_earlier Subject h = h
none_earlier Predicate h = h
none_earlier Object h = h

pub first_subject : (g : GraphParts) (flags : TermFlags) (t : Triple) → AreTermFlags g flags
    → term_flag (flag_list flags.subjects) t.0 ≡ false → IsFirstNonTermOfTriple (denoted_triple g t) Subject
first_subject g flags t h e =
    record { none = told g flags t h Subject false e; earlier = λ other before. absurd (none_earlier other before) }

subject_earlier : (g : GraphParts) (flags : TermFlags) (t : Triple) → AreTermFlags g flags
    → term_flag (flag_list flags.subjects) t.0 ≡ true → (other : Role) → IsEarlierRole other Predicate
    → HasTerm other (role_component other (denoted_triple g t))
subject_earlier g flags t h a Subject before = told g flags t h Subject true a
subject_earlier g flags t h a Predicate before = absurd before
subject_earlier g flags t h a Object before = absurd before

pub first_predicate : (g : GraphParts) (flags : TermFlags) (t : Triple) → AreTermFlags g flags
    → term_flag (flag_list flags.subjects) t.0 ≡ true → term_flag (flag_list flags.predicates) t.1 ≡ false
    → IsFirstNonTermOfTriple (denoted_triple g t) Predicate
first_predicate g flags t h a e =
    record { none = told g flags t h Predicate false e; earlier = subject_earlier g flags t h a }

both_earlier : (g : GraphParts) (flags : TermFlags) (t : Triple) → AreTermFlags g flags
    → term_flag (flag_list flags.subjects) t.0 ≡ true → term_flag (flag_list flags.predicates) t.1 ≡ true → (other : Role)
    → IsEarlierRole other Object → HasTerm other (role_component other (denoted_triple g t))
both_earlier g flags t h a b Subject before = told g flags t h Subject true a
both_earlier g flags t h a b Predicate before = told g flags t h Predicate true b
both_earlier g flags t h a b Object before = absurd before

pub first_object : (g : GraphParts) (flags : TermFlags) (t : Triple) → AreTermFlags g flags
    → term_flag (flag_list flags.subjects) t.0 ≡ true → term_flag (flag_list flags.predicates) t.1 ≡ true
    → term_flag (flag_list flags.objects) t.2 ≡ false → IsFirstNonTermOfTriple (denoted_triple g t) Object
first_object g flags t h a b e =
    record { none = told g flags t h Object false e; earlier = both_earlier g flags t h a b }

pub each_is_term : (g : GraphParts) (flags : TermFlags) (t : Triple) → AreTermFlags g flags
    → term_flag (flag_list flags.subjects) t.0 ≡ true → term_flag (flag_list flags.predicates) t.1 ≡ true
    → term_flag (flag_list flags.objects) t.2 ≡ true → IsWritable g t
each_is_term g flags t h a b e Subject = told g flags t h Subject true a
each_is_term g flags t h a b e Predicate = told g flags t h Predicate true b
each_is_term g flags t h a b e Object = told g flags t h Object true e
