-- The graph that a file denotes: its strings are UTF-8 without zero bytes.
use Rattle.std.proofs.Common.{◌≡◌, ◌∙◌, ℕ, ◌+◌, ◌-◌, ◌<◌, ◌≤◌, List, [], ◌∷◌, ◌++◌, length, get_or, None, true, refl}
use Rattle.std.proofs.Common.{ap, sym, subst, inl, inr, arith}
use Rattle.std.specs.List.{All}
use Rattle.std.proofs.lemmas.Bool.{cases_lt}
use Rattle.std.proofs.lemmas.List.{get_or_append_left, get_or-append-add, get_or_default, length-append, length-map}
use Rattle.std.proofs.lemmas.List.Elements.{All-map}
use Rattle.hdt_wire.specs.declared.Role.{Role}
use Rattle.hdt_wire.specs.declared.Role.TheVariants.{Subject, Predicate, Object}
use Rattle.hdt_front.specs.Section.{AreSectionStrings}
use Rattle.hdt_dict.specs.Strings.{IsDictionaryString}
use Rattle.hdt_triples.specs.TripleSequences.{Triple}
use Rattle.hdt_triples.specs.Patterns.{agrees, matches}
use Rattle.hdt_triples.specs.declared.pattern.Pattern.{Pattern}
use Rattle.hdt_file.specs.Denoted.{denoted_triple}
use Rattle.hdt_file.specs.File.{GraphParts, role_counts}
use Rattle.hdt_triples.specs.Order.{IsInRange}
use Rattle.hdt_file.specs.Graph.{IsGraph}
use Rattle.hdt_dict.specs.Dictionary.{role_strings}
use Rattle.hdt_file.specs.Denoted.{StringTriple}
use Rattle.hdt_build.specs.Layouts.{denoted_by}
use Rattle.hdt_build.specs.Inside.Rewriting.{string_of_id}
use Rattle.hdt_build.specs.Reading.{HasDictionaryStrings}
use Rattle.hdt_build.proofs.StringsOfIds.{term_is}

-- ---- the pattern that matches all triples

agrees_all : (p : Pattern) (t : Triple) → p.s ≡ None → p.p ≡ None → p.o ≡ None → agrees p t ≡ true
agrees_all p t s q o = rw (s, q, o) refl

pub matches_all : (p : Pattern) (ts : List Triple) → p.s ≡ None → p.p ≡ None → p.o ≡ None → matches p ts ≡ ts
unfolding matches
matches_all p [] s q o = refl
matches_all p (t ∷ ts) s q o = rw (agrees_all p t s q o) (ap (λ (us : List Triple). t ∷ us) (matches_all p ts s q o))

-- ---- the strings of a graph

text_of : (xs : List (List ℕ)) (i : ℕ) → AreSectionStrings xs → i < length xs → IsDictionaryString (get_or xs i [])
text_of xs i h lt = record { utf8 = h.utf8 i lt; no_zero = h.no_zero i lt }

text_of_two : (xs ys : List (List ℕ)) (i : ℕ) → AreSectionStrings xs → AreSectionStrings ys → i < length (xs ++ ys)
    → IsDictionaryString (get_or (xs ++ ys) i [])
text_of_two xs ys i h k lt =
    let long = length-append xs ys in
    elim (cases_lt i (length xs)) [
      | inl below ↦ subst IsDictionaryString (sym (get_or_append_left xs ys [] i below)) (text_of xs i h below)
      | inr above ↦
          let at : length xs + (i - length xs) ≡ i = omega (arith, above) in
          subst IsDictionaryString (sym (sym (ap (λ (j : ℕ). get_or (xs ++ ys) j []) at)
          ∙ get_or-append-add xs ys (i - length xs) []))
          (text_of ys (i - length xs) k (omega (arith, lt, long, above)))
    ]

place_text : (g : GraphParts) → IsGraph g → (role : Role) (n : ℕ) → 1 ≤ n → n ≤ length (role_strings g.dictionary role)
    → IsDictionaryString (get_or (role_strings g.dictionary role) (n - 1) [])
place_text g h Subject n from to =
    text_of_two g.dictionary.shared g.dictionary.subjects (n - 1) h.shared h.subjects (omega (arith, from, to))
place_text g h Predicate n from to = text_of g.dictionary.predicates (n - 1) h.predicates (omega (arith, from, to))
place_text g h Object n from to =
    text_of_two g.dictionary.shared g.dictionary.objects (n - 1) h.shared h.objects (omega (arith, from, to))

pub string_text : (g : GraphParts) → IsGraph g → (role : Role) (n : ℕ) → 1 ≤ n
    → n ≤ length (role_strings g.dictionary role) → IsDictionaryString (string_of_id (role_strings g.dictionary role) n)
string_text g h role n from to =
    subst IsDictionaryString (sym (term_is (role_strings g.dictionary role) n from)) (place_text g h role n from to)

pub all_in_range : (g : GraphParts) → IsGraph g → All (IsInRange (role_counts g.dictionary)) g.triples
all_in_range g h k d lt =
    subst (IsInRange (role_counts g.dictionary)) (get_or_default g.triples k (0, 0, 0) d lt) (h.range k lt)

pub some_denoted : (g : GraphParts) → IsGraph g → 0 < length (denoted_by g)
some_denoted g h = omega (arith, h.some, length-map g.triples (denoted_triple g))

pub denoted_texts : (g : GraphParts) → IsGraph g → HasDictionaryStrings (denoted_by g)
denoted_texts g h =
    let all = all_in_range g h in
    record {
      subjects_are = All-map IsDictionaryString (λ (t : StringTriple). t.0) (denoted_by g)
          (All-map (λ (t : StringTriple). IsDictionaryString t.0) (denoted_triple g) g.triples (λ k d lt. let t =
          all k d lt in string_text g h Subject _ t.0.0 t.0.1));
      predicates_are = All-map IsDictionaryString (λ (t : StringTriple). t.1) (denoted_by g)
          (All-map (λ (t : StringTriple). IsDictionaryString t.1) (denoted_triple g) g.triples (λ k d lt. let t =
          all k d lt in string_text g h Predicate _ t.1.0 t.1.1));
      objects_are = All-map IsDictionaryString (λ (t : StringTriple). t.2) (denoted_by g)
          (All-map (λ (t : StringTriple). IsDictionaryString t.2) (denoted_triple g) g.triples (λ k d lt. let t =
          all k d lt in string_text g h Object _ t.2.0 t.2.1));
    }
