-- The batch of a file.
use Rattle.std.proofs.Common.{◌≡◌, ◌∙◌, ◌⊎◌, inl, inr, ℕ, ◌+◌, ◌-◌, ◌^◌, ◌<◌, ◌≤◌, Bool, false, true, List, []}
use Rattle.std.proofs.Common.{◌∷◌, ◌++◌, length, map, get_or, refl, ap, sym, subst, append_assoc, append-nil, arith}
use Rattle.std.proofs.Common.{replicate}
use Rattle.std.specs.Prelude.{◌↔◌, MatchOption, None, Option, Some}
use Rattle.std.proofs.lemmas.Bool.{false≢true}
use Rattle.std.specs.List.{Contains}
use Rattle.std.proofs.lemmas.List.{get_or_append_left, get_or-append-add, get_or-map, length-append, length-map}
use Rattle.std.proofs.lemmas.List.{get_or-replicate, length-replicate, map_push}
use Rattle.std.proofs.lemmas.List.Elements.{All-map, Contains-append_right}
use Rattle.std.proofs.lemmas.Simd.{map-map}
use Rattle.hdt_wire.specs.declared.Role.{Role}
use Rattle.hdt_wire.specs.declared.Role.TheVariants.{Subject, Predicate, Object}
use Rattle.hdt_dict.specs.Dictionary.{role_strings}
use Rattle.hdt_dict.specs.Laws.Members.{Contains-here, Contains-map}
use Rattle.hdt_triples.specs.TripleSequences.{Triple}
use Rattle.hdt_triples.specs.Uses.{role_component}
use Rattle.hdt_file.specs.Denoted.{StringTriple, denoted_triple, string_of}
use Rattle.hdt_file.specs.File.{GraphParts}
use Rattle.hdt_file.specs.Graph.{IsGraph}
use Rattle.hdt_build.specs.Graph.{string_triple_at, string_triples_of}
use Rattle.hdt_build.specs.Inside.Batches.{IsBatchOf, IsUsedIndex, indices_of, record_triple, records_of}
use Rattle.hdt_build.specs.Inside.Records.{record_of}
use Rattle.hdt_build.specs.Layouts.{denoted_by}
use Rattle.hdt_build.specs.Relabelling.{relabelled, relabelled_triple, relabelled_triples}
use Rattle.hdt_build.proofs.DenotedStrings.{all_in_range}
use Rattle.hdt_build.proofs.IndexTriples.{map_along}
use Rattle.hdt_build.proofs.StringsOfIds.{same_strings, term_is}

module _ (prefix : List ℕ) (g : GraphParts) (h : IsGraph g) where
  abbrev count : Role → ℕ
  count role = length (role_strings g.dictionary role)

  abbrev records : Role → List (List ℕ)
  records role = records_of prefix g role

  abbrev made : Role → ℕ → List ℕ
  made role n = record_of role (relabelled prefix (string_of g role n))

  abbrev first : List (List ℕ)
  first = records Predicate ++ records Subject

  abbrev run : List (List ℕ)
  run = first ++ records Object

  long : (role : Role) → length (records role) ≡ count role
  long role = length-map (role_strings g.dictionary role) (λ x. record_of role (relabelled prefix x))

  record_at : (role : Role) (n : ℕ) → 1 ≤ n → n ≤ count role → get_or (records role) (n - 1) [] ≡ made role n
  record_at role n from to =
      let all = role_strings g.dictionary role in
      get_or-map (λ x. record_of role (relabelled prefix x)) all (n - 1) [] [] (omega (arith, from, to))
      ∙ ap (λ x. record_of role (relabelled prefix x)) (sym (term_is all n from))

  module _ (n : ℕ) (n_is : n ≡ count Predicate + count Subject + count Object) (few : n < 2 ^ 64) where
    abbrev at : Triple → Triple
    at t = indices_of (count Predicate) (count Subject) t

    predicate_is : (k : ℕ) → 1 ≤ k → k ≤ count Predicate
        → ((at (0, k, 0)).1 < length run) × (get_or run (at (0, k, 0)).1 [] ≡ made Predicate k)
    predicate_is k from to =
        let p = long Predicate in
        let all = length-append first (records Object) in
        let nodes = length-append (records Predicate) (records Subject) in
        let same : (at (0, k, 0)).1 ≡ k - 1 = omega (arith, from, to, n_is, few) in (
          omega (arith, same, all, nodes, p, from, to),
          ap (λ (j : ℕ). get_or run j []) same
              ∙ (get_or_append_left first (records Object) [] (k - 1) (omega (arith, nodes, p, from, to))
              ∙ (get_or_append_left (records Predicate) (records Subject) [] (k - 1) (omega (arith, p, from, to))
              ∙ record_at Predicate k from to)),
        )

    subject_is : (k : ℕ) → 1 ≤ k → k ≤ count Subject
        → ((at (k, 0, 0)).0 < length run) × (get_or run (at (k, 0, 0)).0 [] ≡ made Subject k)
    subject_is k from to =
        let p = long Predicate in
        let s = long Subject in
        let all = length-append first (records Object) in
        let nodes = length-append (records Predicate) (records Subject) in
        let same : (at (k, 0, 0)).0 ≡ length (records Predicate) + (k - 1) = omega (arith, from, to, n_is, few, p) in (
          omega (arith, same, all, nodes, s, from, to),
          ap (λ (j : ℕ). get_or run j []) same
              ∙ (get_or_append_left first (records Object) [] (length (records Predicate) + (k - 1))
              (omega (arith, nodes, s, from, to))
              ∙ (get_or-append-add (records Predicate) (records Subject) (k - 1) [] ∙ record_at Subject k from to)),
        )

    object_is : (k : ℕ) → 1 ≤ k → k ≤ count Object
        → ((at (0, 0, k)).2 < length run) × (get_or run (at (0, 0, k)).2 [] ≡ made Object k)
    object_is k from to =
        let p = long Predicate in
        let s = long Subject in
        let o = long Object in
        let all = length-append first (records Object) in
        let nodes = length-append (records Predicate) (records Subject) in
        let same : (at (0, 0, k)).2 ≡ length first + (k - 1) = omega (arith, from, to, n_is, few, p, s, nodes) in (
          omega (arith, same, all, o, from, to),
          ap (λ (j : ℕ). get_or run j []) same
              ∙ (get_or-append-add first (records Object) (k - 1) [] ∙ record_at Object k from to),
        )

    abbrev all_triples : List StringTriple
    all_triples = relabelled_triples prefix (denoted_by g)

    pub file_batch_is : (xs : List (List ℕ)) (ts : List Triple) → xs ≡ run → ts ≡ map at g.triples
        → ((k : ℕ) → k < n → IsUsedIndex ts k) → IsBatchOf (map record_triple all_triples) xs ts
    file_batch_is xs ts p q used = record {
      triples = (λ i. string_triples_of (p i) (q i))
          ∙ (map_along (string_triple_at run) at
          (λ (t : Triple). record_triple (relabelled_triple prefix (denoted_triple g t))) g.triples
          (λ k d lt. let t = all_in_range g h k d lt in
          same_strings _ _ _ _ _ _ (subject_is _ t.0.0 t.0.1).1 (predicate_is _ t.1.0 t.1.1).1
          (object_is _ t.2.0 t.2.1).1)
          ∙ (sym (map-map record_triple (λ (t : Triple). relabelled_triple prefix (denoted_triple g t)) g.triples)
          ∙ ap (map record_triple) (sym (map-map (relabelled_triple prefix) (denoted_triple g) g.triples))));
      below = rw (p, q) record {
        subjects = All-map (λ (t : Triple). t.0 < length run) at g.triples
            (λ k d lt. let t = all_in_range g h k d lt in (subject_is _ t.0.0 t.0.1).0);
        predicates = All-map (λ (t : Triple). t.1 < length run) at g.triples
            (λ k d lt. let t = all_in_range g h k d lt in (predicate_is _ t.1.0 t.1.1).0);
        objects = All-map (λ (t : Triple). t.2 < length run) at g.triples
            (λ k d lt. let t = all_in_range g h k d lt in (object_is _ t.2.0 t.2.1).0);
      };
      used = λ k lt. used k (omega (
        arith,
        lt,
        n_is,
        ap length p,
        length-append first (records Object),
        length-append (records Predicate) (records Subject),
        long Predicate,
        long Subject,
        long Object,
      ));
    }

-- ---- while the triples of a file are written

-- each index with a flag is used
abbrev pub AreUsed : List Triple → List Bool → Type 0
AreUsed ts flags = (k : ℕ) → k < length flags → get_or flags k false ≡ true → IsUsedIndex ts k

-- the flags with one more set
abbrev pub IsFlagSet : ℕ → List Bool → List Bool → Type 0
IsFlagSet n old new = (k : ℕ) → k < length old → (get_or new k false ≡ true) ↔ ((n ≡ k) ⊎ (get_or old k false ≡ true))

-- the indices of the first triples were written, and have flags; the others remain
pub record IsWriting (f : Triple → Triple) (all rest : List Triple) (known : Type 0) (out : List Triple)
    (flags : List Bool) (count : ℕ) : Type 0 where
  pub done : List Triple
  pub split : done ++ rest ≡ all
  pub out_is : known → out ≡ map f done
  pub long : length flags ≡ count
  pub used : AreUsed (map f all) flags

used_more : (ts : List Triple) (old new : List Bool) (role : Role) (t : Triple) → Contains ts t
    → length new ≡ length old → IsFlagSet (role_component role t) old new → AreUsed ts old → AreUsed ts new
used_more ts old new role t there len is h k lt on = elim ((is k (omega (arith, lt, len))).0 on) [
  | inl e ↦ (role, subst (Contains (map (role_component role) ts)) e (Contains-map (role_component role) ts t there))
  | inr e ↦ h k (omega (arith, lt, len)) e
]

module _ (f : Triple → Triple) (all : List Triple) (known : Type 0) (count : ℕ) where
  pub writing_none : (rest out : List Triple) (flags : List Bool) → rest ≡ all → (known → out ≡ [])
      → flags ≡ replicate count false → IsWriting f all rest known out flags count
  writing_none rest out flags e none new =
      let long : length flags ≡ count = ap length new ∙ length-replicate count false in
      record {
        done = [];
        split = e;
        out_is = none;
        long = long;
        used = λ k lt on. absurd (false≢true (sym (ap (λ (l : List Bool). get_or l k false) new
            ∙ get_or-replicate count k false false (omega (arith, lt, long))) ∙ on));
      }

  pub writing_more : (t u : Triple) (before rest out new : List Triple) (a b c d : List Bool) → u ≡ f t
      → before ≡ t ∷ rest → IsWriting f all before known out a count → (known → new ≡ out ++ u ∷ [])
      → length b ≡ length a → IsFlagSet u.0 a b → length c ≡ length b → IsFlagSet u.1 b c → length d ≡ length c
      → IsFlagSet u.2 c d → IsWriting f all rest known new d count
  writing_more t u before rest out new a b c d is e w pushed bl b_is cl c_is dl d_is =
      let whole : w.done ++ t ∷ rest ≡ all = ap (λ (l : List Triple). w.done ++ l) (sym e) ∙ w.split in
      let there : Contains (map f all) u =
      subst (Contains (map f all)) (sym is) (Contains-map f all t
      (subst (λ (l : List Triple). Contains l t) whole
      (Contains-append_right w.done (t ∷ rest) t (Contains-here t rest)))) in
      record {
        done = w.done ++ t ∷ [];
        split = append_assoc w.done (t ∷ []) rest ∙ whole;
        out_is = λ k. pushed k ∙ ((λ i. w.out_is k i ++ is i ∷ []) ∙ sym (map_push f w.done t));
        long = dl ∙ (cl ∙ (bl ∙ w.long));
        used = used_more (map f all) c d Object u there dl d_is
            (used_more (map f all) b c Predicate u there cl c_is
            (used_more (map f all) a b Subject u there bl b_is w.used));
      }

  pub writing_done : (rest out made : List Triple) (flags : List Bool) → rest ≡ []
      → IsWriting f all rest known out flags count → ((k : ℕ) → k < length flags → get_or flags k false ≡ true)
      → (known → made ≡ out) → known → (made ≡ map f all) × ((k : ℕ) → k < count → IsUsedIndex made k)
  writing_done rest out made flags e w set same k =
      let is : made ≡ map f all =
      same k ∙ (w.out_is k
      ∙ ap (map f) (sym (append-nil w.done) ∙ (ap (λ (l : List Triple). w.done ++ l) (sym e) ∙ w.split))) in (
        is,
        λ j lt. let within : j < length flags = omega (arith, lt, w.long) in
            subst (λ (l : List Triple). IsUsedIndex l j) (sym is) (w.used j within (set j within)),
      )

pub none_left : (r : Option Triple) (xs ys : List Triple) → MatchOption r ((xs ≡ []) × (ys ≡ [])) (λ x. xs ≡ x ∷ ys)
    → ((t : Triple) → r ≡ Some t → ⊥) → xs ≡ []
none_left None xs ys e none = e.0
none_left (Some t) xs ys e none = absurd (none t refl)
