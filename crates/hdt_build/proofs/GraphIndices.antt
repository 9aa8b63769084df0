-- The strings of a graph as indices into a list.
use Rattle.std.proofs.Common.{◌≡◌, ◌∙◌, ℕ, ◌+◌, ◌-◌, ◌%◌, ◌^◌, ◌<◌, List, [], ◌++◌, length, map, get_or}
use Rattle.std.proofs.Common.{ap, sym, arith}
use Rattle.std.proofs.lemmas.List.{get_or_append_left, get_or-append-add, get_or-map, length-append, length-map}
use Rattle.std.proofs.lemmas.List.Elements.{All-map}
use Rattle.std.proofs.lemmas.Simd.{map-map}
use Rattle.hdt_wire.specs.declared.Role.{Role}
use Rattle.hdt_dict.specs.Dictionary.{role_strings}
use Rattle.hdt_triples.specs.TripleSequences.{Triple}
use Rattle.hdt_file.specs.Denoted.{StringTriple, denoted_triple}
use Rattle.hdt_file.specs.File.{GraphParts}
use Rattle.hdt_file.specs.Graph.{IsGraph}
use Rattle.hdt_build.specs.declared.sections.NewIds.{NewIds}
use Rattle.hdt_build.specs.Graph.{string_triple_at, string_triples_of}
use Rattle.hdt_build.specs.Inside.Collecting.{AreBelow, HaveIndices, AreIndexMaps}
use Rattle.hdt_build.specs.Inside.Rewriting.{with_new_ids}
use Rattle.hdt_build.specs.Inside.SortedEntries.{ExtendsList}
use Rattle.hdt_build.specs.Layouts.{denoted_by}
use Rattle.hdt_build.specs.Relabelling.{relabelled, relabelled_triple, relabelled_triples}
use Rattle.hdt_build.proofs.DenotedStrings.{all_in_range}
use Rattle.hdt_build.proofs.IndexTriples.{joined_is, map_along}
use Rattle.hdt_build.proofs.StringsOfIds.{same_strings, term_is}

-- a list to which strings were appended
pub appended : (old more new : List (List ℕ)) → new ≡ old ++ more → ExtendsList old new
appended old more new e = record {
  longer = omega (arith, ap length e, length-append old more);
  kept = λ k lt. ap (λ (xs : List (List ℕ)). get_or xs k []) e ∙ get_or_append_left old more [] k lt;
}

-- the strings of a role, relabelled and appended to a list, have its last indices
module _ (prefix : List ℕ) (g : GraphParts) (role : Role) (old new : List (List ℕ))
    (e : new ≡ old ++ map (relabelled prefix) (role_strings g.dictionary role)) (few : length new < 2 ^ 64) where
  abbrev all : List (List ℕ)
  all = role_strings g.dictionary role

  abbrev made : List (List ℕ)
  made = map (relabelled prefix) all

  pub shifted_indices : (first : ℕ) → first ≡ (length new + (2 ^ 64 - length all)) % 2 ^ 64
      → HaveIndices prefix g role new (λ n. (first + (n - 1)) % 2 ^ 64)
  shifted_indices first is n from to =
      let long : length new ≡ length old + length all =
      omega (arith, ap length e, length-append old made, length-map all (relabelled prefix)) in
      let at : (first + (n - 1)) % 2 ^ 64 ≡ length old + (n - 1) = omega (arith, is, long, few, from, to) in (
        omega (arith, at, long, from, to),
        ap (λ (k : ℕ). get_or new k []) at ∙ (ap (λ (xs : List (List ℕ)). get_or xs (length old + (n - 1)) []) e
            ∙ (get_or-append-add old made (n - 1) []
            ∙ (get_or-map (relabelled prefix) all (n - 1) [] [] (omega (arith, from, to))
            ∙ ap (relabelled prefix) (sym (term_is all n from))))),
      )

-- they are indices into a list that goes on, too
pub later_indices : (prefix : List ℕ) (g : GraphParts) (role : Role) (xs ys : List (List ℕ)) (index : ℕ → ℕ)
    → HaveIndices prefix g role xs index → ExtendsList xs ys → HaveIndices prefix g role ys index
later_indices prefix g role xs ys index have e = λ n from to.
    let h = have n from to in
    (omega (arith, h.0, e.longer), e.kept (index n) h.0 ∙ h.1)

-- the triples of a graph, mapped to indices
module _ (prefix : List ℕ) (g : GraphParts) (h : IsGraph g) (xs : List (List ℕ)) (ids : NewIds)
    (m : AreIndexMaps prefix g xs ids) where
  mapped_is : string_triples_of xs (map (with_new_ids ids) g.triples) ≡ relabelled_triples prefix (denoted_by g)
  mapped_is =
      map_along (string_triple_at xs) (with_new_ids ids)
      (λ (t : Triple). relabelled_triple prefix (denoted_triple g t)) g.triples
      (λ k d lt. let t = all_in_range g h k d lt in
      same_strings _ _ _ _ _ _ (m.subjects _ t.0.0 t.0.1).1 (m.predicates _ t.1.0 t.1.1).1
      (m.objects _ t.2.0 t.2.1).1)
      ∙ sym (map-map (relabelled_triple prefix) (denoted_triple g) g.triples)

  pub mapped_within : AreBelow (length xs) (map (with_new_ids ids) g.triples)
  mapped_within = record {
    subjects = All-map (λ (t : Triple). t.0 < length xs) (with_new_ids ids) g.triples
        (λ k d lt. let t = all_in_range g h k d lt in (m.subjects _ t.0.0 t.0.1).0);
    predicates = All-map (λ (t : Triple). t.1 < length xs) (with_new_ids ids) g.triples
        (λ k d lt. let t = all_in_range g h k d lt in (m.predicates _ t.1.0 t.1.1).0);
    objects = All-map (λ (t : Triple). t.2 < length xs) (with_new_ids ids) g.triples
        (λ k d lt. let t = all_in_range g h k d lt in (m.objects _ t.2.0 t.2.1).0);
  }

  -- appended to others
  pub graph_added : (old : List (List ℕ)) (ids_before : List Triple) → ExtendsList old xs
      → AreBelow (length old) ids_before
      → string_triples_of xs (ids_before ++ map (with_new_ids ids) g.triples)
      ≡ string_triples_of old ids_before ++ relabelled_triples prefix (denoted_by g)
  graph_added old ids_before e below =
      joined_is old xs e ids_before below (map (with_new_ids ids) g.triples)
      ∙ ap (λ (ts : List StringTriple). string_triples_of old ids_before ++ ts) mapped_is
