-- A graph over runs of strings is encoded.
use Rattle.std.proofs.Common.{◌≡◌, ◌∙◌, ℕ, ◌<◌, List, length, map, ap, arith, subst, sym}
use Rattle.std.specs.Prelude.{slice_index}
use Rattle.std.proofs.lemmas.List.{length-map}
use Rattle.hdt_wire.specs.declared.Role.TheVariants.{Subject, Predicate, Object}
use Rattle.hdt_dict.specs.Dictionary.{SectionLists}
use Rattle.hdt_dict.specs.Laws.Members.{SameMembers-trans}
use Rattle.hdt_dict.specs.Strings.{SameMembers}
use Rattle.hdt_triples.specs.TripleSequences.{Triple}
use Rattle.hdt_build.specs.declared.role_flags.RoleFlags.{RoleFlags}
use Rattle.hdt_build.specs.declared.triple_sequences.TripleSequences.{TripleSequences}
use Rattle.hdt_build.specs.Graph.{IsEncodedGraph, mapped_triple, string_triples_of}
use Rattle.hdt_build.specs.Inside.Collecting.{AreBelow}
use Rattle.hdt_build.specs.Inside.Filtering.{AreRankedFlags, AreFlagsOfRoles, AreSectionsOf, HaveLength, HaveTexts}
use Rattle.hdt_build.specs.Inside.SortedEntries.{AreIndicesOf}
use Rattle.hdt_build.specs.Inside.TripleRuns.{AreMergedSequences, HasEncodedSequences}
use Rattle.hdt_build.specs.Reading.{HasDictionaryStrings}
use Rattle.hdt_build.proofs.Denoting.{parts_form}
use Rattle.hdt_build.proofs.FilteredSections.{have_texts}
use Rattle.hdt_build.proofs.IndexTriples.{mapped_twice, moved_is, moved_within}
use Rattle.hdt_build.proofs.RankedFlags.{ranked_are}

module _ (list strings : List (List ℕ)) (ranks : List ℕ) (r : AreIndicesOf list strings ranks) (ids : List Triple)
    (within : AreBelow (length list) ids) where
  abbrev moved : List Triple
  moved = map (mapped_triple ranks ranks ranks) ids

  below : AreBelow (length ranks) ids
  below = subst (λ (n : ℕ). AreBelow n ids) (sym r.long) within

  pub mapped_below : (list mapped : List ℕ) → mapped ≡ map (slice_index list) ranks → AreBelow (length mapped) ids
  mapped_below list mapped e =
      subst (λ (n : ℕ). AreBelow n ids) (sym (ap length e ∙ length-map ranks (slice_index list))) below

  module _ (n : ℕ) (many : length ranks ≡ n) (index_flags flags : RoleFlags) (are : AreFlagsOfRoles ids n index_flags)
      (long : HaveLength (length strings) flags) (ranked : AreRankedFlags index_flags ranks flags) where
    moved_flags : AreFlagsOfRoles moved (length strings) flags
    moved_flags = ranked_are ids ranks below index_flags flags (length strings)
        (subst (λ (k : ℕ). AreFlagsOfRoles ids k index_flags) (sym many) are) long ranked

    texts_are : HasDictionaryStrings (string_triples_of list ids)
        → HasDictionaryStrings (string_triples_of strings moved)
    texts_are texts = subst HasDictionaryStrings (sym (moved_is list strings ranks r ids within)) texts

    module _ (texts : HasDictionaryStrings (string_triples_of list ids)) where
      pub subject_texts : HaveTexts strings flags.subjects.items
      subject_texts = have_texts strings moved (texts_are texts) Subject flags.subjects.items moved_flags.subjects

      pub predicate_texts : HaveTexts strings flags.predicates.items
      predicate_texts = have_texts strings moved (texts_are texts) Predicate flags.predicates.items
          moved_flags.predicates

      pub object_texts : HaveTexts strings flags.objects.items
      object_texts = have_texts strings moved (texts_are texts) Object flags.objects.items moved_flags.objects

    module _ (d : SectionLists) (nodes names : List ℕ)
        (sections : (ts : List Triple) → AreBelow (length strings) ts → AreFlagsOfRoles ts (length strings) flags
        → AreSectionsOf strings ts d nodes names) where
      parts : AreSectionsOf strings moved d nodes names
      parts = sections moved (moved_within list strings ranks r ids within) moved_flags

      pub within_nodes : (k : ℕ) → k < length ranks → slice_index ranks k < length nodes
      within_nodes k lt = omega (arith, r.within k (omega (arith, lt, r.long)), parts.nodes_long)

      pub within_names : (k : ℕ) → k < length ranks → slice_index ranks k < length names
      within_names k lt = omega (arith, r.within k (omega (arith, lt, r.long)), parts.predicates_long)

      pub runs_form : (all : List Triple) (made : TripleSequences) → AreMergedSequences all made
          → SameMembers all (map (mapped_triple (map (slice_index nodes) ranks) (map (slice_index names) ranks)
          (map (slice_index nodes) ranks)) ids)
          → HasEncodedSequences (string_triples_of list ids) d made
      runs_form all made m same =
          let twice = mapped_twice ranks nodes names ids below in
          let members = SameMembers-trans m.triples all (map (mapped_triple nodes names nodes) moved) m.same
          (subst (SameMembers all) (sym twice) same) in
          record {
            triples = m.triples;
            sequences = m.sequences;
            encoded = subst (λ g. IsEncodedGraph g d m.triples) (moved_is list strings ranks r ids within)
                (parts_form strings moved d nodes names parts m.triples m.ascending members);
          }
