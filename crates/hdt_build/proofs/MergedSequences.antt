-- The sequences of ascending triples, while triples are pushed.
use Rattle.std.proofs.Common.{◌≡◌, List, [], ◌∷◌, ◌++◌, Some, None, refl}
use Rattle.std.specs.Prelude.{IfSome}
use Rattle.hdt_dict.specs.Laws.Members.{SameMembers-trans}
use Rattle.hdt_dict.specs.Strings.{SameMembers}
use Rattle.hdt_triples.specs.Order.{AreAscending, TripleLess}
use Rattle.hdt_triples.specs.TripleSequences.{Triple}
use Rattle.hdt_build.specs.declared.triple_merging.AscendingSequences.{AscendingSequences}
use Rattle.hdt_build.specs.declared.triple_sequences.TripleSequences.{TripleSequences}
use Rattle.hdt_build.specs.Inside.Sequences.{AreSequencesOf}
use Rattle.hdt_build.specs.Inside.TripleRuns.{AreMergedSequences, HaveMembers}
use Rattle.hdt_build.proofs.AscendingTriples.{ascending_to, last_again, none_ascending, same_again}
use Rattle.hdt_build.proofs.TripleRuns.{merge_end, merge_step, same_both, same_self}

-- ---- the sequences

module _ (all : List Triple) (t : Triple) where
  more_members : (ts : List Triple) → SameMembers ts all → SameMembers (ts ++ t ∷ []) (all ++ t ∷ [])
  more_members ts same = same_both ts (t ∷ []) all (t ∷ []) same (same_self (t ∷ []))

  pub last_pushed : (made : AscendingSequences) → made.last ≡ Some t → HaveMembers all made
      → HaveMembers (all ++ t ∷ []) made
  last_pushed made is h = record {
    triples = h.triples;
    sequences = h.sequences;
    same = SameMembers-trans h.triples (h.triples ++ t ∷ []) (all ++ t ∷ [])
        (same_again h.triples t (last_again h.triples t made.last h.sequences.ascending is))
        (more_members h.triples h.same);
  }

  pub greater_pushed : (before : AscendingSequences) (after : TripleSequences)
      → ((ts : List Triple) → AreSequencesOf ts before.sequences → AreSequencesOf (ts ++ t ∷ []) after)
      → IfSome before.last (λ u. TripleLess u t) → HaveMembers all before
      → HaveMembers (all ++ t ∷ []) (record { sequences = after; last = Some t })
  greater_pushed before after more less h = record {
    triples = h.triples ++ t ∷ [];
    sequences = record {
      sequences = more h.triples h.sequences.sequences;
      ascending = ascending_to h.triples t before.last h.sequences.ascending less;
    };
    same = more_members h.triples h.same;
  }

-- ---- runs are merged

-- the sequences have all triples but those that remain in the runs
pub record HaveMerged (rest all : List Triple) (made : AscendingSequences) : Type 0 where
  pub done : List Triple
  pub have : HaveMembers done made
  pub same : SameMembers (done ++ rest) all

pub none_merged : (all : List Triple) (made : TripleSequences) → AreSequencesOf [] made
    → HaveMerged all all (record { sequences = made; last = None })
none_merged all made h = record {
  done = [];
  have = record {
    triples = [];
    sequences = record {
      sequences = h;
      ascending = none_ascending [] refl;
    };
    same = same_self [];
  };
  same = same_self all;
}

module _ (rest less all : List Triple) (t : Triple) (before after : AscendingSequences) where
  pub more_merged : ((ts : List Triple) → HaveMembers ts before → HaveMembers (ts ++ t ∷ []) after)
      → SameMembers (t ∷ less) rest → HaveMerged rest all before → HaveMerged less all after
  more_merged more taken h = record {
    done = h.done ++ t ∷ [];
    have = more h.done h.have;
    same = merge_step h.done (h.done ++ t ∷ []) rest less all t (same_self (h.done ++ t ∷ [])) taken h.same;
  }

pub all_merged : (rest all : List Triple) (made : AscendingSequences) → rest ≡ [] → HaveMerged rest all made
    → AreMergedSequences all made.sequences
all_merged rest all made none h = record {
  triples = h.have.triples;
  sequences = h.have.sequences.sequences;
  ascending = h.have.sequences.ascending.ascending;
  same = SameMembers-trans h.have.triples h.done all h.have.same (merge_end h.done rest all none h.same);
}

pub merged_again : (ts all : List Triple) (made : TripleSequences) → AreSequencesOf ts made → AreAscending ts
    → SameMembers ts all → AreMergedSequences all made
merged_again ts all made h up same = record { triples = ts; sequences = h; ascending = up; same = same }
