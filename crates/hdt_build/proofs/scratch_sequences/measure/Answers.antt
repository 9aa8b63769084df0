use Rattle.hdt_build.specs.declared.triple_entries.Sequence.TheVariants.{Predicates, Objects}
use Rattle.hdt_build.specs.Inside.TripleEntries.{entries_of}
use Rattle.hdt_build.proofs.ScratchSequences.{all_measured, measures_are, triple_ahead}
use Rattle.hdt_build.proofs.TripleEntries.{no_entries}
use Rattle.hdt_build.proofs.scratch_sequences.measure.Goals as goal

pub triples-preserved : goal.triples-preserved
triples-preserved g c =
    let all = c.args.triples.now in
    let t = c.in-Some.triple in
    let old = c.triples.rest in
    let new = c.take.new.self in
    let h = c.triples.invariant in
    let taken = rw c.in-Some.is at c.in_ok-triple.ensures.some in
    record {
      predicates = λ known. c.in_ok-add.ensures (entries_of Predicates all) (entries_of Predicates new)
          (triple_ahead Predicates t (entries_of Predicates all) old new c.entry_of.result c.current-next.result
          c.triples.predicates (taken known) c.entry_of.ensures c.current-next.ensures (h.predicates known));
      objects = λ known. c.in_ok-add-2.ensures (entries_of Objects all) (entries_of Objects new)
          (triple_ahead Objects t (entries_of Objects all) old new c.entry_of-in-Some.result c.current-next.result
          c.triples.objects (taken known) c.entry_of-in-Some.ensures c.current-next.ensures (h.objects known));
    }

pub returns : goal.returns
returns g c = λ known.
    let all = c.args.triples.now in
    let rest = c.triples.rest in
    let none = rw c.in_default.is at c.in_ok-triple.ensures.none in
    let h = c.triples.invariant in
    measures_are all _ (all_measured (entries_of Predicates all) (entries_of Predicates rest) c.triples.predicates
    (no_entries Predicates rest none) (h.predicates known)) (all_measured (entries_of Objects all)
    (entries_of Objects rest) c.triples.objects (no_entries Objects rest none) (h.objects known))
