use Rattle.std.proofs.Common.{arith}
use Rattle.hdt_triples.specs.Views.{triples_view}
use Rattle.hdt_triples.proofs.SubjectLaws.{before_start, subject_above}
use Rattle.hdt_seq.specs.Laws.Bits.{bits_below}
use Rattle.hdt_triples.proofs.indexed.IndexedTriples.start_of_subject.Goals as goal
use Rattle.hdt_triples.proofs.indexed.IndexedTriples.start_of_subject.Goals.{then-subject-eq0-via-then-subject-eq0}
use Rattle.hdt_triples.proofs.indexed.IndexedTriples.start_of_subject.Goals.{then-subject-eq0-via-else-subject-eq0+then-subject-subjects}

pub returns-then-subject-eq0-clause-before : goal.returns-then-subject-eq0-clause-before
unfolding triples_view
returns-then-subject-eq0-clause-before c =
    let t = c.args.self.now.triples in
    elim c.then-subject-eq0.branch [
      | then-subject-eq0-via-then-subject-eq0 w ↦ (λ i h same. omega (arith, same, w.if-subject-eq0.true))
      | then-subject-eq0-via-else-subject-eq0+then-subject-subjects w ↦
          (λ i h same. omega (
            arith,
            same,
            w.if-subject-subjects.true,
            c.subjects-subjects.ensures.is,
            subject_above (triples_view t) i t.valid.marked (omega (arith, h, c.end.ensures.at)),
          ))
    ]

pub returns-clause-before : goal.returns-clause-before
unfolding triples_view
returns-clause-before c = λ i h.
    before_start (triples_view c.args.self.now.triples) c.args.subject c.select-pair.result c.select-at.result
    (omega (arith, c.select-pair.ensures.is.before, c.if-subject-eq0.false, c.if-subject-eq1.false))
    (omega (arith, c.select-at.ensures.is.before)) i (omega (arith, h))

pub overflow_add-pair : goal.overflow_add-pair
overflow_add-pair c = omega (arith, bits_below c.args.self.now.triples.bitmap_y, c.select-pair.ensures.within)

pub overflow_add-at : goal.overflow_add-at
overflow_add-at c = omega (arith, bits_below c.args.self.now.triples.bitmap_z, c.select-at.ensures.within)
