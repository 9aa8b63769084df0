use Rattle.std.proofs.Common.{arith, ◌+◌, inl, inr}
use Rattle.hdt_triples.specs.Views.{triples_view}
use Rattle.hdt_seq.specs.Laws.RankSelect.{ones_before_mono}
use Rattle.hdt_seq.specs.Laws.RankSelect.{ones_before_at_0}
use Rattle.hdt_triples.proofs.RunLaws.{no_pairs, pairs_between, ordered}
use Rattle.hdt_seq.specs.Laws.Bits.{bits_below}
use Rattle.hdt_triples.proofs.indexed.IndexedTriples.pairs_of_subject.Goals as goal
use Rattle.hdt_triples.proofs.indexed.IndexedTriples.pairs_of_subject.Goals.{then-subject-eq0-via-then-subject-eq0}
use Rattle.hdt_triples.proofs.indexed.IndexedTriples.pairs_of_subject.Goals.{then-subject-eq0-via-else-subject-eq0+then-subject-subjects}

pub returns-then-subject-eq0-clause-are : goal.returns-then-subject-eq0-clause-are
unfolding triples_view
returns-then-subject-eq0-clause-are c =
    let t = c.args.self.now.triples in
    elim c.then-subject-eq0.branch [
      | then-subject-eq0-via-then-subject-eq0 w ↦ no_pairs (triples_view t) c.args.subject t.valid.marked
          (inl w.if-subject-eq0.true)
      | then-subject-eq0-via-else-subject-eq0+then-subject-subjects w ↦ no_pairs
          (triples_view t) c.args.subject t.valid.marked
          (inr (omega (arith, w.if-subject-subjects.true, c.subjects-subjects.ensures.is)))
    ]

pub returns-then-subject-eq1-clause-are : goal.returns-then-subject-eq1-clause-are
unfolding triples_view
returns-then-subject-eq1-clause-are c =
    let t = c.args.self.now.triples in
    let bitmap_y = (triples_view t).bitmap_y in
    pairs_between (triples_view t) c.args.subject 0 (c.select-high.result + 1) t.valid.marked
    (omega (arith, c.if-subject-eq1.true)) (omega arith) (omega (arith, c.select-high.ensures.within))
    (omega (arith, ones_before_at_0 bitmap_y, c.if-subject-eq1.true)) c.select-high.ensures.through
    (λ q h. absurd (omega (arith, h)))
    (λ q h. omega (
      arith,
      c.select-high.ensures.is.before,
      ones_before_mono bitmap_y q c.select-high.result (omega (arith, h)),
    ))

pub returns-clause-are : goal.returns-clause-are
unfolding triples_view
returns-clause-are c =
    let t = c.args.self.now.triples in
    let bitmap_y = (triples_view t).bitmap_y in
    let low = c.select.result + 1 in
    let high = c.select-high.result + 1 in
    pairs_between (triples_view t) c.args.subject low high t.valid.marked (omega (arith, c.if-subject-eq0.false))
    (ordered bitmap_y low high c.args.subject
    (omega (arith, c.select.ensures.through, c.if-subject-eq0.false)) c.select-high.ensures.through)
    (omega (arith, c.select-high.ensures.within))
    (omega (arith, c.select.ensures.through, c.if-subject-eq0.false)) c.select-high.ensures.through
    (λ q h. omega (arith, c.select.ensures.is.before, ones_before_mono bitmap_y q c.select.result (omega (arith, h))))
    (λ q h. omega (
      arith,
      c.select-high.ensures.is.before,
      ones_before_mono bitmap_y q c.select-high.result (omega (arith, h)),
    ))

pub overflow_add-high : goal.overflow_add-high
overflow_add-high c = omega (arith, bits_below c.args.self.now.triples.bitmap_y, c.select-high.ensures.within)

pub overflow_add-result : goal.overflow_add-result
overflow_add-result c = omega (arith, bits_below c.args.self.now.triples.bitmap_y, c.select.ensures.within)
