use Rattle.std.proofs.Common.{refl, take, arith}
use Rattle.hdt_triples.specs.Remaining.{remaining_matches}
use Rattle.hdt_file.specs.Graph.{layout_view}
use Rattle.hdt_file.proofs.StreamingLaws.{checks_more, checks_none, checks_start, first_taken}
use Rattle.hdt_file.proofs.streaming.check_terms.Goals as goal

pub triples-init : goal.triples-init
triples-init c =
    rw c.unwrap_or-left.ensures
    (checks_start (layout_view c.args.layout.now) c.args.most (remaining_matches c.args.found) 18446744073709551615
    (omega (arith, c.requires.fits)))

pub returns-in-Some-first_non_term-clause-err : goal.returns-in-Some-first_non_term-clause-err
returns-in-Some-first_non_term-clause-err c =
    let l = c.triples in
    let g = layout_view c.args.layout.now in
    let told = c.in-Some-first_non_term.ensures.first g c.requires.flags in
    checks_none g _ (take l.left (remaining_matches l.matches)) _ c.in-Some.triple c.in-Some-first_non_term.role
    c.in-Some-first_non_term.n
    (first_taken l.left (remaining_matches l.matches) _ c.in-Some.triple (omega (arith, c.triples-test.true))
    c.in-Some.ensures.steps.0) told.0 told.1 l.invariant

pub triples-preserved : goal.triples-preserved
triples-preserved c =
    let l = c.triples in
    let g = layout_view c.args.layout.now in
    checks_more g _ (take l.left (remaining_matches l.matches)) _ c.in-Some.triple
    (first_taken l.left (remaining_matches l.matches) _ c.in-Some.triple (omega (arith, c.triples-test.true))
    c.in-Some.ensures.steps.0)
    (c.in_default-first_non_term.ensures.none g c.requires.flags refl) l.invariant
