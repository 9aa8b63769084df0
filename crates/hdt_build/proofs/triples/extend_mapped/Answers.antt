use Rattle.std.proofs.Common.{◌∙◌, ◌++◌, List, map, ap, arith}
use Rattle.std.proofs.lemmas.List.{take_all}
use Rattle.hdt_triples.specs.TripleSequences.{Triple}
use Rattle.hdt_build.specs.Graph.{mapped_triple}
use Rattle.hdt_build.proofs.IndexTriples.{mapped_more}
use Rattle.hdt_build.proofs.triples.extend_mapped.Goals as goal

pub loop-triple-preserved : goal.loop-triple-preserved
loop-triple-preserved c =
    let l = c.loop-triple in
    let f = mapped_triple c.args.indices.now c.args.indices.now c.args.indices.now in
    record {
      mapped = rw c.in_ok-push.ensures.items
          (mapped_more f (0, 0, 0) c.args.triples.now l.triple-index c.args.out.now.items l.out.items
          c.loop-triple-test.true l.invariant.mapped);
    }

pub returns : goal.returns
returns c =
    let l = c.loop-triple in
    let f = mapped_triple c.args.indices.now c.args.indices.now c.args.indices.now in
    l.invariant.mapped ∙ ap (λ (ts : List Triple). c.args.out.now.items
    ++ map f ts) (take_all l.triple-index c.args.triples.now (omega (arith, c.loop-triple-test.false)))
