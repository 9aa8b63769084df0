use Rattle.std.proofs.Common.{◌∙◌, ◌++◌, ◌∷◌, [], List, ap, sym, arith}
use Rattle.hdt_triples.specs.TripleSequences.{Triple}
use Rattle.hdt_build.proofs.PackedTriples.{few, pushed, pushed_is}
use Rattle.hdt_build.proofs.packed_triples.PackedTriples.push.Goals as goal

pub overflow_add-self : goal.overflow_add-self
overflow_add-self c =
    let s = c.self.inside in
    omega (arith, few s.bytes.items s.subject s.count c.self.invariant, s.bytes.ok.0)

pub invariant_of-self-2 : goal.invariant_of-self-2
invariant_of-self-2 c =
    let s = c.self.inside in
    let same = c.in_ok-truncate_on_error.ensures.same in
    let new = rw (sym same) at c.truncate_on_error.ensures.ok in
    let put = rw (sym same) at c.put_numbers-appended.ensures.ok in
    pushed s.bytes.items s.subject s.count c.self.invariant c.truncate_on_error.new.out.items
    (c.args.s, c.args.p, c.args.o)
    (omega (arith, c.ranges.s), omega (arith, c.ranges.p), omega (arith, c.ranges.o))
    (ap (λ v. v.items) new ∙ put)

pub returns-clause-ok : goal.returns-clause-ok
returns-clause-ok c =
    let s = c.self.inside in
    let t : Triple = (c.args.s, c.args.p, c.args.o) in
    let same = c.in_ok-truncate_on_error.ensures.same in
    let new = rw (sym same) at c.truncate_on_error.ensures.ok in
    let put = rw (sym same) at c.put_numbers-appended.ensures.ok in
    pushed_is s.bytes.items s.subject s.count c.self.invariant c.truncate_on_error.new.out.items
    t (omega (arith, c.ranges.s), omega (arith, c.ranges.p), omega (arith, c.ranges.o)) (ap (λ v. v.items) new ∙ put)
    ∙ ap (λ (l : List Triple). l ++ t ∷ []) c.self.view_is
