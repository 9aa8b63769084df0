use Rattle.std.proofs.Common.{arith}
use Rattle.hdt_triples.specs.TripleSequences.{Triple}
use Rattle.hdt_wire.specs.declared.Role.TheVariants.{Subject, Predicate, Object}
use Rattle.hdt_build.proofs.MergedTriples.{one_flag}
use Rattle.hdt_build.proofs.role_flags.flags_of_packed.Goals as goal

pub triples-preserved : goal.triples-preserved
triples-preserved c =
    let t : Triple = (c.in-Some.s, c.in-Some.p, c.in-Some.o) in
    let all = c.args.triples.now in
    let i = c.triples.invariant in
    let s = rw c.in-Some.ensures.some at i.subjects in
    let p = rw c.in-Some.ensures.some at i.predicates in
    let o = rw c.in-Some.ensures.some at i.objects in
    record {
      subjects_long = omega (arith, c.set_flag.ensures.len, i.subjects_long);
      predicates_long = omega (arith, c.set_flag-in-Some.ensures.len, i.predicates_long);
      objects_long = omega (arith, c.set_flag-in-Some-2.ensures.len, i.objects_long);
      subjects = one_flag all Subject t c.next.new.self c.triples.subjects.items c.set_flag.new.flags.items s
          c.set_flag.ensures.len c.set_flag.ensures.is;
      predicates = one_flag all Predicate t c.next.new.self c.triples.predicates.items
          c.set_flag-in-Some.new.flags.items p c.set_flag-in-Some.ensures.len c.set_flag-in-Some.ensures.is;
      objects = one_flag all Object t c.next.new.self c.triples.objects.items c.set_flag-in-Some-2.new.flags.items o
          c.set_flag-in-Some-2.ensures.len c.set_flag-in-Some-2.ensures.is;
    }
