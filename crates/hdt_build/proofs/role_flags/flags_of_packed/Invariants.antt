use Rattle.std.proofs.Common.{◌≡◌, length}
use Rattle.hdt_wire.specs.declared.Role.TheVariants.{Subject, Predicate, Object}
use Rattle.hdt_build.proofs.MergedTriples.{AreFlagsSoFar}
use Rattle.hdt_build.proofs.role_flags.flags_of_packed.Given as goal

abbrev pub invariant-triples : goal.invariant-triples
invariant-triples l = record {
  subjects_long : length l.subjects.items ≡ l.count;
  predicates_long : length l.predicates.items ≡ l.count;
  objects_long : length l.objects.items ≡ l.count;
  subjects : AreFlagsSoFar l.fn.triples Subject l.reader l.subjects.items;
  predicates : AreFlagsSoFar l.fn.triples Predicate l.reader l.predicates.items;
  objects : AreFlagsSoFar l.fn.triples Object l.reader l.objects.items;
}

abbrev pub decreases-triples : goal.decreases-triples
decreases-triples l = length l.reader
