use Rattle.std.proofs.Common.{[], length-append, arith}
use Rattle.hdt_front.specs.Laws.Strings.{count_is}
use Rattle.hdt_front.specs.Strings.{strings_of}
use Rattle.hdt_dict.proofs.Dictionaries.{shared_objects, shared_subjects}
use Rattle.hdt_dict.proofs.dictionary.Dictionary.sections_of.Goals as goal
use Rattle.hdt_dict.proofs.dictionary.Dictionary.sections_of.Goals.{in-Subject, in-Predicate, in-Object}

pub invariant_of-result : goal.invariant_of-result
invariant_of-result c =
    let d = c.args.self.now in
    elim c.match-role.branch [
      | in-Subject w ↦ rw w.result-is
          (record {
            few = omega (arith, d.subjects_fit, length-append (strings_of d.shared) (strings_of d.subjects));
            apart = shared_subjects d;
          })
      | in-Predicate w ↦ rw w.result-is
          (record {
            few = omega (
              arith,
              count_is d.predicates,
              d.predicates.packed.count_fits,
              length-append (strings_of d.predicates) [],
            );
            apart = λ x a b. absurd (omega (arith, b.1));
          })
      | in-Object w ↦ rw w.result-is
          (record {
            few = omega (arith, d.objects_fit, length-append (strings_of d.shared) (strings_of d.objects));
            apart = shared_objects d;
          })
    ]
