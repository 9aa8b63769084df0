use Rattle.hdt_wire.specs.declared.Role.TheVariants.{Subject, Predicate, Object}
use Rattle.hdt_build.proofs.window_strings.WindowStrings.get.Goals as goal

pub returns : goal.returns
returns c = λ prefix g h. record {
  subject = c.in_ok-get.ensures prefix g Subject h.subjects;
  predicate = c.in_ok-get-2.ensures prefix g Predicate h.predicates;
  object = c.in_ok-get-3.ensures prefix g Object h.objects;
}
