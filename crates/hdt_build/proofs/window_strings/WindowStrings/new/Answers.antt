use Rattle.hdt_wire.specs.declared.Role.TheVariants.{Subject, Predicate, Object}
use Rattle.hdt_build.proofs.window_strings.WindowStrings.new.Goals as goal

pub returns : goal.returns
returns c = λ prefix g. record {
  subjects = c.in_ok-new.ensures prefix g Subject;
  predicates = c.in_ok-new-2.ensures prefix g Predicate;
  objects = c.in_ok-new-3.ensures prefix g Object;
}
