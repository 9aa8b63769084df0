-- A string has one ID in a role.
use mathlib.Core.Path.{sym, ap, ◌∙◌}
use Rattle.std.specs.Prelude.{ℕ, Option}
use Rattle.std.specs.Option.{unwrap_or}
use Rattle.hdt_c.proofs.look_ups.id_in_role.Goals as goal

pub returns-in-Some : goal.returns-in-Some
returns-in-Some c = record {
  found = λ n is. ap (λ (o : Option ℕ). unwrap_or o 0) (sym c.in-Some.is ∙ (c.number_of.ensures.exact n).1 is);
  none = λ never. absurd (never c.in-Some.number ((c.number_of.ensures.exact c.in-Some.number).0 c.in-Some.is));
}
