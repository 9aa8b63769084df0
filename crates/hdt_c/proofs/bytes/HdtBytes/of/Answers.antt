-- The handle has the vector.
use mathlib.Core.Path.{refl, ap, ◌∙◌}
use Rattle.std.specs.Prelude.{Some}
use Rattle.hdt_c.proofs.bytes.HdtBytes.of.Goals as goal

pub returns-in-Ok : goal.returns-in-Ok
returns-in-Ok c = record {
  vector = c.args.bytes;
  items = refl;
  at = c.of-at.ensures;
  len = c.len-len.ensures ∙ c.args.bytes.ok.0;
  state = refl;
  resource = c.from_raw_box.ensures ∙ ap Some (c.of.ensures ∙ c.in-Ok.ensures.ok);
}
