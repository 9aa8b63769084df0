use Rattle.std.proofs.Common.{refl}
use Rattle.hdt_tool.proofs.info.is_tight.Goals as goal

pub returns-then-canonical : goal.returns-then-canonical
returns-then-canonical c = (λ t. c.requires c.if-canonical.true, λ h. refl)
