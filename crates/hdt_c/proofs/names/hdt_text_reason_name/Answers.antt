-- The reason that was found has the number.
use Rattle.hdt_c.proofs.names.hdt_text_reason_name.Goals as goal

pub returns-in-Some-clause-none : goal.returns-in-Some-clause-none
returns-in-Some-clause-none c =
    λ never. absurd (never c.in-Some.found ((c.text_reason.ensures c.in-Some.found).0 c.in-Some.is))
