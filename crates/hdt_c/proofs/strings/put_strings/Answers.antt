-- There are no strings because a number is not an ID, or because memory ran out.
use Rattle.std.proofs.Common.{◌≡◌, inl, inr, refl, true, false}
use Rattle.hdt_c.proofs.HandleLaws.{of_none}
use Rattle.hdt_c.proofs.strings.put_strings.Goals as goal

pub returns-in-Ok-None : goal.returns-in-Ok-None
returns-in-Ok-None c = inr (
  (c.free.ensures, refl),
  inl (of_none c.in-Ok-None.field-0 _ _ c.in-Ok-None.field-0-is c.in-Ok-None.ensures.ok, refl),
)

pub returns : goal.returns
returns c =
    inr (
      (c.free-in-Err.ensures, refl),
      inr (λ none. (let k : false ≡ true = c.in-Err.ensures.absent none in absurd (cc)), refl),
    )
