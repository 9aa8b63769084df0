-- If an item is returned, fewer remain.
use Rattle.std.proofs.Common.{◌≡◌, List, ◌∷◌, length, ap, arith, Some}
use Rattle.std.specs.Prelude.{⊤}
use Rattle.std.specs.Iterator.{MakesProgress, item_count}

pub progress_some : {S A : Type 0} (rest : S → List A) (s t : S) (x : A) → rest s ≡ x ∷ rest t
    → MakesProgress (λ _. ⊤) (item_count rest) s (Some x) t
progress_some rest s t x h = record { on = λ u. (tt, tt, omega (arith, ap length h)); keeps = tt; rests = λ u. tt }
