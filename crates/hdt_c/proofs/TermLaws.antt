-- Strings of terms.
use Rattle.std.proofs.Common.{◌≡◌}
use Rattle.std.specs.Prelude.{ℕ, Option, Some, None}
use Rattle.std.specs.Option.{option_map}
use Rattle.std.specs.declared.vec.Vec.{Vec}
use Rattle.std.specs.declared.alloc.Global.{Global}
use Rattle.hdt_terms.specs.declared.triple.Term.{Term}
use Rattle.hdt_c.specs.TermParts.{IsStringOfKind, IsTermOfKind}

-- if there is no string there is no term
pub no_term : (term : Option Term) (made : Option (Vec ℕ Global)) → made ≡ None
    → IsStringOfKind term (option_map (λ bytes. bytes.items) made) → IsTermOfKind term → ⊥
no_term term None e is = is
no_term term (Some x) e is = absurd (cc)
