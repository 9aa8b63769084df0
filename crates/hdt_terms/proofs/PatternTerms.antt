-- The terms of a request, step by step.
use Rattle.std.proofs.Common.{◌≡◌, ℕ, true, false, eqb, List, [], ◌∷◌, Option, Some, Ok, refl, ap, subst, ◌∙◌, arith}
use Rattle.std.specs.Prelude.{IsUtf8}
use Rattle.hdt_wire.specs.declared.Role.{Role}
use Rattle.hdt_terms.specs.declared.triple.Term.{Term}
use Rattle.hdt_terms.specs.Appending.{Appended}
use Rattle.hdt_terms.specs.LineParsing.{role_term_at}
use Rattle.hdt_terms.specs.TermParsing.{◌>>=◌}
use Rattle.hdt_terms.specs.RequestParsing.{as_pattern_term, pattern_term_at, is_given, pattern_term_string}
use Rattle.hdt_terms.specs.Terms.{dictionary_string}
use Rattle.hdt_terms.proofs.AsciiBorders.{behind_ascii}

-- after ?
pub behind_any : (bytes rest : List ℕ) (c : ℕ) → bytes ≡ c ∷ rest → c ≡ 63 → IsUtf8 bytes → IsUtf8 rest
behind_any bytes rest c e f utf8 = behind_ascii c rest (omega (arith, f)) (subst IsUtf8 e utf8)

pub here_is : (role : Role) (bytes tail : List ℕ) (c : ℕ) → bytes ≡ c ∷ tail → eqb c 63 ≡ false
    → pattern_term_at role bytes ≡ (role_term_at role bytes >>= as_pattern_term)
unfolding pattern_term_at
here_is role bytes tail c e f = rw e (rw f refl)

module _ (role : Role) (bytes tail : List ℕ) (c : ℕ) (e : bytes ≡ c ∷ tail) (f : eqb c 63 ≡ false) where
  pub part_read : (out rest : List ℕ) → Appended dictionary_string [] out rest (role_term_at role bytes)
      → (part : Option Term) × (pattern_term_at role bytes ≡ Ok (part, rest)) × (true ≡ is_given part)
      × (out ≡ pattern_term_string part)
  part_read out rest a = (
    Some a.value,
    here_is role bytes tail c e f ∙ ap (λ r. r >>= as_pattern_term) a.reads,
    refl,
    a.whole,
  )
