-- Bytes that need no escape are written as they are.
use Rattle.std.proofs.Common.{◌≡◌, ℕ, zero, suc, ◌<◌, ◌≤◌, Bool, true, false, eqb, List, [], ◌∷◌, ◌++◌, length, get_or}
use Rattle.std.proofs.Common.{take, drop, refl, sym, ap, ap₂, ◌∙◌, append_assoc, arith}
use Rattle.std.specs.Prelude.{◌||◌}
use Rattle.memchr.specs.Find.{is_byte3}
use Rattle.hdt_tool.specs.PrintedReports.{escaped, escaped_byte}

unmarked : (p q r : Bool) (c : ℕ) → eqb c 92 ≡ p → eqb c 10 ≡ q → eqb c 13 ≡ r → ((p || q || r) ≡ true → ⊥)
    → escaped_byte c ≡ c ∷ []
unmarked true q r c hp hq hr h = absurd (h refl)
unmarked false true r c hp hq hr h = absurd (h refl)
unmarked false false true c hp hq hr h = absurd (h refl)
unmarked false false false c hp hq hr h = rw (hp, hq, hr) refl

pub plain_byte : (c : ℕ) → (is_byte3 92 10 13 c ≡ true → ⊥) → escaped_byte c ≡ c ∷ []
plain_byte c h = unmarked (eqb c 92) (eqb c 10) (eqb c 13) c refl refl refl h

run_written : (n : ℕ) (text : List ℕ) → n ≤ length text
    → ((k : ℕ) → k < n → escaped_byte (get_or text k 0) ≡ get_or text k 0 ∷ [])
    → take n text ++ escaped (drop n text) ≡ escaped text
run_written zero text le plain = refl
run_written (suc n) [] le plain = absurd (omega arith)
run_written (suc n) (c ∷ rest) le plain =
    ap₂ (λ (xs ys : List ℕ). xs ++ ys) (sym (plain 0 (omega arith)))
    (run_written n rest (omega arith) (λ k lt. plain (suc k) (omega arith)))

pub run_behind : (front : List ℕ) (n : ℕ) (text : List ℕ) → n ≤ length text
    → ((k : ℕ) → k < n → escaped_byte (get_or text k 0) ≡ get_or text k 0 ∷ [])
    → (front ++ take n text) ++ escaped (drop n text) ≡ front ++ escaped text
run_behind front n text le plain = append_assoc front (take n text) _
    ∙ ap (λ l. front ++ l) (run_written n text le plain)
