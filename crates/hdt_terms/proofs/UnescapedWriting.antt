-- Bytes that may occur unescaped are written unescaped.
use Rattle.std.proofs.Common.{◌≡◌, ℕ, zero, suc, ◌<◌, ◌≤◌, Bool, true, false, eqb, List, [], ◌∷◌, ◌++◌, length, get_or}
use Rattle.std.proofs.Common.{take, drop, refl, sym, ap, ap₂, ◌∙◌, append_assoc, arith}
use Rattle.std.specs.List.{flat_map}
use Rattle.std.proofs.lemmas.Bool.{eqb-true}
use Rattle.hdt_terms.specs.declared.escaped_tokens.Token.{Token}
use Rattle.hdt_terms.specs.declared.escaped_tokens.Token.TheVariants.{Iri, Quoted}
use Rattle.hdt_terms.specs.Grammar.{is_unescaped}
use Rattle.hdt_terms.specs.Writing.{written_byte, string_byte}

not_raw : (c d : ℕ) → eqb c d ≡ true → is_unescaped Quoted d ≡ false → is_unescaped Quoted c ≡ true
    → string_byte c ≡ c ∷ []
not_raw c d e out h = absurd (let both : true ≡ false = sym h ∙ ap (is_unescaped Quoted) (eqb-true c d e) ∙ out in cc)

raw_string : (p q r s : Bool) (c : ℕ) → eqb c 92 ≡ p → eqb c 34 ≡ q → eqb c 10 ≡ r → eqb c 13 ≡ s
    → is_unescaped Quoted c ≡ true → string_byte c ≡ c ∷ []
raw_string true q r s c hp hq hr hs h = not_raw c 92 hp refl h
raw_string false true r s c hp hq hr hs h = not_raw c 34 hq refl h
raw_string false false true s c hp hq hr hs h = not_raw c 10 hr refl h
raw_string false false false true c hp hq hr hs h = not_raw c 13 hs refl h
raw_string false false false false c hp hq hr hs h = rw (hp, hq, hr, hs) refl

raw_written : (token : Token) (c : ℕ) → is_unescaped token c ≡ true → written_byte token c ≡ c ∷ []
raw_written Iri c h = rw h refl
raw_written Quoted c h = raw_string (eqb c 92) (eqb c 34) (eqb c 10) (eqb c 13) c refl refl refl refl h

run_written : (token : Token) (n : ℕ) (text : List ℕ) → n ≤ length text
    → ((k : ℕ) → k < n → is_unescaped token (get_or text k 0) ≡ true)
    → take n text ++ flat_map (written_byte token) (drop n text) ≡ flat_map (written_byte token) text
run_written token zero text le plain = refl
run_written token (suc n) [] le plain = absurd (omega arith)
run_written token (suc n) (c ∷ rest) le plain =
    ap₂ (λ (xs ys : List ℕ). xs ++ ys) (sym (raw_written token c (plain 0 (omega arith))))
    (run_written token n rest (omega arith) (λ k lt. plain (suc k) (omega arith)))

pub run_behind : (token : Token) (front : List ℕ) (n : ℕ) (text : List ℕ) → n ≤ length text
    → ((k : ℕ) → k < n → is_unescaped token (get_or text k 0) ≡ true)
    → (front ++ take n text) ++ flat_map (written_byte token) (drop n text)
    ≡ front ++ flat_map (written_byte token) text
run_behind token front n text le plain = append_assoc front (take n text) _
    ∙ ap (λ l. front ++ l) (run_written token n text le plain)
