-- Reading the dictionary strings of a line, step by step.
use Rattle.std.proofs.Common.{◌≡◌, ◌≢◌, ℕ, false, eqb, ne_eqb, List, [], ◌∷◌, ◌++◌, length, Option, Some, None, Ok, Err}
use Rattle.std.proofs.Common.{refl, sym, ap, ◌∙◌, arith}
use Rattle.std.proofs.lemmas.List.{append-nil}
use Rattle.hdt_terms.specs.declared.fault.LineReason.TheVariants.{BadEscape}
use Rattle.hdt_terms.specs.Appending.{Appended, identity_bytes}
use Rattle.hdt_terms.specs.RawRequestParsing.{raw_escape_byte, raw_escape, raw_string_from, raw_string_at}
use Rattle.hdt_terms.specs.TermParsing.{stops, prepend_parsed}
use Rattle.hdt_terms.proofs.Appends.{appended}
use Rattle.hdt_terms.proofs.ContentReading.{front_err}
use Rattle.hdt_terms.proofs.ContentReading.{regroup}

-- what was read before and what is read here, joined
abbrev pub GoesOn : List ℕ → List ℕ → List ℕ → List ℕ → Type 0
GoesOn out rest old bytes = prepend_parsed out (raw_string_at rest) ≡ prepend_parsed old (raw_string_at bytes)

pub at_tab : (rest : List ℕ) → raw_string_at (9 ∷ rest) ≡ Ok ([], 9 ∷ rest)
unfolding raw_string_from
at_tab rest = refl

pub at_byte : (c : ℕ) (rest : List ℕ) → eqb c 9 ≡ false → eqb c 92 ≡ false
    → raw_string_at (c ∷ rest) ≡ prepend_parsed (c ∷ []) (raw_string_at rest)
unfolding raw_string_from
at_byte c rest e f = rw (e, f) refl

pub at_escape : (e b : ℕ) (rest : List ℕ) → raw_escape_byte e ≡ Some b
    → raw_string_at (92 ∷ e ∷ rest) ≡ prepend_parsed (b ∷ []) (raw_string_at rest)
unfolding raw_string_from
at_escape e b rest h = rw h refl

pub at_bad : (rest : List ℕ) → raw_escape rest rest ≡ stops BadEscape rest
    → raw_string_at (92 ∷ rest) ≡ stops BadEscape (92 ∷ rest)
unfolding raw_string_from
at_bad [] h = refl
at_bad (e ∷ rest) h = case (raw_escape_byte e) refl
  where
    case : (l : Option ℕ) → raw_escape_byte e ≡ l → raw_string_at (92 ∷ e ∷ rest) ≡ stops BadEscape (92 ∷ e ∷ rest)
    case None p = rw p refl
    case (Some b) p = absurd (let q = rw p at h in cc)

pub nothing_there : (rest : List ℕ) → length rest ≡ 0 → raw_string_at rest ≡ Ok ([], rest)
unfolding raw_string_from
nothing_there [] e = refl
nothing_there (c ∷ rest) e = absurd (omega arith)

module _ (out rest old bytes : List ℕ) (so_far : GoesOn out rest old bytes) where
  ends_here : raw_string_at rest ≡ Ok ([], rest) → Appended identity_bytes old out rest (raw_string_at bytes)
  ends_here e = appended old out rest (raw_string_at bytes) (sym so_far ∙ ap (prepend_parsed out) e
      ∙ ap (λ l. Ok (l, rest)) (append-nil out))

  pub tab_read : (tail : List ℕ) → rest ≡ 9 ∷ tail → Appended identity_bytes old out rest (raw_string_at bytes)
  tab_read tail e = ends_here (ap raw_string_at e ∙ at_tab tail ∙ ap (λ l. Ok ([], l)) (sym e))

  pub end_read : length rest ≡ 0 → Appended identity_bytes old out rest (raw_string_at bytes)
  end_read e = ends_here (nothing_there rest e)

  goes : (b : ℕ) (behind new : List ℕ) → raw_string_at rest ≡ prepend_parsed (b ∷ []) (raw_string_at behind)
      → new ≡ out ++ b ∷ [] → GoesOn new behind old bytes
  goes b behind new e grown = ap (λ l. prepend_parsed l (raw_string_at behind)) grown
      ∙ sym (regroup out (b ∷ []) (raw_string_at behind)) ∙ sym (ap (prepend_parsed out) e) ∙ so_far

  pub byte_goes : (c : ℕ) (tail new : List ℕ) → rest ≡ c ∷ tail → c ≢ 9 → c ≢ 92 → new ≡ out ++ c ∷ []
      → GoesOn new tail old bytes
  byte_goes c tail new e t s grown =
      goes c tail new (ap raw_string_at e ∙ at_byte c tail (ne_eqb c 9 t) (ne_eqb c 92 s)) grown

  pub escape_goes : (e b : ℕ) (tail behind new : List ℕ) → rest ≡ 92 ∷ tail → tail ≡ e ∷ behind
      → raw_escape_byte e ≡ Some b → new ≡ out ++ b ∷ [] → GoesOn new behind old bytes
  escape_goes e b tail behind new p q l grown =
      goes b behind new (ap raw_string_at (p ∙ ap (λ t. 92 ∷ t) q) ∙ at_escape e b behind l) grown

  pub bad_read : (tail : List ℕ) → rest ≡ 92 ∷ tail → raw_escape tail tail ≡ stops BadEscape tail
      → raw_string_at bytes ≡ Err (record { left = length rest; reason = BadEscape })
  bad_read tail p h =
      front_err old (raw_string_at bytes) _ (sym so_far
      ∙ ap (prepend_parsed out) (ap raw_string_at p ∙ at_bad tail h
      ∙ ap (λ l. Err (record { left = length l; reason = BadEscape })) (sym p)))
