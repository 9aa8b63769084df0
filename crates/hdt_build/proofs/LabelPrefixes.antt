-- The prefixes that keep the blank nodes of several inputs apart.
use Rattle.std.proofs.Common.{◌≢◌, ◌<◌, ◌^◌, ◌%◌, ◌+◌, ◌++◌, ◌∷◌, ℕ, [], codes, zero, suc, arith, rules}
use Rattle.std.specs.Fmt.{decimal}
use Rattle.std.proofs.lemmas.Fmt.{IsAscii-decimal, decimal_by_steps}
use Rattle.std.proofs.lemmas.List.Elements.{All-append}
use Rattle.std.proofs.lemmas.Str.{IsUtf8-append, IsUtf8-from_ascii}
use Rattle.hdt_dict.specs.Strings.{IsDictionaryString}
use Rattle.hdt_wire.specs.Control.{HasNoZero}
use Rattle.hdt_build.specs.Relabelling.{apart_prefix}

digit : (n : ℕ) → HasNoZero ((48 + n) ∷ [])
digit n zero d lt is = absurd (omega (arith, is))
digit n (suc k) d lt is = absurd (omega (arith, lt))

no_zero_digits : (n : ℕ) → n < 2 ^ 64 → HasNoZero (decimal n)
no_zero_digits = decimal_by_steps (λ n ds. HasNoZero ds) (λ n small. digit n)
    (λ n ds large h. All-append (λ b. b ≢ 0) ds ((48 + n % 10) ∷ []) h (digit (n % 10)))

-- the prefix is UTF-8 without zero bytes
pub prefix_text : (n : ℕ) → n < 2 ^ 64 → IsDictionaryString (apart_prefix n)
prefix_text n small = record {
  utf8 = IsUtf8-append (codes "f" ++ decimal n) (codes "_") (IsUtf8-append (codes "f") (decimal n)
      (IsUtf8-from_ascii (codes "f") (search rules)) (IsUtf8-from_ascii (decimal n) (IsAscii-decimal n small)))
      (IsUtf8-from_ascii (codes "_") (search rules));
  no_zero = All-append (λ b. b ≢ 0) (codes "f" ++ decimal n) (codes "_")
      (All-append (λ b. b ≢ 0) (codes "f") (decimal n) (search rules) (no_zero_digits n small)) (search rules);
}
