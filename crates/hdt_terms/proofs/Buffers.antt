-- The part of a vector that a buffer exposes.
use Rattle.std.proofs.Common.{◌≡◌, ℕ, ◌+◌, ◌-◌, ◌≤◌, ◌<◌, List, length, drop, take, ◌++◌, Option, sym, ap, ◌∙◌, arith}
use Rattle.std.proofs.Math.Seq.{take-add}
use Rattle.std.proofs.lemmas.List.{drop-take, drop-drop, length-append, length-drop, length-take-le}
use Rattle.std.specs.Io.KnownBytes.{Consumes}
use Rattle.hdt_terms.specs.Inside.LineBuffer.{AppendsInput}

-- without its first n bytes
pub skipped : (xs buffered : List ℕ) (start end n : ℕ) → start ≤ end → end ≤ length xs
    → take (end - start) (drop start xs) ≡ buffered → n ≤ length buffered
    → take (end - (start + n)) (drop (start + n) xs) ≡ drop n buffered
skipped xs buffered start end n order within is le =
    let len : length buffered ≡ end - start = sym (ap length is)
    ∙ length-take-le (end - start) (drop start xs) (omega (arith, length-drop start xs)) in
    let more : end - start ≡ n + (end - (start + n)) = omega arith in
    sym (ap (drop n) (sym is) ∙ ap (λ k. drop n (take k (drop start xs))) more
    ∙ drop-take n (end - (start + n)) (drop start xs)
    ∙ ap (take (end - (start + n))) (drop-drop n start xs))

-- h bytes are at the front, and n more were read after them
pub read_grew : (old moved xs : List ℕ) (h n : ℕ) (before after : Option (List ℕ)) → take h moved ≡ old
    → h < length moved → take h xs ≡ take h moved → h + n ≤ length xs
    → Consumes before after (take n (drop h xs)) → AppendsInput old (take (h + n - 0) xs) before after
    × (length (take (h + n - 0) xs) ≡ length old + n)
read_grew old moved xs h n before after is lt front le consumed =
    let whole : take (h + n - 0) xs ≡ old ++ take n (drop h xs) = ap (λ k. take k xs) (omega arith) ∙ take-add h n xs
    ∙ ap (λ l. l ++ take n (drop h xs)) (front ∙ is) in (
      (take n (drop h xs), whole, consumed),
      ap length whole ∙ length-append old (take n (drop h xs))
          ∙ ap (λ k. length old + k) (length-take-le n (drop h xs) (omega (arith, length-drop h xs))),
    )
