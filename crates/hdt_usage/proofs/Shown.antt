-- The shown form of a line, in two parts.
use Rattle.std.proofs.Common.{◌≡◌, ◌++◌, ◌∙◌, ℕ, List, sym, ap, take, drop, length}
use Rattle.std.proofs.lemmas.Grind.{flat_map-append}
use Rattle.std.proofs.lemmas.List.{take-append-drop}
use Rattle.hdt_usage.specs.ShownLine.{shown, shown_byte, marked_text, marked_line}

pub shown_parts : (n : ℕ) (xs : List ℕ) → shown (take n xs) ++ shown (drop n xs) ≡ shown xs
shown_parts n xs = sym (flat_map-append shown_byte (take n xs) (drop n xs)) ∙ ap shown (take-append-drop n xs)

-- A line that was shown in two parts, and marked where the second begins.
pub marked_parts : (line all front : List ℕ) (n place width : ℕ) → front ≡ shown (take n line)
    → all ≡ front ++ shown (drop n line) → place ≡ length front
    → marked_text all place width ≡ marked_line line n width
marked_parts line all front n place width f a p =
    ap (λ x. marked_text x place width) (a ∙ ap (λ x. x ++ shown (drop n line)) f ∙ shown_parts n line)
    ∙ ap (λ x. marked_text (shown line) x width) (p ∙ ap (λ (x : List ℕ). length x) f)
