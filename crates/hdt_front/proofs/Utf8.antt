-- Checking UTF-8 of a string that shares a prefix with a UTF-8 string.
use Rattle.std.proofs.Common.{◌≡◌, ℕ, ◌≤◌, Bool, true, false, List, ◌++◌, length, take, drop, refl, sym, ap, subst, ◌∙◌}
use Rattle.std.proofs.Common.{arith, length-append, length-take}
use Rattle.std.specs.Str.{IsUtf8, is_utf8, IsCharBoundary}
use Rattle.std.proofs.Math.Seq.{drop-append_seam}
use Rattle.std.proofs.lemmas.Str.{is_utf8-from_IsUtf8, IsUtf8-from_is_utf8, IsUtf8-append, IsUtf8-take, IsUtf8-drop}
use Rattle.std.proofs.lemmas.Str.{IsCharBoundary-from_take, IsCharBoundary-start}
use Rattle.std.proofs.lemmas.List.{take-append-drop, take-take, take-append-le}

same_bool : (a b : Bool) → (a ≡ true → b ≡ true) → (b ≡ true → a ≡ true) → a ≡ b
same_bool true b f g = sym (f refl)
same_bool false true f g = g refl
same_bool false false f g = refl

-- It is UTF-8 exactly if its bytes from a character boundary in the shared prefix on are.
pub from_character : (before text : List ℕ) (kept at : ℕ) → is_utf8 before ≡ true → kept ≤ length before → at ≤ kept
    → IsCharBoundary before at
    → is_utf8 (drop at (take kept before ++ text)) ≡ is_utf8 (take kept before ++ text)
from_character before text kept at valid fits le cut =
    let s : List ℕ = take kept before ++ text in
    let front : take at s ≡ take at before =
    take-append-le at (take kept before) text (omega (arith, length-take kept before, le, fits))
    ∙ take-take at kept before le in
    let front_valid : IsUtf8 (take at s) =
    subst IsUtf8 (sym front) (IsUtf8-take before at (IsUtf8-from_is_utf8 before valid) cut) in
    same_bool (is_utf8 (drop at s)) (is_utf8 s)
    (λ e. is_utf8-from_IsUtf8 s
    (subst IsUtf8 (take-append-drop at s)
    (IsUtf8-append (take at s) (drop at s) front_valid (IsUtf8-from_is_utf8 (drop at s) e))))
    (λ e. let whole = IsUtf8-from_is_utf8 s e in
    is_utf8-from_IsUtf8 (drop at s)
    (IsUtf8-drop s at whole (IsCharBoundary-from_take s at whole
    (omega (arith, length-append (take kept before) text, length-take kept before, le, fits)) front_valid)))

-- Index 0 is a character boundary.
pub at_start : (string : List ℕ) (at : ℕ) → is_utf8 string ≡ true → at ≡ 0 → IsCharBoundary string at
at_start string at valid zero =
    subst (IsCharBoundary string) (sym zero) (IsCharBoundary-start string (IsUtf8-from_is_utf8 string valid))

pub behind_kept : (before text : List ℕ) (kept at : ℕ) → kept ≤ length before → at ≡ kept
    → drop at (take kept before ++ text) ≡ text
behind_kept before text kept at fits e =
    let size : at ≡ length (take kept before) = omega (arith, e, fits, length-take kept before) in
    ap (λ k. drop k (take kept before ++ text)) size ∙ drop-append_seam (take kept before) text
