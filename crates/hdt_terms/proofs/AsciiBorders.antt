-- Splitting UTF-8 at ASCII bytes.
use Rattle.std.proofs.Common.{ℕ, suc, Bool, true, false, cond, ◌≡◌, ◌<◌, ◌≤◌, List, [], ◌∷◌, ◌++◌, length, get_or, take}
use Rattle.std.proofs.Common.{drop, refl, sym, subst, arith, length-append, append_assoc, add-one, ◌-◌}
use Rattle.std.specs.Prelude.{IsUtf8}
use Rattle.std.specs.Str.{IsCharBoundary}
use Rattle.hdt_terms.specs.Chars.{is_whitespace}
use Rattle.hdt_terms.specs.TermParsing.{skip_whitespace}
use Rattle.std.proofs.lemmas.Str.{IsUtf8-take, IsUtf8-drop, IsCharBoundary-from_take, IsCharBoundary-before_ascii}
use Rattle.std.proofs.lemmas.Str.{IsCharBoundary-after_ascii}
use Rattle.std.proofs.lemmas.List.{take_at, drop_at, take_all}
use Rattle.std.proofs.Math.Seq.{get_or-append_seam}
use Rattle.hdt_terms.proofs.Ranges.{blank_ascii}

-- after an ASCII byte
pub behind_ascii : (c : ℕ) (bs : List ℕ) → c < 128 → IsUtf8 (c ∷ bs) → IsUtf8 bs
behind_ascii c bs ascii utf8 =
    IsUtf8-drop (c ∷ bs) 1 utf8 (IsCharBoundary-after_ascii (c ∷ bs) 0 utf8 (omega arith) ascii)

-- before one
pub before_ascii : (front : List ℕ) (c : ℕ) (bs : List ℕ) → c < 128 → IsUtf8 (front ++ c ∷ bs) → IsUtf8 front
before_ascii front c bs ascii utf8 =
    subst IsUtf8 (take_at front (c ∷ bs) (length front) refl)
    (IsUtf8-take (front ++ c ∷ bs) (length front) utf8
    (IsCharBoundary-before_ascii (front ++ c ∷ bs) (length front) (omega (arith, length-append front (c ∷ bs)))
    (subst (λ (b : ℕ). b < 128) (sym (get_or-append_seam front c bs 0)) ascii)))

-- before and after one
pub around_ascii : (front : List ℕ) (c : ℕ) (bs : List ℕ) → c < 128 → IsUtf8 (front ++ c ∷ bs)
    → IsUtf8 front × IsUtf8 bs
around_ascii front c bs ascii utf8 = (
  before_ascii front c bs ascii utf8,
  subst IsUtf8 (drop_at (front ++ c ∷ []) bs (suc (length front)) (omega (arith, length-append front (c ∷ []))))
      (subst (λ (text : List ℕ). IsUtf8 (drop (suc (length front)) text)) (sym (append_assoc front (c ∷ []) bs))
      (IsUtf8-drop (front ++ c ∷ bs) (suc (length front)) utf8
      (subst (IsCharBoundary (front ++ c ∷ bs)) (add-one (length front))
      (IsCharBoundary-after_ascii (front ++ c ∷ bs) (length front) utf8
      (omega (arith, length-append front (c ∷ bs)))
      (subst (λ (b : ℕ). b < 128) (sym (get_or-append_seam front c bs 0)) ascii))))),
)

-- after two of them at the front
pub behind_two : (bytes : List ℕ) → IsUtf8 bytes → 2 ≤ length bytes → get_or bytes 0 0 < 128 → get_or bytes 1 0 < 128
    → IsUtf8 (take (length bytes - 2) (drop 2 bytes))
behind_two [] utf8 len first second = absurd (omega arith)
behind_two (a ∷ []) utf8 len first second = absurd (omega arith)
behind_two (a ∷ b ∷ bs) utf8 len first second =
    subst IsUtf8 (sym (take_all (length (a ∷ b ∷ bs) - 2) bs (omega arith)))
    (behind_ascii b bs second (behind_ascii a (b ∷ bs) first utf8))

-- after whitespace
pub blanks_utf8 : (bs : List ℕ) → IsUtf8 bs → IsUtf8 (skip_whitespace bs)
blanks_utf8 [] utf8 = utf8
blanks_utf8 (c ∷ cs) utf8 = case (is_whitespace c) refl (blanks_utf8 cs)
  where
    case : (b : Bool) → is_whitespace c ≡ b → (IsUtf8 cs → IsUtf8 (skip_whitespace cs))
        → IsUtf8 (cond b (skip_whitespace cs) (c ∷ cs))
    case true e more = more (behind_ascii c cs (blank_ascii c e) utf8)
    case false e more = utf8

pub unblanked : (bs : List ℕ) (c : ℕ) (cs : List ℕ) → bs ≡ c ∷ cs → is_whitespace c ≡ false → skip_whitespace bs ≡ bs
unblanked bs c cs e h = rw e (rw h refl)

-- after a text
pub behind_text : (front rest : List ℕ) → IsUtf8 (front ++ rest) → IsUtf8 front → IsUtf8 rest
behind_text front rest whole utf8 =
    subst IsUtf8 (drop_at front rest (length front) refl)
    (IsUtf8-drop (front ++ rest) (length front) whole
    (IsCharBoundary-from_take (front ++ rest) (length front) whole (omega (arith, length-append front rest))
    (subst IsUtf8 (sym (take_at front rest (length front) refl)) utf8)))
