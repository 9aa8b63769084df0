use Rattle.std.proofs.Common.{◌≡◌, ◌∙◌, ℕ, Bool, true, false, List, ◌++◌, length, take, ap, refl, sym}
use Rattle.std.specs.Str.{bytes_eq}
use Rattle.std.proofs.Math.Seq.{take-append_seam}
use Rattle.std.proofs.lemmas.Slice.Eq.{bytes_eq-Decides}
use Rattle.hdt_build.proofs.comparing.rest_after.Goals as goal

no_front : (part bytes front : List ℕ) (n : ℕ) (same : Bool) → n ≡ length part → front ≡ take n bytes
    → same ≡ bytes_eq front part → same ≡ false → (rest : List ℕ) → bytes ≡ part ++ rest → ⊥
no_front part bytes front n same long is_front is differs rest begins =
    let whole : front ≡ part = is_front ∙ ap (λ (k : ℕ). take k bytes) long ∙ ap (take (length part)) begins
    ∙ take-append_seam part rest in
    let equal : bytes_eq front part ≡ true = (bytes_eq-Decides front part).1 whole in
    let e : false ≡ true = sym differs ∙ is ∙ equal in absurd cc

pub returns-else-eq : goal.returns-else-eq
returns-else-eq c = no_front c.args.part.now c.args.bytes.now c.split_at.result.0.now (length c.args.part.now)
    c.eq.result refl c.split_at.ensures.front c.eq.ensures c.if-eq.false
