use Rattle.std.proofs.Common.{◌≡◌, ◌∙◌, inl, inr, ℕ, [], arith, get_or, refl, ap, sym}
use Rattle.std.proofs.lemmas.Bool.{cases_lt}
use Rattle.std.proofs.lemmas.List.{get_or_default}
use Rattle.hdt_build.proofs.record_merging.are_done.Goals as goal

pub loop-at-preserved : goal.loop-at-preserved
loop-at-preserved g c b lt =
    let here = get_or_default c.args.cursors.now c.loop-at.at [] c.index-cursors-at.result c.loop-at-test.true
    ∙ (sym c.index-cursors-at.is ∙ sym c.cursor.view_is) in
    elim (cases_lt b c.loop-at.at) [
      | inl before ↦ c.loop-at.invariant b before
      | inr le ↦
          let same : b ≡ c.loop-at.at = omega (arith, lt, le) in
          ap (λ (i : ℕ). get_or c.args.cursors.now i []) same ∙ (here ∙ rw c.if-cursor.false refl)
    ]

pub returns : goal.returns
returns g c t b lt = c.loop-at.invariant b (omega (arith, lt, c.loop-at-test.false))
