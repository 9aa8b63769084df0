use Rattle.std.proofs.Common.{refl, sym, subst}
use Rattle.hdt_terms.specs.Lines.{HasNoLineEnd}
use Rattle.hdt_terms.specs.LinesReader.{LinesState}
use Rattle.hdt_terms.specs.contracts.lines.Lines.{the_view}
use Rattle.hdt_terms.proofs.LineEndCounts.{take_held_is}
use Rattle.hdt_terms.proofs.lines.Lines.take_buffered.Goals as goal

pub returns : goal.returns
returns c =
    let back = sym c.self.view_is in
    rw (← c.self.view_is) (rw c.len-n.ensures
    (take_held_is (the_view c.self.inside) _ _
    (subst (λ (s : LinesState). HasNoLineEnd s.buffered) back c.requires.text)
    (rw c.len-n.ensures at c.skip.ensures) refl))
