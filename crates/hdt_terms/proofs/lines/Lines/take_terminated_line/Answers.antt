use Rattle.std.proofs.Common.{◌∙◌, sym, ap, subst, ◌≡◌, ◌<◌, true, length, take, get_or, eqb}
use Rattle.hdt_terms.specs.Chars.{is_line_end}
use Rattle.hdt_terms.specs.Lines.{HasNoLineEnd}
use Rattle.hdt_terms.specs.LinesReader.{LinesState}
use Rattle.hdt_terms.proofs.LineEndCounts.{one_unless, take_ended_is}
use Rattle.hdt_terms.proofs.lines.Lines.take_terminated_line.Goals as goal

pub returns : goal.returns
returns c =
    let back = sym c.self.view_is in
    rw (← c.self.view_is) (take_ended_is _ c.args.n _ _ _
    (subst (λ (s : LinesState). c.args.n < length s.buffered) back c.requires.within)
    (subst (λ (s : LinesState). HasNoLineEnd (take c.args.n s.buffered)) back c.requires.text)
    (subst (λ (s : LinesState). is_line_end (get_or s.buffered c.args.n 0) ≡ true) back c.requires.end) c.skip.ensures
    (rw c.as_slice.ensures at (c.from.ensures ∙ one_unless _))
    (ap (λ l. eqb (get_or l c.args.n 0) 13) c.as_slice.ensures))
