use Rattle.std.proofs.Common.{◌≡◌, ◌+◌, ◌-◌, ◌<◌, ◌≤◌, ◌∷◌, ◌++◌, [], cond, List, length}
use Rattle.hdt_wire.specs.Counted.{inner, failures}
use Rattle.hdt_terms.specs.LinesReader.{unread_input}
use Rattle.hdt_terms.specs.Documents.{DocumentLine}
use Rattle.hdt_terms.specs.Lint.{GainsBytes, faulty_lines_within}
use Rattle.hdt_terms.proofs.DocumentLines.{HasReadLines, Linted}
use Rattle.hdt_terms.proofs.lint.lint_document.Given as goal

-- The lines that have been checked, what the writers have gained, and what is pending.
abbrev pub invariant-lines : goal.invariant-lines
invariant-lines g l = record {
  linted : (lines : List DocumentLine)
      × HasReadLines l.lines (g.R.Read.remaining (inner l.fn.input))
      (unread_input l.lines (g.R.Read.remaining (inner l.input))) lines
      × Linted l.longest l.keep lines (g.K.Write.contents (inner l.fn.kept)) (g.K.Write.contents (inner l.kept))
      (g.T.Write.contents (inner l.fn.reported))
      (g.T.Write.contents (inner l.reported)) l.linter.kept.items l.linter.reported.items l.linter.faulty
      × (l.count ≡ length (faulty_lines_within l.longest lines))
      × ((before : List DocumentLine) (last : DocumentLine) → lines ≡ before ++ last ∷ []
      → length (faulty_lines_within l.longest before) < l.most);
  within : l.count ≤ l.most;
  keep : l.linter.keep ≡ l.keep;
  kept : failures l.kept ≡ failures l.fn.kept;
  reported : failures l.reported ≡ failures l.fn.reported;
  input : failures l.input ≡ failures l.fn.input;
  kept_count : GainsBytes l.written.0 (g.K.Write.contents (inner l.fn.kept)) (g.K.Write.contents (inner l.kept));
  reported_count : GainsBytes l.written.1 (g.T.Write.contents (inner l.fn.reported))
      (g.T.Write.contents (inner l.reported));
}

abbrev pub decreases-lines : goal.decreases-lines
decreases-lines g l = cond l.lines.ended 0 (l.lines.limit - l.lines.taken + 1)
