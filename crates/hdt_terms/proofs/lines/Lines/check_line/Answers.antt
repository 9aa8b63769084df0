use Rattle.std.proofs.Common.{ap, subst, ◌∙◌, take}
use Rattle.std.specs.Prelude.{IsUtf8}
use Rattle.hdt_terms.specs.LineParsing.{is_blank_or_comment}
use Rattle.hdt_terms.specs.LinesReader.{LinesState}
use Rattle.hdt_terms.proofs.LineChecks.{looked, not_text}
use Rattle.hdt_terms.proofs.lines.Lines.check_line.Goals as goal

pub returns-then-is_text : goal.returns-then-is_text
returns-then-is_text c =
    let text_is = ap (take c.args.n) (c.as_slice.ensures ∙ ap (λ (s : LinesState). s.buffered) c.self.view_is) in
    looked c.args.self.now (take c.args.n c.args.self.now.buffered) c.is_blank_or_comment.result
    (c.requires.utf8 c.if-is_text.true) (c.is_blank_or_comment.ensures ∙ ap is_blank_or_comment text_is)

pub returns-in-Ok : goal.returns-in-Ok
returns-in-Ok c =
    let text_is = ap (take c.args.n) (c.as_slice.ensures ∙ ap (λ (s : LinesState). s.buffered) c.self.view_is) in
    looked c.args.self.now (take c.args.n c.args.self.now.buffered) c.is_blank_or_comment-in-Ok.result
    (subst IsUtf8 text_is c.in-Ok.ensures) (c.is_blank_or_comment-in-Ok.ensures ∙ ap is_blank_or_comment text_is)

pub returns-in-Err : goal.returns-in-Err
returns-in-Err c =
    let found = rw (c.as_slice.ensures, ap (λ (s : LinesState). s.buffered) c.self.view_is) at c.in-Err.ensures in
    not_text c.args.self.now (take c.args.n c.args.self.now.buffered) c.in-Err.field-0 c.fault.result found.0 found.1
    c.fault.ensures
