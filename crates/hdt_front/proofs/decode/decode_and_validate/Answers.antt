use Rattle.std.proofs.Common.{ap, sym, ◌∙◌, List, ℕ, drop, subst}
use Rattle.std.specs.Str.{is_utf8, IsCharBoundary}
use Rattle.hdt_front.proofs.Utf8.{from_character, behind_kept}
use Rattle.hdt_front.proofs.decode.decode_and_validate.Goals as goal

pub returns-then-start-kept-clause-tested : goal.returns-then-start-kept-clause-tested
returns-then-start-kept-clause-tested c =
    let old = c.args.string.now.items in
    let made = c.in_ok-decode_over.ensures.ok in
    c.is_ascii_or_utf8.ensures
    ∙ ap is_utf8 (sym (behind_kept old c.args.text.now c.args.kept c.character_start-start.result c.requires.within
    c.if-start-kept.true))
    ∙ from_character old c.args.text.now c.args.kept c.character_start-start.result c.requires.utf8 c.requires.within
    c.character_start-start.ensures.before
    (subst (λ (l : List ℕ). IsCharBoundary l c.character_start-start.result) c.deref.ensures.value
    c.character_start-start.ensures.boundary)
    ∙ sym (ap is_utf8 made)

pub returns-else-start-kept-clause-tested : goal.returns-else-start-kept-clause-tested
returns-else-start-kept-clause-tested c =
    let old = c.args.string.now.items in
    let made = c.in_ok-decode_over.ensures.ok in
    c.is_utf8.ensures
    ∙ ap is_utf8 (c.split_at.ensures.back
    ∙ ap (drop c.character_start-start.result) (c.deref-else-start-kept.ensures.value ∙ made))
    ∙ from_character old c.args.text.now c.args.kept c.character_start-start.result c.requires.utf8 c.requires.within
    c.character_start-start.ensures.before
    (subst (λ (l : List ℕ). IsCharBoundary l c.character_start-start.result) c.deref.ensures.value
    c.character_start-start.ensures.boundary)
    ∙ sym (ap is_utf8 made)
