use Rattle.std.proofs.Common.{refl, sym, ◌∙◌}
use Rattle.std.proofs.lemmas.Bool.{eqb-true}
use Rattle.hdt_file.proofs.RenderedTermLaws.{no_term}
use Rattle.hdt_file.proofs.term_tables.append_rendered.Goals as goal

pub returns-then-is_empty-clause-err : goal.returns-then-is_empty-clause-err
returns-then-is_empty-clause-err c =
    λ string is. (
      refl,
      refl,
      no_term c.args.role string c.args.rendered.now (eqb-true _ _ (sym c.is_empty.ensures ∙ c.if-is_empty.true)) is,
    )
