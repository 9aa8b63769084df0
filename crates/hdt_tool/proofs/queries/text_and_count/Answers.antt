use Rattle.std.proofs.Common.{subst, sym}
use Rattle.hdt_file.specs.Graph.{layout_view}
use Rattle.hdt_tool.specs.Outcomes.{PrintsInPieces, PrintsWithCount}
use Rattle.hdt_tool.specs.declared.request.Action.{Action}
use Rattle.hdt_tool.proofs.Outputs.{counts_kept, counts_nothing, prints_text}
use Rattle.hdt_tool.proofs.queries.text_and_count.Goals as goal

pub returns-in_ok-kept_count-in-SkipNonTerms-clause-ok : goal.returns-in_ok-kept_count-in-SkipNonTerms-clause-ok
returns-in_ok-kept_count-in-SkipNonTerms-clause-ok c =
    let made = c.in_ok-kept_count-in-SkipNonTerms.field-0 in
    subst (λ (a : Action). PrintsWithCount a c.args.bytes.now made.0.items made.1) (sym c.in-SkipNonTerms.is)
    (counts_kept c.in-SkipNonTerms.given _ c.in-SkipNonTerms.most c.args.bytes.now made.0.items made.1
    (layout_view c.in_ok-layout-in-SkipNonTerms.layout)
    (subst (λ (a : Action). PrintsInPieces a → ⊥) c.in-SkipNonTerms.is c.requires.whole)
    c.in_ok-layout-in-SkipNonTerms.ensures.found c.in_ok-kept_count-in-SkipNonTerms.ensures)

pub returns-in-VerifyTerms-clause-ok : goal.returns-in-VerifyTerms-clause-ok
returns-in-VerifyTerms-clause-ok c = rw c.in-VerifyTerms.is c.verify_terms_text.ensures.ok

pub returns-in-VerifyTerms-clause-err : goal.returns-in-VerifyTerms-clause-err
returns-in-VerifyTerms-clause-err c = rw c.in-VerifyTerms.is c.verify_terms_text.ensures.err

pub file_text-requires : goal.file_text-requires
file_text-requires c = prints_text c.args.action.now c.requires.reads c.requires.whole
    c.in_default.not-SkipNonTerms c.in_default.not-VerifyTerms

pub returns-in_ok-file_text-in_default-clause-ok : goal.returns-in_ok-file_text-in_default-clause-ok
returns-in_ok-file_text-in_default-clause-ok c =
    counts_nothing c.args.action.now c.args.bytes.now c.in_ok-file_text-in_default.field-0.items
    (prints_text c.args.action.now c.requires.reads c.requires.whole
    c.in_default.not-SkipNonTerms c.in_default.not-VerifyTerms)
    c.in_ok-file_text-in_default.ensures.ok
