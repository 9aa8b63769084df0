use Rattle.std.proofs.Common.{◌≡◌, List, length, rules, subst}
use Rattle.std.proofs.lemmas.Result.{err_from_is_err_and}
use Rattle.hdt_file.specs.declared.non_terms.NonTerm.{NonTerm}
use Rattle.hdt_tool.specs.NonTermText.{term_verdict_lines}
use Rattle.hdt_tool.specs.declared.request.Action.TheVariants.{VerifyTerms}
use Rattle.hdt_tool.proofs.NonTermLaws.{open_fault}
use Rattle.hdt_tool.proofs.non_term_text.verify_terms_text.Goals as goal

pub returns-in_err-found-clause-err : goal.returns-in_err-found-clause-err
returns-in_err-found-clause-err c =
    let p = err_from_is_err_and c.from_residual.result c.from_residual.ensures.1 in
    rw (p.1, p.2) (open_fault (VerifyTerms c.args.tight) c.args.bytes.now c.in_err-found.field-0.0
    c.in_err-found.ensures.err)

pub returns-clause-ok : goal.returns-clause-ok
returns-clause-ok c =
    let text = c.in_ok-text.text.items in
    let found = c.in_ok-found.found in
    let counted : c.len.result ≡ length found.non_terms.items = search rules in
    record {
      verdict_of = found;
      is = c.in_ok-found.ensures.found;
      tight_is = c.in_ok-found.ensures.tight;
      printed =
          subst (λ (x : List NonTerm). text ≡ term_verdict_lines found.counts x) c.deref.ensures.value
          c.in_ok-text.ensures;
      counted = counted;
    }
