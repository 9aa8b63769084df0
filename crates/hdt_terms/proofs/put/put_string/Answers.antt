use Rattle.std.proofs.Common.{subst}
use Rattle.hdt_terms.specs.declared.triple.Term.{Term}
use Rattle.hdt_terms.specs.Strings.{AppendsTermText, term_of_ref}
use Rattle.hdt_terms.proofs.StringTerms.{only}
use Rattle.hdt_terms.proofs.put.put_string.Goals as goal

pub returns-in_ok-put_term_ref-in-Some-clause-only : goal.returns-in_ok-put_term_ref-in-Some-clause-only
returns-in_ok-put_term_ref-in-Some-clause-only c =
    let lent = term_of_ref c.in-Some.term in
    λ term is same. subst (λ (t : Term). AppendsTermText t c.args.out.now.items c.put_term_ref.new.out.items
    c.kind_of.result) (only c.args.string.now lent term c.in-Some.ensures is same)
    (record { kind_is = c.kind_of.ensures; grown = c.in_ok-put_term_ref-in-Some.ensures.ok })
