use Rattle.std.proofs.Common.{◌≡◌, ℕ, List, Some, None, ◌∷◌, suc, drop, sym, ap, subst, ◌∙◌}
use Rattle.hdt_terms.specs.declared.triple.Term.TheVariants.{Literal}
use Rattle.hdt_terms.specs.Strings.{IsTermOfString, IsSuffixOfString, suffix_of_ref}
use Rattle.hdt_terms.proofs.LastQuotes.{none_there}
use Rattle.hdt_terms.proofs.StringTerms.{no_quote_none, behind_one, literal_at, no_literal}
use Rattle.hdt_terms.proofs.term_refs.literal_of.Goals as goal

pub returns-in_err-at : goal.returns-in_err-at
returns-in_err-at c = rw c.from_residual.ensures
    (no_quote_none c.args.rest.now (none_there 34 c.args.rest.now c.in_err-at.ensures))

pub returns-in_err-suffix_of : goal.returns-in_err-suffix_of
returns-in_err-suffix_of c =
    let rest = c.args.rest.now in
    let k = c.in_ok-at.at in
    let behind : c.split_at-2.result.1.now ≡ drop (suc k) rest = c.split_at-2.ensures.back
    ∙ ap (drop 1) c.split_at.ensures.back ∙ behind_one k rest in
    rw c.from_residual-in_err-suffix_of.ensures
    (no_literal rest k c.in_ok-at.ensures
    (subst (λ (bs : List ℕ). IsSuffixOfString bs None) behind c.in_err-suffix_of.ensures))

pub returns : goal.returns
returns c =
    let rest = c.args.rest.now in
    let k = c.in_ok-at.at in
    let suffix = suffix_of_ref c.in_ok-suffix_of.field-0 in
    let behind : c.split_at-2.result.1.now ≡ drop (suc k) rest = c.split_at-2.ensures.back
    ∙ ap (drop 1) c.split_at.ensures.back ∙ behind_one k rest in
    subst (λ (bs : List ℕ). IsTermOfString (34 ∷ rest) (Some (Literal bs suffix))) (sym c.split_at.ensures.front)
    (literal_at rest k suffix c.requires c.in_ok-at.ensures
    (subst (λ (bs : List ℕ). IsSuffixOfString bs (Some suffix)) behind c.in_ok-suffix_of.ensures))
