use Rattle.std.proofs.Common.{arith}
use Rattle.hdt_dict.proofs.Dictionaries.{few_terms}
use Rattle.hdt_dict.proofs.dictionary.Dictionary.read.Goals as goal

pub returns-clause-few : goal.returns-clause-few
returns-clause-few c = λ role.
    let sh = c.in_ok-shared.ensures.end in let su = c.in_ok-subjects.ensures.end in
    let pr = c.in_ok-predicates.ensures.end in let ob = c.in_ok-objects.ensures.end in
    few_terms _ role _ (omega (arith, sh, su, pr, ob)) (omega (arith, sh, su, pr, ob)) (omega (arith, sh, su, pr, ob))
