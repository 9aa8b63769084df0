use Rattle.std.proofs.Common.{option_copied, append-nil, ap, sym, ◌∙◌, ◌++◌}
use Rattle.hdt_front.specs.Strings.{strings_of}
use Rattle.hdt_dict.specs.RoleSections.{second_strings}
use Rattle.hdt_dict.proofs.PrefixLemmas.{one, two}
use Rattle.hdt_dict.proofs.dictionary.Dictionary.ids_with_prefix.Goals as goal

pub returns-in-None-clause-exact : goal.returns-in-None-clause-exact
returns-in-None-clause-exact c = λ n.
    let xs = strings_of c.sections_of-sections.result.first.now in let r = c.prefix_range-first.result in
    let same = sym (append-nil xs) ∙ ap (λ s. xs ++ second_strings (option_copied s)) (sym c.in-None.is)
    ∙ c.sections_of-sections.ensures.strings in
    rw (← same) (one xs c.args.prefix.now r.start r.end n c.prefix_range-first.ensures.range)

pub returns-in-Some-clause-exact : goal.returns-in-Some-clause-exact
returns-in-Some-clause-exact c = λ n.
    let xs = strings_of c.sections_of-sections.result.first.now in let r = c.prefix_range-first.result in let q =
    c.prefix_range-second.result in
    let same = ap (λ s. xs ++ second_strings (option_copied s)) (sym c.in-Some.is)
    ∙ c.sections_of-sections.ensures.strings in
    rw (← same) (two xs (strings_of c.in-Some.section.now) c.args.prefix.now r.start r.end q.start q.end n
    c.len-before.result c.len-before.ensures.is c.prefix_range-first.ensures.range
    c.prefix_range-second.ensures.range)
