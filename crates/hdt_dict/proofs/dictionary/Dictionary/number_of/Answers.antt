use Rattle.std.proofs.Common.{◌++◌, option_copied}
use Rattle.hdt_front.specs.Strings.{strings_of}
use Rattle.hdt_dict.specs.RoleSections.{second_strings}
use Rattle.hdt_dict.proofs.Dictionaries.{distinct_role}
use Rattle.hdt_dict.proofs.Numbering.{inverse}
use Rattle.hdt_dict.proofs.dictionary.Dictionary.number_of.Goals as goal

pub returns-clause-exact : goal.returns-clause-exact
returns-clause-exact c = λ n.
    let s = c.sections_of.result in
    rw (← c.sections_of.ensures.strings)
    (inverse (strings_of s.first.now ++ second_strings (option_copied s.second)) c.args.x.now c.find.result n
    (distinct_role s) c.find.ensures.is)
