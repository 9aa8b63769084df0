use Rattle.std.proofs.Common.{length, option_copied, sym, ap, ◌∙◌}
use Rattle.hdt_front.specs.Strings.{strings_of}
use Rattle.hdt_front.specs.StringIds.{id_of}
use Rattle.hdt_dict.specs.RoleSections.{second_strings}
use Rattle.hdt_dict.proofs.Numbering.{id_of-append, found_behind, in_two, missed_behind}
use Rattle.hdt_dict.proofs.role_sections.RoleSections.find.Goals as goal

pub returns-in-Some-clause-is : goal.returns-in-Some-clause-is
returns-in-Some-clause-is c =
    let s = c.args.self.now in
    sym (found_behind (strings_of s.first.now) (second_strings (option_copied s.second)) c.args.x.now c.in-Some.n
    s.apart (sym c.in-Some.ensures.is))

pub returns-in-None-clause-is : goal.returns-in-None-clause-is
returns-in-None-clause-is c =
    let s = c.args.self.now in
    c.place_of.ensures.place ∙ sym
    (missed_behind (strings_of s.first.now) (second_strings (option_copied s.second)) c.args.x.now
    (sym c.in-None.ensures.is))

pub returns-in-Some-place_of-clause-is : goal.returns-in-Some-place_of-clause-is
returns-in-Some-place_of-clause-is c =
    let xs = strings_of c.args.self.now.first.now in let ys = second_strings (option_copied c.args.self.now.second) in
    ap (λ r. in_two r (length xs) (id_of ys c.args.x.now)) c.in-Some-place_of.ensures.place
    ∙ sym (id_of-append xs ys c.args.x.now)

pub returns-in-None-place_of-clause-is : goal.returns-in-None-place_of-clause-is
returns-in-None-place_of-clause-is c =
    let xs = strings_of c.args.self.now.first.now in let ys = second_strings (option_copied c.args.self.now.second) in
    c.find_in_second-in-None-place_of.ensures.is
    ∙ ap (λ r. in_two r (length xs) (id_of ys c.args.x.now)) c.in-None-place_of.ensures.place
    ∙ sym (id_of-append xs ys c.args.x.now)
