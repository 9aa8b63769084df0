use Rattle.std.proofs.Common.{option_copied, length, length-append, ap, sym, arith}
use Rattle.hdt_front.specs.Strings.{strings_of}
use Rattle.hdt_dict.specs.RoleSections.{second_strings}
use Rattle.hdt_dict.proofs.Numbering.{place_within}
use Rattle.hdt_dict.proofs.role_sections.RoleSections.find_in_second.Goals as goal

pub overflow_add-result : goal.overflow_add-result
overflow_add-result c =
    let s = c.args.self.now in
    let within = place_within (strings_of c.in-Some.second.now) c.args.x.now c.in-Some-place_of.n
    (sym c.in-Some-place_of.ensures.place) in
    let same = ap (λ o. length (second_strings (option_copied o))) c.in-Some.is in
    omega (arith, within, same, s.few, length-append (strings_of s.first.now) (second_strings (option_copied s.second)))
