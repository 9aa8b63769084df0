use Rattle.std.proofs.Common.{◌+◌, ◌∙◌, ap, arith, length, refl, sym}
use Rattle.hdt_dict.specs.Dictionary.{section_by_id}
use Rattle.hdt_dict.specs.Views.{dictionary_of}
use Rattle.hdt_file.proofs.NonTermLaws.{all_found, ended, given, is_none, located_count, non_term_found}
use Rattle.hdt_file.proofs.non_terms.append_non_terms.Goals as goal

pub strings-init : goal.strings-init
strings-init c = record {
  finds = λ more h. (more, h, refl);
  fits =
      omega (arith, located_count _ _ c.located_strings-strings.ensures, c.requires);
}

pub strings-preserved-in_ok-push : goal.strings-preserved-in_ok-push
strings-preserved-in_ok-push c =
    let l = c.strings in
    let w = l.strings in
    let new = c.next.new.self in
    let role = c.args.role in
    let first = given w new c.in-Some.place w.ahead (sym c.in_ok-place.ensures.place
    ∙ c.in-Some.is) c.in_ok-place.ensures.ok in
    let none = is_none role new.last c.string.result.now c.in_ok-is_term.field-0 c.if-not-branch.true c.string.ensures
    c.in_ok-is_term.ensures in
    record {
      finds = non_term_found role c.args.before l.number
          (l.number + 1) c.located_strings-strings.result.ahead w.ahead new.ahead _ c.args.found.now.items l.found.items
          c.push.new.self.items _ l.invariant.finds first refl none refl c.in_ok-push.ensures.items;
      fits = omega (arith, l.invariant.fits, ap length first);
    }

pub returns : goal.returns
returns c =
    let l = c.strings in
    let w = l.strings in
    all_found c.args.role c.args.before l.number (section_by_id (dictionary_of c.args.dictionary.now) c.args.section)
    c.located_strings-strings.result.ahead w.ahead c.args.found.now.items l.found.items
    c.located_strings-strings.ensures
    l.invariant.finds (ended w.ahead c.in_ok-place.field-0 c.in_ok-place.ensures.place (λ k. c.in_default.not-Some k))
