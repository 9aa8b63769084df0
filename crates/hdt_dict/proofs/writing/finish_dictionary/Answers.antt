use Rattle.std.proofs.Common.{arith, length, sym, ap, ◌∙◌, subst}
use Rattle.std.specs.Result.{OnOk}
use Rattle.hdt_dict.specs.Dictionary.{IsDictionaryAt}
use Rattle.hdt_dict.specs.Writing.{canonical_dictionary_parts}
use Rattle.hdt_dict.specs.Split.{lists_of_writers}
use Rattle.hdt_dict.proofs.Appending.{dictionary_appended, on_ok_both}
use Rattle.hdt_dict.proofs.writing.finish_dictionary.Goals as goal

pub returns-clause-dictionary : goal.returns-clause-dictionary
returns-clause-dictionary c =
    let a = c.args in
    let new = c.truncate_on_error.new.out in
    let d = (lists_of_writers a.shared a.subjects a.predicates a.objects) in
    subst (λ r. OnOk r (IsDictionaryAt (canonical_dictionary_parts a.shared.block_size d (length a.out.now.items))
    new.items (length a.out.now.items))) (sym c.truncate_on_error.ensures.same)
    (on_ok_both c.append_finished-appended.result
    (λ made same. dictionary_appended a.shared.block_size d a.out.now.items new.items
    c.block_size_is_valid.ensures.some (omega (arith, c.block_size_is_valid.ensures.fits)) c.requires.sections
    (omega (arith, new.ok.0, new.small)) (ap (λ v. v.items) same ∙ made))
    c.append_finished-appended.ensures.ok c.truncate_on_error.ensures.ok)
