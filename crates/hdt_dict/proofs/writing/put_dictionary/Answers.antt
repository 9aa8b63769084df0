use Rattle.std.proofs.Common.{arith, length, sym, ap, ◌∙◌, subst}
use Rattle.std.specs.Result.{OnOk}
use Rattle.hdt_dict.specs.Dictionary.{IsDictionaryAt}
use Rattle.hdt_dict.specs.Writing.{canonical_dictionary_parts}
use Rattle.hdt_dict.specs.Split.{lists_of_parts}
use Rattle.hdt_dict.proofs.Appending.{dictionary_appended, on_ok_both}
use Rattle.hdt_dict.proofs.writing.put_dictionary.Goals as goal

pub returns-clause-dictionary : goal.returns-clause-dictionary
returns-clause-dictionary c =
    let a = c.args in
    let new = c.truncate_on_error.new.out in
    let d = (lists_of_parts a.parts.now) in
    subst (λ r. OnOk r (IsDictionaryAt (canonical_dictionary_parts a.block_size d (length a.out.now.items)) new.items
    (length a.out.now.items))) (sym c.truncate_on_error.ensures.same)
    (on_ok_both c.append_dictionary-appended.result
    (λ made same. dictionary_appended a.block_size d a.out.now.items new.items c.requires.block
    (omega (arith, c.ranges.block_size.fits)) c.requires.sections (omega (arith, new.ok.0, new.small))
    (ap (λ v. v.items) same ∙ made))
    c.append_dictionary-appended.ensures.ok c.truncate_on_error.ensures.ok)
