use Rattle.std.proofs.Common.{ℕ, subst}
use Rattle.hdt_wire.specs.declared.Role.TheVariants.{Subject, Object}
use Rattle.hdt_dict.specs.Views.{dictionary_of}
use Rattle.hdt_file.specs.NonTerms.{AreNonTermsOf}
use Rattle.hdt_file.proofs.NonTermLaws.{five, for_layout, objects_fit, shared_count, subjects_fit}
use Rattle.hdt_file.proofs.non_terms.non_terms.Goals as goal

pub append_non_terms-requires-2 : goal.append_non_terms-requires-2
append_non_terms-requires-2 c = subjects_fit c.args.layout.now c.lens.result c.lens.ensures

pub append_non_terms-requires-5 : goal.append_non_terms-requires-5
append_non_terms-requires-5 c = objects_fit c.args.layout.now c.lens.result c.lens.ensures

pub returns : goal.returns
returns c =
    let l = c.args.layout.now in
    let d = dictionary_of l.dictionary in
    let count = shared_count l c.lens.result c.lens.ensures in
    let one = c.in_ok-append_non_terms.ensures in
    let two = c.in_ok-append_non_terms-2.ensures in
    let three = c.in_ok-append_non_terms-3.ensures in
    let four = c.in_ok-append_non_terms-4.ensures in
    let last = c.in_ok-append_non_terms-5.ensures in
    for_layout l c.append_non_terms-5.new.found.items (record {
      shared_subjects = one.0;
      subjects = two.0;
      predicates = three.0;
      shared_objects = four.0;
      objects = last.0;
      are_shared_subjects = one.1;
      are_subjects = subst (λ (n : ℕ). AreNonTermsOf Subject n d.subjects two.0) count two.1;
      are_predicates = three.1;
      are_shared_objects = four.1;
      are_objects = subst (λ (n : ℕ). AreNonTermsOf Object n d.objects last.0) count last.1;
      whole = five c.new-all.result.items one.0 two.0 three.0 four.0 last.0 _ _ _ _ _ c.new-all.ensures.items one.2
          two.2 three.2 four.2 last.2;
    })
