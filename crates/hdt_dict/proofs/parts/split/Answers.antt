use Rattle.hdt_dict.specs.Split.{lists_of_parts}
use Rattle.hdt_dict.proofs.Splitting.{are_split}
use Rattle.hdt_dict.proofs.parts.split.Goals as goal

pub returns : goal.returns
unfolding lists_of_parts
returns c =
    let both = rw (c.as_slice-2.ensures.value, c.as_slice.ensures.value) at c.in_ok-both.ensures.both in
    let first = rw (c.as_slice-2.ensures.value, c.as_slice.ensures.value) at c.in_ok-both.ensures.first in
    let second = rw (c.as_slice-2.ensures.value, c.as_slice.ensures.value) at c.in_ok-both.ensures.second in
    let shared = rw (c.as_slice-3.ensures.value, both) at c.in_ok-shared.ensures in
    let subjects = rw (c.as_slice-4.ensures.value, first) at c.in_ok-subjects.ensures in
    let predicates = rw c.as_slice-5.ensures.value at c.in_ok-predicates.ensures in
    let objects = rw (c.as_slice-6.ensures.value, second) at c.in_ok-objects.ensures in
    are_split _ _ _ _ _ _ _ c.in_ok-all_subjects.ensures.same c.in_ok-all_predicates.ensures.same
    c.in_ok-all_objects.ensures.same
    c.in_ok-all_subjects.ensures.ascending c.in_ok-all_predicates.ensures.ascending
    c.in_ok-all_objects.ensures.ascending shared subjects objects predicates
