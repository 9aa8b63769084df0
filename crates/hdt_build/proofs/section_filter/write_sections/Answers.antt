use Rattle.std.proofs.Common.{arith}
use Rattle.hdt_wire.specs.declared.Role.TheVariants.{Subject, Predicate, Object}
use Rattle.hdt_build.proofs.FilteredSections.{mark_uses, are_parts}
use Rattle.hdt_build.proofs.section_filter.write_sections.Goals as goal

pub write_filtered-requires-clause-texts : goal.write_filtered-requires-clause-texts
write_filtered-requires-clause-texts c = λ k lt keep. c.requires.subjects k (rw c.as_slice-s.ensures.value at keep.0)

pub write_filtered-requires-2-clause-texts : goal.write_filtered-requires-2-clause-texts
write_filtered-requires-2-clause-texts c = λ k lt keep. c.requires.subjects k (rw c.as_slice-s.ensures.value at keep.0)

pub write_filtered-requires-3-clause-texts : goal.write_filtered-requires-3-clause-texts
write_filtered-requires-3-clause-texts c =
    λ k lt keep. c.requires.predicates k (rw c.as_slice-p.ensures.value at keep.0)

pub write_filtered-requires-4-clause-texts : goal.write_filtered-requires-4-clause-texts
write_filtered-requires-4-clause-texts c = λ k lt keep. c.requires.objects k (rw c.as_slice-o.ensures.value at keep.0)

pub returns-clause-sections : goal.returns-clause-sections
returns-clause-sections c = λ ids below are.
    let a = rw (c.as_slice-s.ensures.value, c.as_slice-o.ensures.value) at c.in_ok-shared.ensures.filled in
    let b = rw (
      c.as_slice-s.ensures.value,
      c.as_slice-o.ensures.value,
      c.len-count.ensures,
    ) at c.in_ok-subjects.ensures.filled in
    let p = rw c.as_slice-p.ensures.value at c.in_ok-predicates.ensures.filled in
    let o = rw (
      c.as_slice-s.ensures.value,
      c.as_slice-o.ensures.value,
      c.len-count.ensures,
    ) at c.in_ok-objects.ensures.filled in
    let xs = c.args.strings.now in
    let marks = mark_uses xs ids c.requires.ascend below in
    are_parts xs ids c.requires.ascend below
    c.args.flags.now.subjects.items c.args.flags.now.predicates.items c.args.flags.now.objects.items
    (marks Subject _ are.long.subjects are.subjects)
    (marks Predicate _ are.long.predicates are.predicates)
    (marks Object _ are.long.objects are.objects)
    _ _ _ _ _ _ _ _ _ _ a b p o
    (omega (arith, c.in_ok-node_ids.ensures.len, c.in_ok-node_ids.node_ids.ok.0))
    (omega (arith, c.in_ok-predicate_ids.ensures.len, c.in_ok-predicate_ids.predicate_ids.ok.0))
