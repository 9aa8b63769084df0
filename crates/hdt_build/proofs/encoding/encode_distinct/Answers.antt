use Rattle.hdt_wire.specs.declared.Role.TheVariants.{Subject, Predicate, Object}
use Rattle.hdt_build.specs.Inside.Rewriting.{lists_of_sections}
use Rattle.hdt_build.proofs.Denoting.{parts_form}
use Rattle.hdt_build.proofs.FilteredSections.{have_texts}
use Rattle.hdt_build.proofs.encoding.encode_distinct.Goals as goal

pub write_sections-requires : goal.write_sections-requires
write_sections-requires c =
    let are = rw (c.as_slice.ensures.value, c.len.ensures) at c.in_ok-flags.ensures in
    let texts = have_texts c.args.strings c.args.ids.items c.requires.texts in
    record {
      ascend = c.requires.ascend;
      long = are.long;
      subjects = texts Subject _ are.subjects;
      predicates = texts Predicate _ are.predicates;
      objects = texts Object _ are.objects;
      block = c.requires.block;
    }

pub map_ids-requires : goal.map_ids-requires
map_ids-requires c =
    let are = rw (c.as_slice.ensures.value, c.len.ensures) at c.in_ok-flags.ensures in
    let parts = c.in_ok-sections.ensures.sections c.args.ids.items c.requires.within are in
    let within = c.requires.within in
    record {
      subjects_within = rw (c.as_slice-2.ensures.value, parts.nodes_long) within.subjects;
      predicates_within = rw (c.as_slice-3.ensures.value, parts.predicates_long) within.predicates;
      objects_within = rw (c.as_slice-4.ensures.value, parts.nodes_long) within.objects;
    }

pub returns-clause-form : goal.returns-clause-form
returns-clause-form c =
    let are = rw (c.as_slice.ensures.value, c.len.ensures) at c.in_ok-flags.ensures in
    let parts = rw (
      c.in_ok-sections.sections-is,
      c.in_ok-sections.nodes-is,
      c.in_ok-sections.predicates-is,
    ) at (c.in_ok-sections.ensures.sections c.args.ids.items c.requires.within are) in
    let new = rw (
      c.as_slice-2.ensures.value,
      c.as_slice-3.ensures.value,
      c.as_slice-4.ensures.value,
      c.in_ok-sections.nodes-is,
      c.in_ok-sections.predicates-is,
    ) at c.map_ids.ensures in
    let form = parts_form c.args.strings c.args.ids.items
    (lists_of_sections c.in_ok-sections.sections) c.in_ok-sections.nodes.items c.in_ok-sections.predicates.items
    parts c.sort_dedup_triples.new.triples.items c.sort_dedup_triples.ensures.ascending
    (rw new at c.sort_dedup_triples.ensures.same) in
    rw c.in_ok-sections.sections-is form
