use Rattle.std.proofs.Common.{◌∙◌, ℕ, ap, length, subst, sym}
use Rattle.hdt_build.specs.Inside.Filtering.{HaveLength}
use Rattle.hdt_build.proofs.EncodedRuns.{mapped_below, object_texts, predicate_texts, runs_form, subject_texts}
use Rattle.hdt_build.proofs.EncodedRuns.{within_names, within_nodes}
use Rattle.hdt_build.proofs.encoding.encode_runs.Goals as goal

pub ranked_flags-requires : goal.ranked_flags-requires
ranked_flags-requires c =
    let many = sym (ap length c.as_slice.ensures.value) ∙ c.as_slice.ensures.len in
    let are = rw c.len.ensures at c.in_ok-index_flags.ensures in
    rw c.as_slice.ensures.value
    (subst (λ (n : ℕ). HaveLength n c.in_ok-index_flags.index_flags) (sym many) are.long)

pub write_sections-requires : goal.write_sections-requires
write_sections-requires c =
    let many = sym (ap length c.as_slice.ensures.value) ∙ c.as_slice.ensures.len in
    let are = rw c.len.ensures at c.in_ok-index_flags.ensures in
    let long = rw c.len-2.ensures at c.in_ok-flags.ensures.len in
    let ranked = rw c.as_slice.ensures.value at c.in_ok-flags.ensures.exact in
    let ranks = c.in_ok-strings.ensures.ranks in
    record {
      ascend = c.in_ok-strings.ensures.ascend;
      long = long;
      subjects = subject_texts _ _ _ ranks _ c.requires.within _ many _ _ are long ranked c.requires.texts;
      predicates = predicate_texts _ _ _ ranks _ c.requires.within _ many _ _ are long ranked c.requires.texts;
      objects = object_texts _ _ _ ranks _ c.requires.within _ many _ _ are long ranked c.requires.texts;
      block = c.requires.block;
    }

pub mapped_numbers-requires : goal.mapped_numbers-requires
mapped_numbers-requires c =
    let many = sym (ap length c.as_slice.ensures.value) ∙ c.as_slice.ensures.len in
    let are = rw c.len.ensures at c.in_ok-index_flags.ensures in
    let long = rw c.len-2.ensures at c.in_ok-flags.ensures.len in
    let ranked = rw c.as_slice.ensures.value at c.in_ok-flags.ensures.exact in
    rw (c.as_slice-2.ensures.value, c.as_slice-3.ensures.value)
    (within_names _ _ _ c.in_ok-strings.ensures.ranks _ c.requires.within _ many _ _ are long ranked _ _ _
    c.in_ok-sections.ensures.sections)

pub mapped_numbers-requires-2 : goal.mapped_numbers-requires-2
mapped_numbers-requires-2 c =
    let many = sym (ap length c.as_slice.ensures.value) ∙ c.as_slice.ensures.len in
    let are = rw c.len.ensures at c.in_ok-index_flags.ensures in
    let long = rw c.len-2.ensures at c.in_ok-flags.ensures.len in
    let ranked = rw c.as_slice.ensures.value at c.in_ok-flags.ensures.exact in
    rw (c.as_slice-4.ensures.value, c.as_slice-5.ensures.value)
    (within_nodes _ _ _ c.in_ok-strings.ensures.ranks _ c.requires.within _ many _ _ are long ranked _ _ _
    c.in_ok-sections.ensures.sections)

pub sorted_runs-requires : goal.sorted_runs-requires
sorted_runs-requires c =
    let ranks = c.in_ok-strings.ensures.ranks in
    let nodes = rw c.as_slice-4.ensures.value at c.in_ok-node_ids.ensures in
    let names = rw c.as_slice-2.ensures.value at c.in_ok-predicate_ids.ensures in
    record {
      nodes = mapped_below _ _ _ ranks _ c.requires.within _ _ (c.as_slice-6.ensures.value ∙ nodes);
      predicates = mapped_below _ _ _ ranks _ c.requires.within _ _ (c.as_slice-7.ensures.value ∙ names);
    }

pub returns-clause-form : goal.returns-clause-form
returns-clause-form c =
    let many = sym (ap length c.as_slice.ensures.value) ∙ c.as_slice.ensures.len in
    let are = rw c.len.ensures at c.in_ok-index_flags.ensures in
    let long = rw c.len-2.ensures at c.in_ok-flags.ensures.len in
    let ranked = rw c.as_slice.ensures.value at c.in_ok-flags.ensures.exact in
    let runs = rw (
      c.as_slice-6.ensures.value,
      c.as_slice-7.ensures.value,
      c.in_ok-predicate_ids.ensures,
      c.in_ok-node_ids.ensures,
      c.as_slice-2.ensures.value,
      c.as_slice-3.ensures.value,
      c.as_slice-4.ensures.value,
      c.as_slice-5.ensures.value,
    ) at c.in_ok-runs.ensures in
    let triples = rw c.as_slice-8.ensures.value at c.in_ok-triples.ensures in
    runs_form _ _ _ c.in_ok-strings.ensures.ranks _ c.requires.within _ many _ _ are long ranked _ _ _
    c.in_ok-sections.ensures.sections _ _ triples runs
