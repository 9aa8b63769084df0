use Rattle.std.proofs.Common.{◌≡◌, ◌∙◌, append_assoc, arith, sym}
use Rattle.hdt_dict.specs.Laws.Members.{SameMembers-trans}
use Rattle.hdt_dict.specs.Laws.Split.{split_sections}
use Rattle.hdt_file.specs.Graph.{graph_view}
use Rattle.hdt_build.specs.Canonical.{canonical_file}
use Rattle.hdt_build.specs.Inside.Rewriting.{lists_of_sections}
use Rattle.hdt_build.specs.Layouts.{denoted_by}
use Rattle.hdt_build.proofs.BuiltForm.{form_sections, made_of}
use Rattle.hdt_build.proofs.Denoting.{some_triple}
use Rattle.hdt_build.proofs.DenotedStrings.{some_denoted, denoted_texts}
use Rattle.hdt_build.proofs.RewrittenSections.{rewritten_form}
use Rattle.hdt_build.proofs.SequencePushes.{many, sequences_are, some_y, some_z}
use Rattle.hdt_build.proofs.TripleRuns.{one_run}
use Rattle.hdt_build.proofs.rewriting.rewritten.Goals as goal

pub head_and_dictionary-requires-clause-sections : goal.head_and_dictionary-requires-clause-sections
head_and_dictionary-requires-clause-sections c =
    let g = graph_view c.args.graph.now in
    let texts = denoted_texts g c.is_graph.ensures in
    split_sections _ _ _ (lists_of_sections c.in_ok-sections.sections) c.in_ok-sections.ensures.rewritten.sections
    texts.subjects_are texts.predicates_are texts.objects_are

pub put-requires : goal.put-requires
put-requires c =
    let g = graph_view c.args.graph.now in
    let d = lists_of_sections c.in_ok-sections.sections in
    let m = c.in_ok-sequences.ensures in
    let form = rewritten_form g c.is_graph.ensures d _ c.in_ok-sections.ensures.rewritten m.triples m.ascending
    (SameMembers-trans _ _ _ m.same (one_run _ _ _ c.new-triples.ensures c.in_ok-append_triples.ensures)) in
    let some = some_triple (denoted_by g) d m.triples form (some_denoted g c.is_graph.ensures) in
    record { pairs = some_y _ _ m.sequences some; triples = some_z _ _ m.sequences some }

pub returns : goal.returns
unfolding canonical_file
returns c =
    let g = graph_view c.args.graph.now in
    let h = c.is_graph.ensures in
    let d = lists_of_sections c.in_ok-sections.sections in
    let m = c.in_ok-sequences.ensures in
    let ts = m.triples in
    let bytes = c.put.new.out.items in
    let form = rewritten_form g h d _ c.in_ok-sections.ensures.rewritten ts m.ascending
    (SameMembers-trans _ _ _ m.same (one_run _ _ _ c.new-triples.ensures c.in_ok-append_triples.ensures)) in
    let file : bytes ≡ canonical_file g.header c.args.block_size d ts =
    rw (
      c.in_ok-put.ensures,
      sequences_are ts _ m.sequences,
      c.in_ok-bytes.ensures,
      c.in_ok-sections.ensures.blocks.shared,
      c.header.ensures,
    ) (simp append_assoc) in
    made_of (denoted_by g) d ts g.header c.args.block_size bytes _ (some_denoted g h)
    (form_sections _ _ _ form (denoted_texts g h)) form file
    (c.counted_report-report.ensures d ts bytes c.lens-lens.ensures (c.len-count.ensures ∙ sym (many ts _ m.sequences))
    (omega (arith, c.len.ensures, c.put.new.out.ok.0)))
