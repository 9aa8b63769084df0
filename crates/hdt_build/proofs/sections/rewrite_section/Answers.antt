use Rattle.std.proofs.Common.{◌≡◌, ◌∙◌, ◌<◌, ℕ, List, length, ap, sym, refl, arith}
use Rattle.std.proofs.lemmas.List.{length_push}
use Rattle.hdt_front.specs.WriterState.{SectionWriterState}
use Rattle.hdt_front.specs.WriterState.{last_string}
use Rattle.hdt_front.specs.Order.{lcp_len}
use Rattle.hdt_front.specs.Laws.CommonPrefix.{lcp_symmetric}
use Rattle.hdt_file.specs.Graph.{graph_view}
use Rattle.hdt_build.proofs.PrefixOrder.{last_written, same_run}
use Rattle.hdt_build.proofs.SectionOfRuns.{text, put_begun, both_tell, first_put, second_put, all_put}
use Rattle.hdt_build.proofs.RunOrder.{cut_before, end_within}
use Rattle.hdt_build.proofs.sections.rewrite_section.Goals as goal
use Rattle.hdt_build.proofs.sections.rewrite_section.Goals.{then-has_current, else-has_current+then-has_current-2}

pub strings-init : goal.strings-init
strings-init c =
    let g = graph_view c.args.graph.now in
    let one = rw c.run_ends-cut.ensures.cut at c.in_ok-one.ensures.end in
    let two = rw c.run_ends-cut.ensures.end at c.in_ok-two.ensures.end in
    let from = rw c.run_ends-cut.ensures.cut at c.in_ok-two.ensures.run in
    record {
      one_is = c.in_ok-one.ensures.run.is_run;
      one_end = one;
      two_is = from.is_run;
      two_end = two;
      two_from = from.onward;
      one_same = λ there. c.in_ok-one.ensures.lcp
          ∙ ap (λ (w : SectionWriterState). lcp_len (last_string w) c.in_ok-one.one.strings.last)
          (sym c.new-out.ensures);
      two_same = λ there. c.in_ok-two.ensures.lcp
          ∙ ap (λ (w : SectionWriterState). lcp_len (last_string w) c.in_ok-two.two.strings.last)
          (sym c.new-out.ensures);
      work = rw c.new-out.ensures
          (put_begun g c.is_graph.ensures c.args.section c.args.ids_before c.args.ids.now.items c.in_ok-one.one
          c.in_ok-two.two c.in_ok-one.ensures.run from);
      block = ap (λ (w : SectionWriterState). w.block_size) c.new-out.ensures;
      few = rw c.new-out.ensures (omega (arith, one, two, from.onward, cut_before g c.is_graph.ensures c.args.section));
    }

pub comes_first-first-requires : goal.comes_first-first-requires
comes_first-first-requires c =
    let l = c.strings in
    let i = l.invariant in
    λ one_there two_there.
    both_tell (graph_view c.args.graph.now) c.is_graph.ensures c.args.section c.args.ids_before c.args.ids.now.items
    l.one l.two i.one_is i.one_end i.two_is i.two_end i.two_from l.out.strings l.ids.items i.work
    one_there two_there i.one_same i.two_same

pub strings-preserved-then-first : goal.strings-preserved-then-first
strings-preserved-then-first c =
    let l = c.strings in
    let i = l.invariant in
    let g = graph_view c.args.graph.now in
    let h = c.is_graph.ensures in
    let first = c.comes_first-first.ensures.first c.if-first.true in
    let run = c.in_ok-write_current.ensures.run in
    let last : last_string c.write_current.new.out ≡ c.strings.one.strings.last =
    ap last_string c.in_ok-write_current.ensures.string ∙ last_written c.strings.out.strings _
    ∙ sym (i.one_is.here first.0).last in
    record {
      one_is = run.is_run;
      one_end = c.in_ok-write_current.ensures.end ∙ i.one_end;
      two_is = same_run g c.args.section l.two c.comes_first-first.result.1 i.two_is;
      two_end = i.two_end;
      two_from = i.two_from;
      one_same = c.in_ok-write_current.ensures.lcp;
      two_same = λ there. c.comes_first-first.ensures.lcp first.0 there
          ∙ ap (λ (x : List ℕ). lcp_len x c.strings.two.strings.last) (sym last);
      work = rw (c.in_ok-write_current.ensures.string, c.in_ok-write_current.ensures.id)
          (first_put g h c.args.section c.args.ids_before c.args.ids.now.items l.one l.two i.one_is i.one_end i.two_is
          i.two_end i.two_from l.out.strings l.ids.items i.work
          c.write_current.new.run _ first.0 first.1 run
          (omega (
            arith,
            first.0,
            i.one_end,
            i.work.long,
            c.requires.long,
            cut_before g h c.args.section,
            end_within g h c.args.section,
          )) refl);
      block = ap (λ (w : SectionWriterState). w.block_size) c.in_ok-write_current.ensures.string ∙ i.block;
      few = omega (
        arith,
        first.0,
        run.onward,
        c.in_ok-write_current.ensures.end,
        i.few,
        ap (λ (w : SectionWriterState). length w.strings) c.in_ok-write_current.ensures.string,
        length_push l.out.strings (text g h c.args.section c.args.ids_before c.args.ids.now.items l.one.at),
      );
    }

pub strings-preserved : goal.strings-preserved
strings-preserved c =
    let l = c.strings in
    let i = l.invariant in
    let g = graph_view c.args.graph.now in
    let h = c.is_graph.ensures in
    let second = c.comes_first-first.ensures.second c.if-first.false in
    let there : l.two.at < l.two.end = elim c.if-has_current.branch [
      | then-has_current w ↦ (second (c.has_current.ensures.there w.if-has_current.true)).0
      | else-has_current+then-has_current-2 w ↦ w.has_current-else-has_current.ensures.there w.if-has_current-2.true
    ] in
    let run = c.in_ok-write_current-2.ensures.run in
    let last : last_string c.write_current-else-first.new.out ≡ c.strings.two.strings.last =
    ap last_string c.in_ok-write_current-2.ensures.string ∙ last_written c.strings.out.strings _
    ∙ sym (i.two_is.here there).last in
    record {
      one_is = same_run g c.args.section l.one c.comes_first-first.result.1 i.one_is;
      one_end = i.one_end;
      two_is = run.is_run;
      two_end = c.in_ok-write_current-2.ensures.end ∙ i.two_end;
      two_from = omega (arith, i.two_from, run.onward);
      one_same = λ one_there.
          c.comes_first-first.ensures.lcp one_there there
          ∙ lcp_symmetric c.strings.one.strings.last c.strings.two.strings.last
          ∙ ap (λ (x : List ℕ). lcp_len x c.strings.one.strings.last) (sym last);
      two_same = c.in_ok-write_current-2.ensures.lcp;
      work = rw (c.in_ok-write_current-2.ensures.string, c.in_ok-write_current-2.ensures.id)
          (second_put g h c.args.section c.args.ids_before c.args.ids.now.items l.one l.two i.one_is i.one_end i.two_is
          i.two_end i.two_from l.out.strings l.ids.items i.work
          c.write_current-else-first.new.run _ there (λ lt. (second lt).1) run
          (omega (arith, there, i.two_end, i.work.long, c.requires.long, end_within g h c.args.section)) refl);
      block = ap (λ (w : SectionWriterState). w.block_size) c.in_ok-write_current-2.ensures.string ∙ i.block;
      few = omega (
        arith,
        there,
        run.onward,
        c.in_ok-write_current-2.ensures.end,
        i.few,
        ap (λ (w : SectionWriterState). length w.strings) c.in_ok-write_current-2.ensures.string,
        length_push l.out.strings (text g h c.args.section c.args.ids_before c.args.ids.now.items l.two.at),
      );
    }

pub returns-clause-rewritten : goal.returns-clause-rewritten
returns-clause-rewritten c =
    let l = c.strings in
    let i = l.invariant in
    all_put (graph_view c.args.graph.now) c.is_graph.ensures c.args.section c.args.ids_before c.args.ids.now.items l.one
    l.two i.one_is i.one_end i.two_is i.two_end i.two_from l.out.strings l.ids.items i.work
    (c.has_current.ensures.over c.if-has_current.false)
    (c.has_current-else-has_current.ensures.over c.if-has_current-2.false)

pub returns-clause-long : goal.returns-clause-long
returns-clause-long c = c.strings.invariant.work.long ∙ c.requires.long
