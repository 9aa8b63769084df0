use Rattle.std.proofs.Common.{◌+◌, sym, subst, ap, ◌∙◌, arith}
use Rattle.hdt_wire.specs.Control.{HasNoZero}
use Rattle.hdt_front.specs.WriterState.{last_string}
use Rattle.hdt_front.specs.Order.{lcp_len}
use Rattle.hdt_file.specs.Graph.{graph_view}
use Rattle.hdt_build.specs.Inside.Rewriting.{section_role}
use Rattle.hdt_build.proofs.PrefixOrder.{last_written}
use Rattle.hdt_build.proofs.DenotedStrings.{string_text}
use Rattle.hdt_build.proofs.sections.write_current.Goals as goal

pub push_with_lcp-requires : goal.push_with_lcp-requires
push_with_lcp-requires c =
    let run = c.args.run.now in
    let here = c.requires.run.here c.requires.there in
    record {
      no_zero = rw c.string.ensures
          (subst HasNoZero (sym here.last)
          (string_text (graph_view c.args.graph.now) c.is_graph.ensures (section_role c.args.section) (run.at + 1)
          (omega arith) (omega (arith, c.requires.there, c.requires.run.within))).no_zero);
      same = c.requires.lcp c.requires.there ∙ ap (lcp_len (last_string c.args.out.now)) (sym c.string.ensures);
    }

pub step-requires-clause-written : goal.step-requires-clause-written
step-requires-clause-written c =
    ap last_string c.in_ok-push_with_lcp.ensures.ok ∙ last_written c.args.out.now.strings c.string.result.now
    ∙ c.string.ensures
