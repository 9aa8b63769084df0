use Rattle.std.proofs.Common.{◌≡◌, ◌+◌, ◌-◌, ◌≤◌, length}
use Rattle.hdt_front.specs.WriterState.{last_string}
use Rattle.hdt_file.specs.Denoted.{string_of}
use Rattle.hdt_file.specs.Graph.{graph_view}
use Rattle.hdt_build.specs.Inside.Rewriting.{section_role, RetainsId, first_run_end, second_run_end, IsValidRun}
use Rattle.hdt_build.specs.Inside.Rewriting.{HasPrefixLength}
use Rattle.hdt_build.proofs.RunMerging.{InWork, Ahead}
use Rattle.hdt_build.proofs.sections.rewrite_section.Given as goal

abbrev pub invariant-strings : goal.invariant-strings
invariant-strings l =
    let g = graph_view l.fn.graph in
    let p = l.fn.section in
    record {
      one_is : IsValidRun g p l.one;
      one_end : l.one.end ≡ first_run_end g p;
      two_is : IsValidRun g p l.two;
      two_end : l.two.end ≡ second_run_end g p;
      two_from : first_run_end g p ≤ l.two.at;
      one_same : HasPrefixLength (last_string l.out) l.one;
      two_same : HasPrefixLength (last_string l.out) l.two;
      work : InWork (λ k. RetainsId g p (k + 1)) (λ k. string_of g (section_role p) (k + 1))
          (Ahead l.one.at (first_run_end g p) l.two.at (second_run_end g p)) l.fn.ids_before l.out.strings
          l.fn.ids.items l.ids.items;
      block : l.out.block_size ≡ l.block_size;
      few : length l.out.strings + (l.one.end - l.one.at) + (l.two.end - l.two.at) ≤ second_run_end g p;
    }

abbrev pub decreases-strings : goal.decreases-strings
decreases-strings l = (l.one.end - l.one.at) + (l.two.end - l.two.at)
