use Rattle.std.proofs.Common.{length, ◌-◌, ◌≡◌}
use Rattle.hdt_wire.specs.ItemChecks.{checks_from}
use Rattle.hdt_file.specs.Graph.{graph_view, parts_of_graph}
use Rattle.hdt_dict.specs.Dictionary.{section_by_id}
use Rattle.hdt_file.specs.Tight.{check_string_used}
use Rattle.hdt_file.proofs.tight.check_section.Given as goal

abbrev pub invariant-strings : goal.invariant-strings
invariant-strings l =
    let d = (parts_of_graph l.graph).dictionary in
    let row = check_string_used d (graph_view l.graph).triples l.section in
    let count = length (section_by_id d l.section).strings in
    record {
      left : checks_from row l.i (count - l.i) ≡ checks_from row 0 count;
    }
