use Rattle.std.proofs.Common.{◌≡◌, ◌++◌, length, map, take}
use Rattle.hdt_dict.specs.Dictionary.{role_strings}
use Rattle.hdt_file.specs.Graph.{graph_view}
use Rattle.hdt_build.specs.Inside.Rewriting.{IsProgressOf}
use Rattle.hdt_build.specs.Relabelling.{relabelled}
use Rattle.hdt_build.proofs.graph_strings.append_strings.Given as goal

abbrev pub invariant-strings : goal.invariant-strings
invariant-strings l =
    let all = role_strings (graph_view l.fn.graph).dictionary l.fn.role in
    record {
      progress : IsProgressOf all l.strings;
      added : l.terms ++ l.run ≡ l.fn.terms ++ map (relabelled l.fn.prefix) (take l.strings.given all);
    }

abbrev pub decreases-strings : goal.decreases-strings
decreases-strings l = length l.strings.ahead
