use Rattle.std.proofs.Common.{◌≡◌, ◌++◌, length, map, take}
use Rattle.hdt_dict.specs.Dictionary.{role_strings}
use Rattle.hdt_file.specs.Graph.{layout_view}
use Rattle.hdt_build.specs.Inside.Records.{record_of}
use Rattle.hdt_build.specs.Inside.Rewriting.{IsProgressOf}
use Rattle.hdt_build.specs.Relabelling.{relabelled}
use Rattle.hdt_build.proofs.file_batch.write_records.Given as goal

abbrev pub invariant-strings : goal.invariant-strings
invariant-strings g l =
    let all = role_strings (layout_view l.layout).dictionary l.fn.role in
    record {
      progress : IsProgressOf all l.strings;
      added : g.S.Scratch.IsKnown → l.runs ++ l.run
          ≡ l.fn.runs ++ map (λ x. record_of l.fn.role (relabelled l.prefix x)) (take l.strings.given all);
    }

abbrev pub decreases-strings : goal.decreases-strings
decreases-strings g l = length l.strings.ahead
