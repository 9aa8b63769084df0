use Rattle.std.proofs.Common.{◌≡◌, ◌++◌, List, arith, subst}
use Rattle.std.specs.Prelude.{IfOk}
use Rattle.std.proofs.lemmas.Str.{IsUtf8-nil}
use Rattle.hdt_file.specs.Denoted.{StringTriple}
use Rattle.hdt_file.specs.Graph.{graph_view}
use Rattle.hdt_build.specs.Layouts.{denoted_by}
use Rattle.hdt_build.proofs.Relabelled.{unrelabelled_triples}
use Rattle.hdt_build.proofs.merging.Merger.with.Goals as goal

pub with_prefix-requires : goal.with_prefix-requires
with_prefix-requires c = record { utf8 = IsUtf8-nil; no_zero = λ k d lt. absurd (omega (arith, lt)) }

pub returns-clause-added : goal.returns-clause-added
returns-clause-added c =
    let g = graph_view c.args.graph.now in
    subst (λ (ts : List StringTriple). IfOk c.with_prefix.result (λ made. made ≡ c.args.self ++ ts))
    (unrelabelled_triples (denoted_by g)) c.with_prefix.ensures.added
