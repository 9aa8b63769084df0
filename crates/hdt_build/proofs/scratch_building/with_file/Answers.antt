use Rattle.std.proofs.lemmas.Result.{IfOk-weaker}
use Rattle.std.proofs.Common.{◌∙◌, ◌++◌, List, ap}
use Rattle.hdt_file.specs.Denoted.{StringTriple}
use Rattle.hdt_file.specs.Graph.{layout_view}
use Rattle.hdt_build.specs.Layouts.{denoted_by}
use Rattle.hdt_build.specs.Relabelling.{relabelled_triples}
use Rattle.hdt_build.proofs.scratch_building.with_file.Goals as goal

pub returns-then-branch-clause-added : goal.returns-then-branch-clause-added
returns-then-branch-clause-added g c known =
    let added = relabelled_triples c.args.prefix.now (denoted_by (layout_view c.args.layout.now)) in
    c.in_ok-add_file.ensures.added c.if-branch.true known
    ∙ ap (λ (l : List StringTriple). l ++ added) (c.in_ok-flush.ensures.same known)

pub returns-clause-added : goal.returns-clause-added
returns-clause-added g c =
    let added = relabelled_triples c.args.prefix.now (denoted_by (layout_view c.args.layout.now)) in
    IfOk-weaker c.in_windows-2.result _ _
    (λ made is known. is known
    ∙ ap (λ (l : List StringTriple). l ++ added)
    (c.in_ok-add_file.ensures.none c.if-branch.false known ∙ c.in_ok-flush.ensures.same known))
    c.in_windows-2.ensures.added
