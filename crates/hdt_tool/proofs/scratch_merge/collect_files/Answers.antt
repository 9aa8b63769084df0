use Rattle.std.proofs.Common.{◌≡◌, ◌∙◌, ◌++◌, [], ◌∷◌, ap, inl, inr, map, refl, rules, subst, sym}
use Rattle.std.specs.Vec.Iter.{into_iter_items}
use Rattle.hdt_build.specs.Layouts.{denoted_by}
use Rattle.hdt_build.specs.Relabelling.{relabelled_triples}
use Rattle.hdt_tool.specs.Changes.{change, update}
use Rattle.hdt_tool.specs.MergeInputs.{MergesInTurn, StopsMerging}
use Rattle.hdt_tool.specs.SplitInputs.{input_prefix}
use Rattle.hdt_tool.proofs.MergeRuns.{file_with}
use Rattle.hdt_tool.proofs.SplitRuns.{none_left}
use Rattle.hdt_tool.proofs.scratch_merge.collect_files.Goals as goal

pub inputs-init : goal.inputs-init
inputs-init g c = (([], λ known. c.in_ok-builder.ensures, λ after rest. rest), λ k fault rest. rest, search rules)

pub returns-in-Err-clause-stopped : goal.returns-in-Err-clause-stopped
returns-in-Err-clause-stopped g c =
    let number = c.inputs.number in
    let all : into_iter_items c.into_iter-input-iterator.result ≡ c.args.inputs.items = search rules in
    let here : into_iter_items c.inputs.input-iterator ≡ c.in-Some.input ∷ into_iter_items c.next.new.self =
    search rules in
    let read = change g.R.Read.remaining c.new-input.result c.collect_file.new.input in
    let begun = ap (λ input. g.R.Read.remaining input) c.new-input.ensures.inner in
    subst (λ items. StopsMerging 0 (map (λ input. g.R.Read.remaining input) items) number c.in-Err.fault) all
    (c.inputs.invariant.1 number c.in-Err.fault
    (subst (λ items. StopsMerging number (map (λ input. g.R.Read.remaining input) items) number c.in-Err.fault)
    (sym here)
    (inl (refl, (read, begun, c.in-Err.ensures.reported)))))

pub inputs-preserved : goal.inputs-preserved
inputs-preserved g c =
    let mode = c.args.blank_nodes in
    let number = c.inputs.number in
    let triples = c.inputs.invariant.0.0 in
    let here : into_iter_items c.inputs.input-iterator ≡ c.in-Some.input ∷ into_iter_items c.next.new.self =
    search rules in
    let read = change g.R.Read.remaining c.new-input.result c.collect_file.new.input in
    let begun = ap (λ input. g.R.Read.remaining input) c.new-input.ensures.inner in
    let file = rw c.in-Ok-Ok.field-0-is at c.in-Ok-Ok.ensures.ok in
    let more = relabelled_triples (input_prefix mode number) (denoted_by file.holds.graph) in (
      (
        triples ++ more,
        λ known. file.holds.holds known ∙ ap (λ ts. ts ++ more) (c.inputs.invariant.0.1 known),
        λ after rest. c.inputs.invariant.0.2 after
            (subst (λ items. MergesInTurn mode number (map (λ input. g.R.Read.remaining input) items)
            (update triples after)) (sym here)
            (file_with (g.R.Read.remaining c.in-Some.input) read _ _ begun file rest)),
      ),
      λ k fault rest. c.inputs.invariant.1 k fault
          (subst (λ items. StopsMerging number (map (λ input. g.R.Read.remaining input) items) k fault) (sym here)
          (inr (file_with (g.R.Read.remaining c.in-Some.input) read _ _ begun file tt, rest))),
      search rules,
    )

pub returns-clause-ok : goal.returns-clause-ok
returns-clause-ok g c =
    let mode = c.args.blank_nodes in
    let triples = c.inputs.invariant.0.0 in
    let all : into_iter_items c.into_iter-input-iterator.result ≡ c.args.inputs.items = search rules in
    let ended : into_iter_items c.inputs.input-iterator ≡ [] =
    none_left (into_iter_items c.inputs.input-iterator) (search rules) in (
      triples,
      subst (λ items. MergesInTurn mode 0 (map (λ input. g.R.Read.remaining input) items) (update [] triples)) all
          (c.inputs.invariant.0.2 triples
          (subst (λ items. MergesInTurn mode c.inputs.number (map (λ input. g.R.Read.remaining input) items)
          (update triples triples)) (sym ended) refl)),
      c.inputs.invariant.0.1,
    )
