use Rattle.std.proofs.Common.{◌≡◌, ◌+◌, [], ◌∷◌, Option, ap, inl, inr, map, refl, rules, subst, sym, ℕ}
use Rattle.std.specs.Vec.Iter.{into_iter_items}
use Rattle.std.proofs.lemmas.Result.{err_from_is_err_and}
use Rattle.hdt_wire.specs.Counted.{inner}
use Rattle.hdt_build.specs.Documents.{AddsDocument, IsDocumentWith}
use Rattle.hdt_build.specs.Reading.{IfBuildFault, IsBuildFaultOf}
use Rattle.hdt_tool.specs.BuildInputs.{AddsInTurn, IfInput, ReadsInTurn, StopsReading}
use Rattle.hdt_tool.specs.Changes.{update}
use Rattle.hdt_tool.specs.SplitInputs.{Turn, first_turn, input_prefix}
use Rattle.hdt_tool.proofs.ScratchRuns.{fault_at, mixed, no_memory}
use Rattle.hdt_tool.proofs.SplitRuns.{none_left}
use Rattle.hdt_tool.proofs.scratch_build.collect_documents.Goals as goal

pub returns-in_err-builder-clause-stopped : goal.returns-in_err-builder-clause-stopped
returns-in_err-builder-clause-stopped g c =
    let p = err_from_is_err_and c.from_residual.result c.from_residual.ensures.1 in
    rw (p.1, p.2)
    (no_memory (first_turn c.args.blank_nodes) (map (λ input. g.R.Read.remaining input) c.args.inputs.items))

pub returns-in-Err-clause-stopped : goal.returns-in-Err-clause-stopped
returns-in-Err-clause-stopped g c =
    let mode = c.args.blank_nodes in
    let turn : Turn = record { mode = mode; first = c.inputs.first; number = c.inputs.number } in
    let stops = StopsReading (first_turn mode) (map (λ input. g.R.Read.remaining input) c.args.inputs.items) in
    let all : into_iter_items c.into_iter-input-iterator.result ≡ c.args.inputs.items = search rules in
    let here : into_iter_items c.inputs.input-iterator ≡ c.in-Some.input ∷ into_iter_items c.next.new.self =
    search rules in
    let read = ap (λ input. g.R.Read.remaining input) c.new-input.ensures.inner in
    subst (λ stop. IfInput stops stop) (sym c.collect_fault.ensures)
    (fault_at turn (g.R.Read.remaining c.in-Some.input) (g.R.Read.remaining (inner c.with_document.new.input))
    c.in-Err.fault stops
    (subst (λ i. IfBuildFault (IsBuildFaultOf i (g.R.Read.remaining (inner c.with_document.new.input)))
    c.in-Err.fault) read
    c.in-Err.ensures.fault)
    (λ fault is.
    subst (λ items. StopsReading (first_turn mode) (map (λ input. g.R.Read.remaining input) items) fault) all
    (c.inputs.invariant.2 fault
    (subst (λ items. StopsReading turn (map (λ input. g.R.Read.remaining input) items) fault) (sym here) (inl is)))))

pub returns-in_err-first-clause-stopped : goal.returns-in_err-first-clause-stopped
returns-in_err-first-clause-stopped g c =
    let mode = c.args.blank_nodes in
    let turn : Turn = record { mode = mode; first = c.inputs.first; number = c.inputs.number } in
    let fault = c.in_err-first.field-0.0 in
    let all : into_iter_items c.into_iter-input-iterator.result ≡ c.args.inputs.items = search rules in
    let here : into_iter_items c.inputs.input-iterator ≡ c.in-Some.input ∷ into_iter_items c.next.new.self =
    search rules in
    let read = ap (λ input. g.R.Read.remaining input) c.new-input.ensures.inner in
    let p = err_from_is_err_and c.from_residual-in_err-first.result c.from_residual-in_err-first.ensures.1 in
    rw (p.1, p.2)
    (subst (λ items. StopsReading (first_turn mode) (map (λ input. g.R.Read.remaining input) items) fault) all
    (c.inputs.invariant.2 fault
    (subst (λ items. StopsReading turn (map (λ input. g.R.Read.remaining input) items) fault) (sym here)
    (inl (mixed turn (g.R.Read.remaining c.in-Some.input) _ fault
    (subst (λ i. IsDocumentWith i c.in-Ok.made.1) read c.in-Ok.ensures.document)
    c.in_err-first.ensures.err.0 c.in_err-first.ensures.err.1)))))

pub inputs-preserved : goal.inputs-preserved
inputs-preserved g c =
    let mode = c.args.blank_nodes in
    let has = c.in-Ok.made.1 in
    let turn : Turn = record { mode = mode; first = c.inputs.first; number = c.inputs.number } in
    let next : Option ℕ → Turn = λ first. record { mode = mode; first = first; number = c.inputs.number + 1 } in
    let left = map (λ input. g.R.Read.remaining input) (into_iter_items c.next.new.self) in
    let here : into_iter_items c.inputs.input-iterator ≡ c.in-Some.input ∷ into_iter_items c.next.new.self =
    search rules in
    let read = ap (λ input. g.R.Read.remaining input) c.new-input.ensures.inner in
    let document = subst (λ i. IsDocumentWith i has) read c.in-Ok.ensures.document in
    let first = c.in_ok-first.ensures.ok.0 in
    let apart = c.in_ok-first.ensures.ok.1 in (
      λ known after rest. c.inputs.invariant.0 known after
          (subst (λ items. AddsInTurn turn (map (λ input. g.R.Read.remaining input) items)
          (update c.inputs.builder after))
          (sym here) (
            c.in-Ok.made.0,
            has,
            (subst (λ i. AddsDocument (input_prefix mode c.inputs.number) i c.inputs.builder c.in-Ok.made.0 has) read
                (subst (λ p. AddsDocument p (g.R.Read.remaining (inner c.new-input.result)) c.inputs.builder
                c.in-Ok.made.0 has)
                (search rules) (c.in-Ok.ensures.added known))),
            apart,
            subst (λ f. AddsInTurn (next f) left (update c.in-Ok.made.0 after)) first rest,
          )),
      λ rest. c.inputs.invariant.1
          (subst (λ items. ReadsInTurn turn (map (λ input. g.R.Read.remaining input) items)) (sym here)
          (has, document, apart, subst (λ f. ReadsInTurn (next f) left) first rest)),
      λ stop rest. c.inputs.invariant.2 stop
          (subst (λ items. StopsReading turn (map (λ input. g.R.Read.remaining input) items) stop) (sym here)
          (inr (has, document, apart, subst (λ f. StopsReading (next f) left stop) first rest))),
      search rules,
    )

pub returns-in_err-prefix-clause-stopped : goal.returns-in_err-prefix-clause-stopped
returns-in_err-prefix-clause-stopped g c =
    let p = err_from_is_err_and c.from_residual-in_err-prefix.result c.from_residual-in_err-prefix.ensures.1 in
    rw (p.1, p.2)
    (no_memory (first_turn c.args.blank_nodes) (map (λ input. g.R.Read.remaining input) c.args.inputs.items))

pub returns-clause-ok : goal.returns-clause-ok
returns-clause-ok g c known =
    let mode = c.args.blank_nodes in
    let turn : Turn = record { mode = mode; first = c.inputs.first; number = c.inputs.number } in
    let all : into_iter_items c.into_iter-input-iterator.result ≡ c.args.inputs.items = search rules in
    let ended : into_iter_items c.inputs.input-iterator ≡ [] =
    none_left (into_iter_items c.inputs.input-iterator) (search rules) in
    subst (λ items. AddsInTurn (first_turn mode) (map (λ input. g.R.Read.remaining input) items)
    (update [] c.inputs.builder)) all
    (c.inputs.invariant.0 known c.inputs.builder
    (subst (λ items. AddsInTurn turn (map (λ input. g.R.Read.remaining input) items)
    (update c.inputs.builder c.inputs.builder)) (sym ended) refl))
