use Rattle.std.proofs.Common.{◌≡◌, ◌∷◌, [], ap, inl, map, refl, rules, subst, sym}
use Rattle.std.specs.Vec.Iter.{into_iter_items}
use Rattle.std.proofs.lemmas.Result.{err_from_is_err_and}
use Rattle.hdt_wire.specs.Counted.{inner}
use Rattle.hdt_tool.specs.Changes.{update}
use Rattle.hdt_tool.specs.SplitInputs.{Turn, first_turn}
use Rattle.hdt_build.specs.Reading.{IsBuildFaultOf}
use Rattle.hdt_tool.specs.BuildInputs.{AddsInTurn, IsFaultOfDocumentAt, StopsAdding, document_fault}
use Rattle.hdt_tool.specs.declared.splitting.SplitInputsFault.TheVariants.{OutOfMemory}
use Rattle.hdt_tool.proofs.DocumentRuns.{fault_of_document, mixed, no_memory}
use Rattle.hdt_tool.proofs.SplitRuns.{none_left}
use Rattle.hdt_tool.proofs.building_inputs.read_documents.Goals as goal

pub returns-in-Err-clause-stopped : goal.returns-in-Err-clause-stopped
returns-in-Err-clause-stopped g c =
    let mode = c.args.blank_nodes in
    let turn : Turn = record { mode = mode; first = c.inputs.first; number = c.inputs.number } in
    let fault = document_fault c.inputs.number c.in-Err.fault in
    let all : into_iter_items c.into_iter-input-iterator.result ≡ c.args.inputs.items = search rules in
    let here : into_iter_items c.inputs.input-iterator ≡ c.in-Some.input ∷ into_iter_items c.next.new.self =
    search rules in
    let read = ap (λ input. g.R.Read.remaining input) c.new-input.ensures.inner in
    subst (λ stop. StopsAdding (first_turn mode) (map (λ input. g.R.Read.remaining input) c.args.inputs.items) [] stop)
    (sym c.document_fault.ensures)
    (subst (λ items. StopsAdding (first_turn mode) (map (λ input. g.R.Read.remaining input) items) [] fault) all
    (c.inputs.invariant.1 fault
    (subst (λ items. StopsAdding turn (map (λ input. g.R.Read.remaining input) items) c.inputs.builder fault) (sym here)
    (inl (fault_of_document turn (g.R.Read.remaining c.in-Some.input)
    (g.R.Read.remaining (inner c.with_document.new.input)) c.in-Err.fault
    (subst (λ i. IsBuildFaultOf i (g.R.Read.remaining (inner c.with_document.new.input)) c.in-Err.fault) read
    c.in-Err.ensures.fault))))))

pub returns-in_err-first-clause-stopped : goal.returns-in_err-first-clause-stopped
returns-in_err-first-clause-stopped g c =
    let mode = c.args.blank_nodes in
    let turn : Turn = record { mode = mode; first = c.inputs.first; number = c.inputs.number } in
    let fault = c.in_err-first.field-0.0 in
    let all : into_iter_items c.into_iter-input-iterator.result ≡ c.args.inputs.items = search rules in
    let here : into_iter_items c.inputs.input-iterator ≡ c.in-Some.input ∷ into_iter_items c.next.new.self =
    search rules in
    let read = ap (λ input. g.R.Read.remaining input) c.new-input.ensures.inner in
    let p = err_from_is_err_and c.from_residual-in_err-first.result c.from_residual-in_err-first.ensures.1 in
    rw (p.1, p.2)
    (subst (λ items. StopsAdding (first_turn mode) (map (λ input. g.R.Read.remaining input) items) [] fault) all
    (c.inputs.invariant.1 fault
    (subst (λ items. StopsAdding turn (map (λ input. g.R.Read.remaining input) items) c.inputs.builder fault) (sym here)
    (inl (subst (λ i. IsFaultOfDocumentAt turn i fault) read
    (mixed turn _ _ c.inputs.builder _ _ fault c.in-Ok.ensures.added
    c.in_err-first.ensures.err.0 c.in_err-first.ensures.err.1))))))

pub returns-in_err-prefix-clause-stopped : goal.returns-in_err-prefix-clause-stopped
returns-in_err-prefix-clause-stopped g c =
    let mode = c.args.blank_nodes in
    let turn : Turn = record { mode = mode; first = c.inputs.first; number = c.inputs.number } in
    let all : into_iter_items c.into_iter-input-iterator.result ≡ c.args.inputs.items = search rules in
    let here : into_iter_items c.inputs.input-iterator ≡ c.in-Some.input ∷ into_iter_items c.next.new.self =
    search rules in
    let p = err_from_is_err_and c.from_residual-in_err-prefix.result c.from_residual-in_err-prefix.ensures.1 in
    rw (p.1, p.2)
    (subst (λ items. StopsAdding (first_turn mode) (map (λ input. g.R.Read.remaining input) items) [] OutOfMemory) all
    (c.inputs.invariant.1 OutOfMemory
    (subst (λ items. StopsAdding turn (map (λ input. g.R.Read.remaining input) items) c.inputs.builder OutOfMemory)
    (sym here) (inl tt))))

pub returns-clause-ok : goal.returns-clause-ok
returns-clause-ok g c =
    let mode = c.args.blank_nodes in
    let turn : Turn = record { mode = mode; first = c.inputs.first; number = c.inputs.number } in
    let all : into_iter_items c.into_iter-input-iterator.result ≡ c.args.inputs.items = search rules in
    let ended : into_iter_items c.inputs.input-iterator ≡ [] =
    none_left (into_iter_items c.inputs.input-iterator) (search rules) in
    subst (λ items. AddsInTurn (first_turn mode) (map (λ input. g.R.Read.remaining input) items)
    (update [] c.inputs.builder)) all
    (c.inputs.invariant.0 c.inputs.builder
    (subst (λ items. AddsInTurn turn (map (λ input. g.R.Read.remaining input) items)
    (update c.inputs.builder c.inputs.builder)) (sym ended) refl))

pub returns-in_err-builder-clause-stopped : goal.returns-in_err-builder-clause-stopped
returns-in_err-builder-clause-stopped g c =
    let p = err_from_is_err_and c.from_residual.result c.from_residual.ensures.1 in
    rw (p.1, p.2)
    (no_memory (first_turn c.args.blank_nodes) (map (λ input. g.R.Read.remaining input) c.args.inputs.items) [])
