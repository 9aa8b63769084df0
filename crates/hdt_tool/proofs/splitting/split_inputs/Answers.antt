use Rattle.std.proofs.Common.{◌≡◌, ◌∙◌, ◌∷◌, ℕ, List, [], Option, ap, inl, map, refl, rules, subst, sym}
use Rattle.std.specs.Vec.Iter.{into_iter_items}
use Rattle.std.proofs.lemmas.Result.{err_from_is_err_and}
use Rattle.hdt_wire.specs.Counted.{inner, failures}
use Rattle.hdt_terms.specs.Split.{FailsOnce, SplitsInput}
use Rattle.hdt_terms.specs.declared.split.SplitFault.TheVariants.{Write}
use Rattle.hdt_tool.specs.Changes.{update}
use Rattle.hdt_tool.specs.SplitInputs.{IsBlankNodesFault, IsFaultOfInputAt, SplitsInTurn, StopsInTurn, Turn, first_turn}
use Rattle.hdt_tool.specs.declared.splitting.SplitInputsFault.TheVariants.{Input, OutOfMemory}
use Rattle.hdt_tool.proofs.SplitRuns.{fault_of_input, mixed, none_left, stops_at_fault}
use Rattle.hdt_tool.proofs.splitting.split_inputs.Goals as goal

pub returns-in-Err-clause-stopped : goal.returns-in-Err-clause-stopped
returns-in-Err-clause-stopped g c =
    let mode = c.args.blank_nodes in
    let turn : Turn = record { mode = mode; first = c.inputs.first; number = c.inputs.number } in
    let old = map (λ out. g.W.Write.contents (inner out)) c.args.outs.now in
    let before = map (λ out. g.W.Write.contents (inner out)) c.inputs.outs in
    let after = map (λ out. g.W.Write.contents (inner out)) c.split_document.new.outs in
    let fault = Input c.inputs.number c.in-Err.fault in
    let all : into_iter_items c.into_iter-input-iterator.result ≡ c.args.inputs.items = search rules in
    let here : into_iter_items c.inputs.input-iterator ≡ c.in-Some.input ∷ into_iter_items c.next.new.self =
    search rules in
    let read = ap (λ input. g.R.Read.remaining input) c.new-input.ensures.inner in
    subst (λ items. StopsInTurn (first_turn mode) (map (λ input. g.R.Read.remaining input) items) (update old after)
    fault) all
    (c.inputs.invariant.1 after fault
    (subst (λ items. StopsInTurn turn (map (λ input. g.R.Read.remaining input) items) (update before after) fault)
    (sym here)
    (inl (subst (λ (i : Option (List ℕ)). IsFaultOfInputAt turn i (update before after) fault) read
    (stops_at_fault turn c.deref.result.now _ _ (update before after) c.in-Err.fault
    (c.deref.ensures.value ∙ c.in_ok-prefix.ensures.is) c.in-Err.ensures.stopped)))))

pub returns-in_err-first-clause-stopped : goal.returns-in_err-first-clause-stopped
returns-in_err-first-clause-stopped g c =
    let mode = c.args.blank_nodes in
    let turn : Turn = record { mode = mode; first = c.inputs.first; number = c.inputs.number } in
    let old = map (λ out. g.W.Write.contents (inner out)) c.args.outs.now in
    let before = map (λ out. g.W.Write.contents (inner out)) c.inputs.outs in
    let after = map (λ out. g.W.Write.contents (inner out)) c.split_document.new.outs in
    let fault = c.in_err-first.field-0.0 in
    let all : into_iter_items c.into_iter-input-iterator.result ≡ c.args.inputs.items = search rules in
    let here : into_iter_items c.inputs.input-iterator ≡ c.in-Some.input ∷ into_iter_items c.next.new.self =
    search rules in
    let read = ap (λ input. g.R.Read.remaining input) c.new-input.ensures.inner in
    let p = err_from_is_err_and c.from_residual-in_err-first.result c.from_residual-in_err-first.ensures.1 in
    rw (p.1, p.2)
    (subst (λ items. StopsInTurn (first_turn mode) (map (λ input. g.R.Read.remaining input) items) (update old after)
    fault) all
    (c.inputs.invariant.1 after fault
    (subst (λ items. StopsInTurn turn (map (λ input. g.R.Read.remaining input) items) (update before after) fault)
    (sym here)
    (inl (subst (λ (i : Option (List ℕ)). IsFaultOfInputAt turn i (update before after) fault) read
    (mixed turn _ (update before after) c.in-Ok.report fault
    (subst
    (λ (p : List ℕ). SplitsInput p (g.R.Read.remaining (inner c.new-input.result)) before after c.in-Ok.report)
    (c.deref.ensures.value ∙ c.in_ok-prefix.ensures.is) c.in-Ok.ensures.ok)
    c.in_err-first.ensures.err.0 c.in_err-first.ensures.err.1))))))

pub returns-in-Err-clause-write : goal.returns-in-Err-clause-write
returns-in-Err-clause-write g c = λ k part same.
    subst (λ before. FailsOnce part before (map failures c.split_document.new.outs)) c.inputs.invariant.4
    (c.in-Err.ensures.write part (fault_of_input c.inputs.number k c.in-Err.fault (Write part) same))

pub returns-in-Err-clause-others : goal.returns-in-Err-clause-others
returns-in-Err-clause-others g c = λ other.
    c.in-Err.ensures.writer_reported (λ part same. other c.inputs.number part (ap (Input c.inputs.number) same))
    ∙ c.inputs.invariant.4

pub returns-in_err-first-clause-others : goal.returns-in_err-first-clause-others
returns-in_err-first-clause-others g c =
    let p = err_from_is_err_and c.from_residual-in_err-first.result c.from_residual-in_err-first.ensures.1 in
    rw (p.1, p.2) (λ other. c.in-Ok.ensures.writer_unfailed ∙ c.inputs.invariant.4)

pub returns-in_err-first-clause-write : goal.returns-in_err-first-clause-write
returns-in_err-first-clause-write g c =
    let p = err_from_is_err_and c.from_residual-in_err-first.result c.from_residual-in_err-first.ensures.1 in
    rw (p.1, p.2) (λ k part same. absurd
    (subst (IsBlankNodesFault c.args.blank_nodes c.inputs.first c.inputs.number) same c.in_err-first.ensures.err.0))

pub returns-clause-ok : goal.returns-clause-ok
returns-clause-ok g c =
    let mode = c.args.blank_nodes in
    let turn : Turn = record { mode = mode; first = c.inputs.first; number = c.inputs.number } in
    let old = map (λ out. g.W.Write.contents (inner out)) c.args.outs.now in
    let after = map (λ out. g.W.Write.contents (inner out)) c.inputs.outs in
    let all : into_iter_items c.into_iter-input-iterator.result ≡ c.args.inputs.items = search rules in
    let ended : into_iter_items c.inputs.input-iterator ≡ [] =
    none_left (into_iter_items c.inputs.input-iterator) (search rules) in
    subst (λ items. SplitsInTurn (first_turn mode) (map (λ input. g.R.Read.remaining input) items) (update old after))
    all
    (c.inputs.invariant.0 after
    (subst (λ items. SplitsInTurn turn (map (λ input. g.R.Read.remaining input) items) (update after after)) (sym ended)
    refl))

pub returns-in_err-prefix-clause-stopped : goal.returns-in_err-prefix-clause-stopped
returns-in_err-prefix-clause-stopped g c =
    let mode = c.args.blank_nodes in
    let turn : Turn = record { mode = mode; first = c.inputs.first; number = c.inputs.number } in
    let old = map (λ out. g.W.Write.contents (inner out)) c.args.outs.now in
    let before = map (λ out. g.W.Write.contents (inner out)) c.inputs.outs in
    let all : into_iter_items c.into_iter-input-iterator.result ≡ c.args.inputs.items = search rules in
    let here : into_iter_items c.inputs.input-iterator ≡ c.in-Some.input ∷ into_iter_items c.next.new.self =
    search rules in
    let p = err_from_is_err_and c.from_residual.result c.from_residual.ensures.1 in
    rw (p.1, p.2)
    (subst (λ items. StopsInTurn (first_turn mode) (map (λ input. g.R.Read.remaining input) items) (update old before)
    OutOfMemory) all
    (c.inputs.invariant.1 before OutOfMemory
    (subst (λ items. StopsInTurn turn (map (λ input. g.R.Read.remaining input) items) (update before before)
    OutOfMemory) (sym here) (inl refl))))
