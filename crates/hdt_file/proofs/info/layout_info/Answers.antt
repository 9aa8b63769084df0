use Rattle.std.proofs.Common.{◌≡◌, ◌∙◌, ℕ, Err, ap, arith, length, subst}
use Rattle.hdt_wire.specs.declared.control.Kind.TheVariants as kinds
use Rattle.hdt_wire.specs.Control.{control_at, control_view}
use Rattle.hdt_wire.specs.Laws.Exact.{done}
use Rattle.hdt_file.specs.Graph.{parts_of_layout}
use Rattle.hdt_file.specs.Info.{file_info}
use Rattle.hdt_file.proofs.InfoLaws.{info_found, some_control}
use Rattle.hdt_file.proofs.info.layout_info.Goals as goal

pub returns-in_err-control-clause-err : goal.returns-in_err-control-clause-err
unfolding parts_of_layout
returns-in_err-control-clause-err c =
    let bytes = c.args.bytes.now in
    let fault = c.in_err-control.field-0.0 in
    absurd (some_control (parts_of_layout c.args.layout.now) bytes fault (λ i. omega (arith, c.type_inv.bytes i))
    (omega arith) c.requires (subst (λ (at : ℕ). control_at kinds.Dictionary bytes at ≡ Err fault) c.end.ensures
    c.in_err-control.ensures.exact))

pub returns-clause-found : goal.returns-clause-found
unfolding parts_of_layout control_view
returns-clause-found c =
    let bytes = c.args.bytes.now in
    let file = parts_of_layout c.args.layout.now in
    let control = control_view c.in_ok-control.control in
    info_found file bytes control c.in_ok-part_sizes.field-0 (λ i. omega (arith, c.type_inv.bytes i)) (omega arith)
    c.requires
    (subst (λ (at : ℕ). control_at kinds.Dictionary bytes at ≡ done control) c.end.ensures
    c.in_ok-control.ensures.exact)
    (c.in_ok-part_sizes.ensures ∙ ap (file_info (length bytes) file) c.end-2.ensures)
