use Rattle.std.proofs.Common.{refl, sym}
use Rattle.std.proofs.lemmas.Option.{IfSome_then}
use Rattle.std.proofs.lemmas.Result.{err_from_is_err_and}
use Rattle.hdt_wire.specs.Laws.Exact.{ok_is}
use Rattle.hdt_file.specs.Faults.{open_fault_of}
use Rattle.hdt_file.specs.Graph.{layout_view}
use Rattle.hdt_file.proofs.opening.verify.Goals as goal

pub returns-in_err-layout-clause-only : goal.returns-in_err-layout-clause-only
returns-in_err-layout-clause-only c = λ graph h.
    let p = err_from_is_err_and c.from_residual.result c.from_residual.ensures.1 in
    rw (p.1, p.2) (IfSome_then (open_fault_of c.in_err-layout.field-0.0) (c.in_err-layout.ensures.only graph h)
    (λ f e. absurd cc))

pub returns-clause-found : goal.returns-clause-found
returns-clause-found c = record {
  value = layout_view c.in_ok-layout.layout;
  is = c.in_ok-layout.ensures.found;
  viewed_as = sym c.lens.ensures;
}

pub returns-clause-only : goal.returns-clause-only
returns-clause-only c = λ graph h. rw (
  c.lens.ensures,
  ok_is graph (layout_view c.in_ok-layout.layout) (c.in_ok-layout.ensures.only graph h),
) refl
