use Rattle.std.proofs.Common.{◌∙◌, ap, refl, sym}
use Rattle.std.proofs.lemmas.Option.{IfSome_then}
use Rattle.std.proofs.lemmas.Result.{err_from_is_err_and}
use Rattle.hdt_wire.specs.Laws.Exact.{ok_is}
use Rattle.hdt_file.specs.Faults.{open_fault_of}
use Rattle.hdt_file.specs.Graph.{graph_counts, graph_view}
use Rattle.hdt_file.proofs.tight.verify_tight.Goals as goal

pub returns-in_err-open_tight-clause-only : goal.returns-in_err-open_tight-clause-only
returns-in_err-open_tight-clause-only c = λ graph h.
    let p = err_from_is_err_and c.from_residual.result c.from_residual.ensures.1 in
    rw (p.1, p.2) (IfSome_then (open_fault_of c.in_err-open_tight.field-0.0) (c.in_err-open_tight.ensures.only graph h)
    (λ f e. absurd cc))

pub returns-clause-found : goal.returns-clause-found
returns-clause-found c = record {
  value = graph_view c.in_ok-open_tight.field-0;
  is = c.in_ok-open_tight.ensures.found;
  viewed_as = sym (c.lens.ensures ∙ ap graph_counts c.layout.ensures.seen);
}

pub returns-clause-only : goal.returns-clause-only
returns-clause-only c = λ graph h. rw (
  c.lens.ensures,
  c.layout.ensures.seen,
  ok_is graph (graph_view c.in_ok-open_tight.field-0) (c.in_ok-open_tight.ensures.only graph h),
) refl
