use Rattle.std.proofs.Common.{◌≡◌, ap, arith, subst}
use Rattle.std.specs.Prelude.{Ok}
use Rattle.std.proofs.lemmas.Result.{IfOk-weaker}
use Rattle.hdt_file.specs.File.{GraphParts, IsLayout}
use Rattle.hdt_file.specs.Graph.{layout_view}
use Rattle.hdt_file.specs.Tight.{IsTight}
use Rattle.hdt_build.proofs.CanonicalForm.{bad_size, decided, other_encoding}
use Rattle.hdt_build.proofs.canonical.layout_is_canonical.Goals as goal

pub returns-then-not-is_block_size : goal.returns-then-not-is_block_size
returns-then-not-is_block_size c = record {
  same = bad_size c.args.block_size c.args.bytes.now
      (λ size. let t = c.is_block_size.ensures.1 size in let f = c.if-not-is_block_size.true in absurd cc);
  tight = λ t. absurd cc;
}

pub returns-then-not-own-clause-same : goal.returns-then-not-own-clause-same
returns-then-not-own-clause-same c =
    let bytes = c.args.bytes.now in
    let g = layout_view c.args.layout.now in
    other_encoding c.args.block_size bytes g (omega arith)
    (λ other l. ap (λ (h : GraphParts). Ok h)
    (c.one_layout.ensures.one bytes other g (λ i. omega (arith, c.type_inv.bytes i)) (omega arith) l c.requires))
    c.in_ok-own.own c.if-not-own.true c.in_ok-own.ensures

pub returns-clause-same : goal.returns-clause-same
returns-clause-same c =
    let bytes = c.args.bytes.now in
    let g = layout_view c.args.layout.now in
    let size = c.is_block_size.ensures.0 c.if-not-is_block_size.false in
    let one : (other : GraphParts) → IsLayout bytes other → other ≡ g =
    λ other l. c.one_layout.ensures.one bytes other g (λ i. omega (arith, c.type_inv.bytes i)) (omega arith) l
    c.requires in
    IfOk-weaker c.layout_is_tight.result _ _
    (λ tight k. decided c.args.block_size bytes g (omega arith) size (c.layouts_are_graphs.ensures bytes g c.requires)
    (λ other l. ap (λ (h : GraphParts). Ok h) (one other l)) (c.in_ok-own.ensures.0 c.if-not-own.false) tight (
      λ t. (g, record { layout = c.requires; tight = k.0 t }),
      λ h. k.1 (subst IsTight (one h.0 h.1.layout) h.1.tight),
    )) c.layout_is_tight.ensures

pub returns-clause-tight : goal.returns-clause-tight
returns-clause-tight c = IfOk-weaker c.layout_is_tight.result _ _
    (λ tight k t. (layout_view c.args.layout.now, record { layout = c.requires; tight = k.0 t }))
    c.layout_is_tight.ensures
