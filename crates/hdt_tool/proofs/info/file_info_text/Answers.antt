use Rattle.std.proofs.Common.{arith}
use Rattle.hdt_file.specs.Graph.{layout_view}
use Rattle.hdt_tool.proofs.InfoLaws.{tight_file}
use Rattle.hdt_tool.proofs.info.file_info_text.Goals as goal

pub is_tight-requires : goal.is_tight-requires
is_tight-requires c = λ t.
    (tight_file c.args.bytes.now (layout_view c.in_ok-layout.layout) c.in_ok-layout.ensures.found
    (λ g. c.one_layout.ensures.one c.args.bytes.now g (layout_view c.in_ok-layout.layout)
    (λ i. omega (arith, c.type_inv.bytes i)) (omega arith))).1 (c.in_ok-canonical.ensures.tight t)

pub returns-clause-ok : goal.returns-clause-ok
returns-clause-ok c =
    let same = c.in_ok-canonical.ensures.same in
    let size = c.bounded_block_size-block_size.ensures c.args.bytes.now in
    let file = tight_file c.args.bytes.now (layout_view c.in_ok-layout.layout) c.in_ok-layout.ensures.found
    (λ g. c.one_layout.ensures.one c.args.bytes.now g (layout_view c.in_ok-layout.layout)
    (λ i. omega (arith, c.type_inv.bytes i)) (omega arith)) in
    record {
      info = c.in_ok-info.info;
      is = c.in_ok-info.ensures.found;
      tight = c.in_ok-tight.tight;
      is_tight = (λ t. file.0 (c.in_ok-tight.ensures.0 t), λ h. c.in_ok-tight.ensures.1 (file.1 h));
      canonical = c.in_ok-canonical.canonical;
      is_canonical = (λ t. size.0 (same.0 t), λ h. same.1 (size.1 h));
      printed = c.in_ok-info_text.ensures;
    }
