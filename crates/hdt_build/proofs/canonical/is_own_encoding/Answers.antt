use Rattle.std.proofs.Common.{refl}
use Rattle.hdt_file.specs.Graph.{layout_view}
use Rattle.hdt_file.specs.Head.{head_parts}
use Rattle.hdt_build.proofs.CanonicalForm.{graph_sections, header_is, same_file, some_head}
use Rattle.hdt_build.proofs.canonical.is_own_encoding.Goals as goal

pub is_canonical_file-requires : goal.is_canonical_file-requires
is_canonical_file-requires c =
    let g = layout_view c.args.layout.now in
    let h = c.layouts_are_graphs.ensures c.args.bytes.now g c.requires.layout in
    record { sections = graph_sections g h; some = h.some; block = c.requires.block.0 }

pub returns : goal.returns
returns c =
    let g = layout_view c.args.layout.now in
    same_file c.args.bytes.now c.body.result.now c.args.block_size g g c.is_canonical_file.result refl
    (header_is c.args.bytes.now c.body.result.now (head_parts c.in-Ok.head) g c.requires.layout c.body.ensures
    c.in-Ok.ensures.only) c.is_canonical_file.ensures

pub unreachable-requires : goal.unreachable-requires
unreachable-requires c =
    some_head c.args.bytes.now (layout_view c.args.layout.now) c.in-Err.field-0 c.requires.layout c.in-Err.ensures.only
