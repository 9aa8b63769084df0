use Rattle.std.proofs.Common.{◌+◌, ◌<◌, ap, sym, length, arith}
use Rattle.std.proofs.lemmas.List.{get_or_read_under}
use Rattle.hdt_dict.specs.Laws.Arena.{size, text_is}
use Rattle.hdt_dict.proofs.arena.Arena.get.Goals as goal

pub index-from-requires : goal.index-from-requires
index-from-requires c = omega (
  arith,
  size c.self.inside.bytes.items c.self.inside.starts.items,
  ap length c.self.view_is,
  c.self.inside.starts.ok.0,
)

pub overflow_add-at : goal.overflow_add-at
overflow_add-at c = let h = c.self.inside.starts.ok in let f = c.self.inside.starts.small in
    omega (
      arith,
      size c.self.inside.bytes.items c.self.inside.starts.items,
      ap length c.self.view_is,
      c.self.inside.starts.ok.0,
    )

pub index-end-requires : goal.index-end-requires
index-end-requires c = omega (
  arith,
  size c.self.inside.bytes.items c.self.inside.starts.items,
  ap length c.self.view_is,
  c.self.inside.starts.ok.0,
)

pub slice_between-requires : goal.slice_between-requires
slice_between-requires c =
    let s = c.self.inside.starts in
    let below : c.args.at + 1 < length s.items =
    omega (arith, size c.self.inside.bytes.items s.items, ap length c.self.view_is) in
    let from = get_or_read_under s.items c.args.at _ c.index-from.result.now 0 c.index-from.ensures
    (omega arith) s.ok.0 in
    let end = get_or_read_under s.items (c.args.at + 1) _ c.index-end.result.now 0 c.index-end.ensures
    (omega arith) s.ok.0 in
    let up = c.self.invariant.ascend c.args.at below in
    let in' = c.self.invariant.within (c.args.at + 1) below in
    record { ascend = omega arith; within = omega (arith, c.as_slice.ensures.len, c.self.inside.bytes.ok.0) }

pub returns : goal.returns
returns c =
    let s = c.self.inside.starts in
    let below : c.args.at + 1 < length s.items =
    omega (arith, size c.self.inside.bytes.items s.items, ap length c.self.view_is) in
    let from = get_or_read_under s.items c.args.at _ c.index-from.result.now 0 c.index-from.ensures
    (omega arith) s.ok.0 in
    let end = get_or_read_under s.items (c.args.at + 1) _ c.index-end.result.now 0 c.index-end.ensures
    (omega arith) s.ok.0 in
    rw (
      c.slice_between.ensures,
      c.as_slice.ensures.value,
      from,
      end,
      ← c.self.view_is,
    ) (sym (text_is c.self.inside.bytes.items s.items c.args.at below))
