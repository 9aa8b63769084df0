use Rattle.std.proofs.Common.{◌≡◌, ◌<◌, ◌≤◌, ◌+◌, ◌*◌, ℕ, refl, ap, sym, ◌∙◌, List, [], take, drop, length, subst}
use Rattle.std.proofs.Common.{get_or}
use Rattle.hdt_wire.specs.Checks.{len_before_zero}
use Rattle.hdt_front.specs.Order.{string_cmp, lcp_len}
use Rattle.hdt_front.specs.Strings.{strings_of, blocks_of}
use Rattle.hdt_front.specs.PackedView.{block_layout}
use Rattle.hdt_front.proofs.CheckedBlocks.{some_block, block_head}
use Rattle.hdt_front.proofs.section.Section.compare_head.Goals as goal

pub cmp_stored_from-order-requires-clause-ends : goal.cmp_stored_from-order-requires-clause-ends
unfolding strings_of blocks_of
cmp_stored_from-order-requires-clause-ends c =
    let p = c.args.self.now.packed in
    let h = block_head (block_layout p) p.count c.args.block p.bytes.now refl
    (some_block p.count p.block_size c.args.block c.requires.block) c.requires.block c.args.self.now.read in
    subst (λ (r : List ℕ). len_before_zero r < length r) (sym c.bytes_from_block-head.ensures) h.ends

pub cmp_stored_from-order-requires-clause-so_far : goal.cmp_stored_from-order-requires-clause-so_far
unfolding strings_of blocks_of
cmp_stored_from-order-requires-clause-so_far c =
    let p = c.args.self.now.packed in
    let h = block_head (block_layout p) p.count c.args.block p.bytes.now refl
    (some_block p.count p.block_size c.args.block c.requires.block) c.requires.block c.args.self.now.read in
    let string : take (len_before_zero c.bytes_from_block-head.result.now) c.bytes_from_block-head.result.now
    ≡ get_or (strings_of c.args.self.now) (c.args.block * p.block_size) [] =
    ap (λ (r : List ℕ). take (len_before_zero r) r) c.bytes_from_block-head.ensures ∙ sym h.string in
    subst (λ (s : List ℕ). c.args.from ≤ lcp_len s c.args.x.now) (sym string) c.requires.so_far

pub returns : goal.returns
unfolding strings_of blocks_of
returns c =
    let p = c.args.self.now.packed in
    let h = block_head (block_layout p) p.count c.args.block p.bytes.now refl
    (some_block p.count p.block_size c.args.block c.requires.block) c.requires.block c.args.self.now.read in
    let head : List ℕ = c.bytes_from_block-head.result.now in
    let string : take (len_before_zero head) head
    ≡ get_or (strings_of c.args.self.now) (c.args.block * p.block_size) [] =
    ap (λ (r : List ℕ). take (len_before_zero r) r) c.bytes_from_block-head.ensures ∙ sym h.string in
    record {
      order = c.cmp_stored_from-order.ensures.order ∙ ap (λ (s : List ℕ). string_cmp s c.args.x.now) string;
      same = c.cmp_stored_from-order.ensures.same ∙ ap (λ (s : List ℕ). lcp_len s c.args.x.now) string;
      ends = subst (λ (r : List ℕ). len_before_zero r < length r) (sym c.bytes_from_block-head.ensures) h.ends;
      rest = ap (λ (r : List ℕ). drop (len_before_zero r + 1) r) c.bytes_from_block-head.ensures ∙ sym h.after;
      cost = c.tick.ensures;
    }
