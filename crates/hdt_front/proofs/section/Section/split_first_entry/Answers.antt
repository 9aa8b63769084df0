use Rattle.std.proofs.Common.{◌<◌, ◌+◌, ℕ, refl, ap, sym, ◌∙◌, arith, List, take, drop, length, subst}
use Rattle.hdt_wire.specs.Checks.{len_before_zero}
use Rattle.hdt_front.specs.Strings.{strings_of, blocks_of}
use Rattle.hdt_front.specs.PackedView.{block_layout}
use Rattle.hdt_front.proofs.CheckedBlocks.{some_block, block_head}
use Rattle.hdt_front.proofs.section.Section.split_first_entry.Goals as goal

pub split_at-requires : goal.split_at-requires
unfolding strings_of blocks_of
split_at-requires c =
    let p = c.args.self.now.packed in
    let h = block_head (block_layout p) p.count c.args.block p.bytes.now refl
    (some_block p.count p.block_size c.args.block c.requires) c.requires c.args.self.now.read in
    let ends : len_before_zero c.bytes_from_block-entry.result.now < length c.bytes_from_block-entry.result.now =
    subst (λ (r : List ℕ). len_before_zero r < length r) (sym c.bytes_from_block-entry.ensures) h.ends in
    omega (arith, ends, c.text_len-end.ensures.len)

pub returns-clause-string : goal.returns-clause-string
unfolding strings_of blocks_of
returns-clause-string c =
    let p = c.args.self.now.packed in
    let h = block_head (block_layout p) p.count c.args.block p.bytes.now refl
    (some_block p.count p.block_size c.args.block c.requires) c.requires c.args.self.now.read in
    ap (λ (k : ℕ). take k c.bytes_from_block-entry.result.now) c.text_len-end.ensures.len
    ∙ ap (λ (r : List ℕ). take (len_before_zero r) r) c.bytes_from_block-entry.ensures ∙ sym h.string

pub returns-clause-rest : goal.returns-clause-rest
unfolding strings_of blocks_of
returns-clause-rest c =
    let p = c.args.self.now.packed in
    let h = block_head (block_layout p) p.count c.args.block p.bytes.now refl
    (some_block p.count p.block_size c.args.block c.requires) c.requires c.args.self.now.read in
    c.split_at.ensures.back ∙ ap (λ (k : ℕ). drop (k + 1) c.bytes_from_block-entry.result.now)
    c.text_len-end.ensures.len
    ∙ ap (λ (r : List ℕ). drop (len_before_zero r + 1) r) c.bytes_from_block-entry.ensures ∙ sym h.after
