use Rattle.std.proofs.Common.{◌≡◌, ◌<◌, ◌+◌, ◌-◌, ◌*◌, ◌/◌, ℕ, List, arith, refl, ap, sym, ◌∙◌, length, add-zero}
use Rattle.std.proofs.lemmas.Nat.{div-add-mod'}
use Rattle.std.proofs.Math.Nat.{mod-lt}
use Rattle.hdt_front.specs.Strings.{blocks_of, section_of}
use Rattle.hdt_front.specs.Section.{string_offset}
use Rattle.hdt_front.specs.PackedView.{block_layout}
use Rattle.hdt_front.specs.EntryFacts.{bytes_from_entry}
use Rattle.hdt_front.specs.Laws.Strings.{count_is}
use Rattle.hdt_front.proofs.CheckedBlocks.{block_head}
use Rattle.hdt_front.proofs.DecodingLemmas.{unfolds_here, block_inside, rest_within}
use Rattle.hdt_front.proofs.section.Section.string_start.Goals as goal

pub nonzero_div-i : goal.nonzero_div-i
nonzero_div-i c =
    let p = c.args.self.now.packed in
    omega (arith, p.some (omega (arith, c.requires.from_one, c.requires.within, count_is c.args.self.now)))

pub nonzero_rem-k-end : goal.nonzero_rem-k-end
nonzero_rem-k-end c =
    let p = c.args.self.now.packed in
    omega (arith, p.some (omega (arith, c.requires.from_one, c.requires.within, count_is c.args.self.now)))

pub bytes_from_block-rest-requires : goal.bytes_from_block-rest-requires
unfolding blocks_of
bytes_from_block-rest-requires c =
    let p = c.args.self.now.packed in
    let some : 0 < p.count = omega (arith, c.requires.from_one, c.requires.within, count_is c.args.self.now) in
    block_inside p.count p.block_size (c.args.n - 1) (p.some some)
    (omega (arith, c.requires.from_one, c.requires.within, count_is c.args.self.now))

pub loop-k-init : goal.loop-k-init
unfolding blocks_of
loop-k-init c =
    let p = c.args.self.now.packed in
    let some : 0 < p.count = omega (arith, c.requires.from_one, c.requires.within, count_is c.args.self.now) in
    let i : ℕ = c.args.n - 1 in
    let h = block_inside p.count p.block_size (c.args.n - 1) (p.some some)
    (omega (arith, c.requires.from_one, c.requires.within, count_is c.args.self.now)) in
    let lies = block_head (block_layout p) p.count ((c.args.n - 1) / p.block_size) p.bytes.now refl
    (p.some some) h c.args.self.now.read in
    c.bytes_from_block-rest.ensures ∙ sym lies.here
    ∙ ap (λ k. bytes_from_entry p.block_size k p.bytes.now)
    (sym (add-zero ((c.args.n - 1) / p.block_size * p.block_size)))

pub split_entry-requires : goal.split_entry-requires
split_entry-requires c =
    let p = c.args.self.now.packed in let l = c.loop-k in
    let i : ℕ = c.args.n - 1 in
    let inside : i < p.count = omega (arith, c.requires.from_one, c.requires.within, count_is c.args.self.now) in
    let short : l.k < p.block_size = omega (arith, c.loop-k-test.true, mod-lt i (p.some (omega (arith, inside)))) in
    let here : i / p.block_size * p.block_size + l.k < p.count =
    omega (arith, c.loop-k-test.true, div-add-mod' i p.block_size, inside) in
    (unfolds_here (block_layout p) p.count (i / p.block_size) l.k p.bytes.now l.rest.now short here c.args.self.now.read
    l.invariant).ends

pub loop-k-preserved : goal.loop-k-preserved
loop-k-preserved c =
    let p = c.args.self.now.packed in let l = c.loop-k in
    let i : ℕ = c.args.n - 1 in
    let inside : i < p.count = omega (arith, c.requires.from_one, c.requires.within, count_is c.args.self.now) in
    let short : l.k < p.block_size = omega (arith, c.loop-k-test.true, mod-lt i (p.some (omega (arith, inside)))) in
    let here : i / p.block_size * p.block_size + l.k < p.count =
    omega (arith, c.loop-k-test.true, div-add-mod' i p.block_size, inside) in
    let u = unfolds_here (block_layout p) p.count
    (i / p.block_size) l.k p.bytes.now l.rest.now short here c.args.self.now.read l.invariant in
    c.split_entry.ensures.rest ∙ u.after

pub place-requires : goal.place-requires
place-requires c =
    let p = c.args.self.now.packed in let l = c.loop-k in
    omega (
      arith,
      ap length l.invariant,
      rest_within p.block_size ((c.args.n - 1) / p.block_size * p.block_size + l.k) p.bytes.now,
    )

pub returns : goal.returns
unfolding string_offset section_of
returns c =
    let p = c.args.self.now.packed in let l = c.loop-k in
    let i : ℕ = c.args.n - 1 in
    let inside : i < p.count = omega (arith, c.requires.from_one, c.requires.within, count_is c.args.self.now) in
    let all : i / p.block_size * p.block_size + l.k ≡ i =
    omega (arith, c.loop-k-test.false, l.auto.k-end, div-add-mod' i p.block_size) in
    c.place.ensures ∙ ap (λ (r : List ℕ). p.packed_at + (length p.bytes.now - length r)) (l.invariant
    ∙ ap (λ k. bytes_from_entry p.block_size k p.bytes.now) all)
