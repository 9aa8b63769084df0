use Rattle.std.proofs.Common.{◌≡◌, ◌<◌, ◌^◌, length, arith, sym, ◌∙◌}
use Rattle.hdt_front.specs.Strings.{strings_of, blocks_of}
use Rattle.hdt_front.specs.PackedView.{block_layout}
use Rattle.hdt_front.specs.Laws.Strings.{count_is, few_strings}
use Rattle.hdt_front.proofs.CheckedBlocks.{no_blocks, ascends}
use Rattle.hdt_front.proofs.PrefixLemmas.{between, none_begins, none_there}
use Rattle.hdt_front.proofs.section.Section.prefix_range.Goals as goal

pub returns-then-blocks-eq0-clause-range : goal.returns-then-blocks-eq0-clause-range
unfolding blocks_of
returns-then-blocks-eq0-clause-range c =
    let s = c.args.self.now in let p = c.args.self.now.packed in
    let none : p.count ≡ 0 = no_blocks p.count p.block_size p.some (sym c.blocks-2.ensures ∙ c.if-blocks-eq0.true) in
    none_there (strings_of s) c.args.prefix.now (count_is s ∙ none)

pub returns-then-len_before_zero-prefix-clause-range : goal.returns-then-len_before_zero-prefix-clause-range
returns-then-len_before_zero-prefix-clause-range c =
    none_begins c.args.self.now c.args.prefix.now
    (omega (arith, c.len_before_zero.ensures.len, c.if-len_before_zero-prefix.true))

pub overflow_add-result : goal.overflow_add-result
overflow_add-result c =
    let few : length (strings_of c.args.self.now) < 2 ^ 63 =
    omega (arith, few_strings c.args.self.now, c.slice_len_is_below_2_63.ensures) in
    omega (arith, few, c.boundary-start.ensures.place.within)

pub overflow_add-result-2 : goal.overflow_add-result-2
overflow_add-result-2 c =
    let few : length (strings_of c.args.self.now) < 2 ^ 63 =
    omega (arith, few_strings c.args.self.now, c.slice_len_is_below_2_63.ensures) in
    omega (arith, few, c.boundary-end.ensures.place.within)

pub returns-clause-range : goal.returns-clause-range
unfolding strings_of
returns-clause-range c =
    let s = c.args.self.now in let p = c.args.self.now.packed in
    between c.args.prefix.now (strings_of s) c.boundary-start.result c.boundary-end.result
    (ascends (block_layout p) p.count p.bytes.now s.read) c.boundary-start.ensures.place
    c.boundary-end.ensures.place

pub returns-then-blocks-eq0-clause-few : goal.returns-then-blocks-eq0-clause-few
returns-then-blocks-eq0-clause-few c = omega (arith, few_strings c.args.self.now, c.slice_len_is_below_2_63.ensures)

pub returns-then-len_before_zero-prefix-clause-few : goal.returns-then-len_before_zero-prefix-clause-few
returns-then-len_before_zero-prefix-clause-few c =
    omega (arith, few_strings c.args.self.now, c.slice_len_is_below_2_63.ensures)

pub returns-clause-few : goal.returns-clause-few
returns-clause-few c = omega (arith, few_strings c.args.self.now, c.slice_len_is_below_2_63.ensures)
