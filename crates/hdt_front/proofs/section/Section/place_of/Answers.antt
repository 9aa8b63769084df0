use Rattle.std.proofs.Common.{◌≡◌, ◌-◌, [], arith, sym, ◌∙◌, get_or}
use Rattle.hdt_front.specs.Strings.{strings_of, blocks_of}
use Rattle.hdt_front.specs.PackedView.{block_layout}
use Rattle.hdt_front.specs.Laws.Strings.{count_is}
use Rattle.hdt_front.proofs.AscendingIds.{id_found, id_absent}
use Rattle.hdt_front.proofs.CheckedBlocks.{no_blocks, ascends}
use Rattle.hdt_front.proofs.LookupInverse.{zero_absent}
use Rattle.hdt_front.proofs.PrefixLemmas.{less_than}
use Rattle.hdt_front.proofs.section.Section.place_of.Goals as goal

pub returns-then-blocks-eq0-clause-place : goal.returns-then-blocks-eq0-clause-place
unfolding strings_of blocks_of
returns-then-blocks-eq0-clause-place c =
    let s = c.args.self.now in let p = c.args.self.now.packed in
    let none : p.count ≡ 0 = no_blocks p.count p.block_size p.some (sym c.blocks-2.ensures ∙ c.if-blocks-eq0.true) in
    let many = count_is s in
    sym (id_absent (strings_of s) c.args.x.now 0 (ascends (block_layout p) p.count p.bytes.now s.read) (omega arith)
    (λ h. absurd (omega (arith, h))) (λ h. absurd (omega (arith, h, many, none))))

pub returns-then-len_before_zero-x-clause-place : goal.returns-then-len_before_zero-x-clause-place
returns-then-len_before_zero-x-clause-place c =
    zero_absent c.args.self.now c.args.x.now (omega (arith, c.len_before_zero.ensures.len, c.if-len_before_zero-x.true))

pub overflow_add-result : goal.overflow_add-result
overflow_add-result c = omega (arith, c.in-Ok.ensures.place.0, count_is c.args.self.now)

pub returns-in-Ok-clause-place : goal.returns-in-Ok-clause-place
unfolding strings_of
returns-in-Ok-clause-place c =
    let s = c.args.self.now in let p = c.args.self.now.packed in let h = c.in-Ok.ensures.place in
    sym (id_found (strings_of s) c.args.x.now c.in-Ok.at
    (ascends (block_layout p) p.count p.bytes.now s.read) h.0 h.1.1)

pub returns-in-Err-clause-place : goal.returns-in-Err-clause-place
unfolding strings_of
returns-in-Err-clause-place c =
    let s = c.args.self.now in let p = c.args.self.now.packed in let h = c.in-Err.ensures.place in let n =
    c.in-Err.field-0 in
    sym (id_absent (strings_of s) c.args.x.now n (ascends (block_layout p) p.count p.bytes.now s.read) h.0.within
    (λ some. less_than c.args.x.now (get_or (strings_of s) (n - 1) []) (h.0.last some)) h.1)
