use Rattle.std.proofs.Common.{◌≡◌, ◌≤◌, ◌<◌, ◌+◌, ◌-◌, ◌*◌, List, [], ℕ, arith, ap, ◌∙◌, length, nat_eq, subst, get_or}
use Rattle.std.proofs.Common.{true}
use Rattle.std.proofs.lemmas.List.Sums.{common_prefix_len-le}
use Rattle.std.specs.declared.cmp.Ordering.TheVariants.{Equal, Greater}
use Rattle.hdt_front.specs.Strings.{strings_of, blocks_of}
use Rattle.hdt_front.specs.PackedView.{block_layout}
use Rattle.hdt_front.specs.EntryFacts.{bytes_from_entry}
use Rattle.hdt_front.specs.Inside.Searching.{IsBefore, Compares, is_before}
use Rattle.hdt_front.specs.Laws.StringSteps.{length-decoded_strings}
use Rattle.hdt_front.proofs.CheckedBlocks.{some_block, head_inside, next_inside, block_entry, read_entry_is}
use Rattle.hdt_front.proofs.section.Section.scan_block.Goals as goal

pub overflow_mul-first : goal.overflow_mul-first
unfolding blocks_of
overflow_mul-first c =
    let p = c.args.self.now.packed in
    let first : c.args.block * p.block_size < p.count =
    head_inside p.count p.block_size c.args.block
    (some_block p.count p.block_size c.args.block c.requires.is.0) c.requires.is.0 in
    omega (arith, first)

pub overflow_sub-left : goal.overflow_sub-left
unfolding blocks_of
overflow_sub-left c =
    let p = c.args.self.now.packed in
    let first : c.args.block * p.block_size < p.count =
    head_inside p.count p.block_size c.args.block
    (some_block p.count p.block_size c.args.block c.requires.is.0) c.requires.is.0 in
    omega (arith, first)

pub read_entry-kept-requires : goal.read_entry-kept-requires
unfolding blocks_of
read_entry-kept-requires c =
    let s = c.args.self.now in let p = c.args.self.now.packed in let l = c.loop-i in
    let first : c.args.block * p.block_size < p.count =
    head_inside p.count p.block_size c.args.block
    (some_block p.count p.block_size c.args.block c.requires.is.0) c.requires.is.0 in
    let here = block_entry (block_layout p) p.count c.args.block l.i p.bytes.now l.rest.now l.auto.i
    (omega (arith, c.loop-i-test.true, c.min-many.ensures))
    (omega (arith, c.loop-i-test.true, c.min-many.ensures, first)) s.read l.invariant.rest in
    here.ends

pub probe_entry-requires : goal.probe_entry-requires
probe_entry-requires c =
    let l = c.loop-i in omega (
      arith,
      l.invariant.before.same,
      (common_prefix_len-le nat_eq
          (get_or (strings_of c.args.self.now) (c.args.block * c.args.self.now.packed.block_size + l.i - 1) [])
          c.args.x.now).1,
    )

pub returns-in-Same-clause-place : goal.returns-in-Same-clause-place
unfolding blocks_of
returns-in-Same-clause-place c =
    let s = c.args.self.now in let p = c.args.self.now.packed in let l = c.loop-i in
    let first : c.args.block * p.block_size < p.count =
    head_inside p.count p.block_size c.args.block
    (some_block p.count p.block_size c.args.block c.requires.is.0) c.requires.is.0 in
    let e = c.read_entry-kept.ensures in
    let here = read_entry_is s c.args.block l.i c.read_entry-kept.result.0 l.rest.now c.read_entry-kept.result.1.now
    c.read_entry-kept.result.2.now l.auto.i (omega (arith, c.loop-i-test.true, c.min-many.ensures))
    (omega (arith, c.loop-i-test.true, c.min-many.ensures, first)) l.invariant.rest e.kept e.text e.rest in
    let last : List ℕ = get_or (strings_of s) (c.args.block * p.block_size + l.i - 1) [] in (
      here.inside,
      subst (λ (t : List ℕ). Compares c.args.bound t c.args.x.now Equal) here.string
          (c.in-Same.ensures last here.fits l.invariant.before),
    )

pub returns-in-After-clause-place : goal.returns-in-After-clause-place
unfolding blocks_of
returns-in-After-clause-place c =
    let s = c.args.self.now in let p = c.args.self.now.packed in let l = c.loop-i in
    let first : c.args.block * p.block_size < p.count =
    head_inside p.count p.block_size c.args.block
    (some_block p.count p.block_size c.args.block c.requires.is.0) c.requires.is.0 in
    let e = c.read_entry-kept.ensures in
    let here = read_entry_is s c.args.block l.i c.read_entry-kept.result.0 l.rest.now c.read_entry-kept.result.1.now
    c.read_entry-kept.result.2.now l.auto.i (omega (arith, c.loop-i-test.true, c.min-many.ensures))
    (omega (arith, c.loop-i-test.true, c.min-many.ensures, first)) l.invariant.rest e.kept e.text e.rest in
    let last : List ℕ = get_or (strings_of s) (c.args.block * p.block_size + l.i - 1) [] in
    let r = subst (λ (t : List ℕ). Compares c.args.bound t c.args.x.now Greater) here.string
    (c.in-After.ensures last here.fits l.invariant.before) in
    (record { within = omega (arith, here.inside); last = λ _. l.invariant.before.before; next = λ _. r.0 }, λ _. r.1)

pub loop-i-preserved : goal.loop-i-preserved
unfolding blocks_of
loop-i-preserved c =
    let s = c.args.self.now in let p = c.args.self.now.packed in let l = c.loop-i in
    let first : c.args.block * p.block_size < p.count =
    head_inside p.count p.block_size c.args.block
    (some_block p.count p.block_size c.args.block c.requires.is.0) c.requires.is.0 in
    let e = c.read_entry-kept.ensures in
    let here = read_entry_is s c.args.block l.i c.read_entry-kept.result.0 l.rest.now c.read_entry-kept.result.1.now
    c.read_entry-kept.result.2.now l.auto.i (omega (arith, c.loop-i-test.true, c.min-many.ensures))
    (omega (arith, c.loop-i-test.true, c.min-many.ensures, first)) l.invariant.rest e.kept e.text e.rest in
    let last : List ℕ = get_or (strings_of s) (c.args.block * p.block_size + l.i - 1) [] in
    let next : c.args.block * p.block_size + l.i + 1 ≡ c.args.block * p.block_size + (l.i + 1) = omega arith in
    let back : c.args.block * p.block_size + l.i ≡ c.args.block * p.block_size + (l.i + 1) - 1 = omega arith in
    record {
      rest = here.rest ∙ ap (λ (k : ℕ). bytes_from_entry p.block_size k p.bytes.now) next;
      before = subst (λ (t : List ℕ). IsBefore c.args.bound t c.args.x.now c.in-Before.lcp_len) (here.string
          ∙ ap (λ (k : ℕ). get_or (strings_of s) k []) back) (c.in-Before.ensures last here.fits l.invariant.before);
      cost = omega (arith, e.cost, l.invariant.cost);
    }

pub overflow_add-result-2 : goal.overflow_add-result-2
unfolding blocks_of
overflow_add-result-2 c =
    let p = c.args.self.now.packed in
    let first : c.args.block * p.block_size < p.count =
    head_inside p.count p.block_size c.args.block
    (some_block p.count p.block_size c.args.block c.requires.is.0) c.requires.is.0 in
    let inside : c.args.block * p.block_size + c.min-many.result ≤ p.count = omega (arith, c.min-many.ensures, first) in
    omega (arith, inside)

pub returns-clause-place : goal.returns-clause-place
unfolding strings_of blocks_of
returns-clause-place c =
    let s = c.args.self.now in let p = c.args.self.now.packed in let l = c.loop-i in
    let some = some_block p.count p.block_size c.args.block c.requires.is.0 in
    let first : c.args.block * p.block_size < p.count =
    head_inside p.count p.block_size c.args.block some c.requires.is.0 in
    let bound = c.min-many.ensures in
    let ended : l.i ≡ c.min-many.result =
    omega (arith, bound, first, some, l.auto.i, l.auto.i-end, c.loop-i-test.false) in
    let many = length-decoded_strings p.block_size p.count 0 [] p.bytes.now in
    let next : c.args.block * p.block_size + c.min-many.result < length (strings_of s)
    → Compares c.args.bound (get_or (strings_of s) (c.args.block * p.block_size + c.min-many.result) []) c.args.x.now
    Greater = λ h.
    let full : c.min-many.result ≡ p.block_size = omega (arith, h, many, bound, first) in
    let at : (c.args.block + 1) * p.block_size ≡ c.args.block * p.block_size + c.min-many.result =
    omega (arith, full) in
    subst (λ (k : ℕ). Compares c.args.bound (get_or (strings_of s) k []) c.args.x.now Greater) at
    (c.requires.is.3 (next_inside p.count p.block_size c.args.block some (omega (arith, h, many, full)))) in (
      record {
        within = omega (arith, many, bound, first);
        last = λ _. subst (λ (k : ℕ). is_before c.args.bound c.args.x.now
            (get_or (strings_of s) (c.args.block * p.block_size + k - 1) []) ≡ true) ended l.invariant.before.before;
        next = λ h. (next h).0;
      },
      λ h. (next h).1,
    )

pub returns-clause-cost : goal.returns-clause-cost
unfolding blocks_of
returns-clause-cost c =
    let p = c.args.self.now.packed in let l = c.loop-i in
    let some = some_block p.count p.block_size c.args.block c.requires.is.0 in
    let first : c.args.block * p.block_size < p.count =
    head_inside p.count p.block_size c.args.block some c.requires.is.0 in
    let bound = c.min-many.ensures in
    let ended : l.i ≡ c.min-many.result =
    omega (arith, bound, first, some, l.auto.i, l.auto.i-end, c.loop-i-test.false) in
    omega (arith, l.invariant.cost, ended, bound, some)
