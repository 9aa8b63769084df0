use Rattle.std.proofs.Common.{◌≡◌, ◌-◌, ℕ, List, [], arith, ap, ◌∙◌, sym}
use Rattle.std.specs.Str.{is_utf8}
use Rattle.std.proofs.Math.Nat.{zero-mod}
use Rattle.std.proofs.lemmas.Str.{is_utf8-from_IsUtf8, IsUtf8-nil}
use Rattle.std.proofs.lemmas.Result.{err_from_is_err_and}
use Rattle.hdt_front.specs.StringChecks.{strings_check}
use Rattle.hdt_front.specs.PackedView.{block_layout}
use Rattle.hdt_front.proofs.CheckLoop.{prefix_then_suffix, stops, at_end}
use Rattle.hdt_front.proofs.packed.PackedStrings.check.Goals as goal

pub returns-in_err-rest : goal.returns-in_err-rest
returns-in_err-rest c =
    let s = c.args.self.now in let l = c.loop-i in
    let p = err_from_is_err_and c.from_residual.result c.from_residual.ensures.1 in
    rw (p.1, p.2) (stops c.in_err-rest.field-0.0 (block_layout s) s.count l.i l.before.items l.rest.now
    (strings_check (block_layout s) s.count 0 [] s.bytes.now) c.loop-i-test.true c.in_err-rest.ensures.exact
    l.invariant.rows)

pub loop-i-preserved : goal.loop-i-preserved
loop-i-preserved c =
    let s = c.args.self.now in let l = c.loop-i in
    record {
      index = c.next_index_in_block-index_in_block.ensures l.i l.invariant.index;
      utf8 = c.in_ok-rest.ensures.utf8;
      left = omega (arith, l.invariant.left, c.in_ok-rest.ensures.left);
      rows = prefix_then_suffix (block_layout s) s.count l.i l.before.items l.rest.now c.check_string.new.before.items
          c.in_ok-rest.rest.now (strings_check (block_layout s) s.count 0 [] s.bytes.now) c.loop-i-test.true
          c.in_ok-rest.ensures.exact l.invariant.rows;
    }

pub returns-in-Ok : goal.returns-in-Ok
returns-in-Ok c =
    let s = c.args.self.now in let l = c.loop-i in
    let end : l.i ≡ s.count = omega arith in
    sym (at_end (block_layout s) s.count l.i l.before.items l.rest.now
    (strings_check (block_layout s) s.count 0 [] s.bytes.now) end l.invariant.rows) ∙ sym c.check_end.ensures
    ∙ c.in-Ok.is

pub returns : goal.returns
returns c =
    let s = c.args.self.now in let l = c.loop-i in
    let end : l.i ≡ s.count = omega arith in
    sym (at_end (block_layout s) s.count l.i l.before.items l.rest.now
    (strings_check (block_layout s) s.count 0 [] s.bytes.now) end l.invariant.rows) ∙ sym c.check_end.ensures
    ∙ c.in-Err.is

pub loop-i-init : goal.loop-i-init
loop-i-init c =
    let s = c.args.self.now in
    let none : c.new-before.result.items ≡ [] = c.new-before.ensures.items in
    let all : s.count - 0 ≡ s.count = omega arith in
    record {
      index = sym (zero-mod s.block_size);
      utf8 = ap is_utf8 none ∙ is_utf8-from_IsUtf8 [] IsUtf8-nil;
      left = omega arith;
      rows = ap (λ (l : List ℕ). strings_check (block_layout s) (s.count - 0) 0 l s.bytes.now) none
          ∙ ap (λ (n : ℕ). strings_check (block_layout s) n 0 [] s.bytes.now) all;
    }
