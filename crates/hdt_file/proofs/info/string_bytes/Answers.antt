use Rattle.std.proofs.Common.{◌≡◌, ◌+◌, ℕ, List, ap, arith, length, subst, sym}
use Rattle.hdt_file.proofs.InfoLaws.{IsSummed, none_summed, one_more, all_summed}
use Rattle.hdt_file.proofs.info.string_bytes.Goals as goal

pub strings-init : goal.strings-init
strings-init c = none_summed c.args.section.now c.new-strings.result c.new-strings.ensures

pub strings-preserved : goal.strings-preserved
strings-preserved c =
    let same : c.string.result.now ≡ c.next.new.self.last = c.string.ensures in
    subst (λ (x : List ℕ). IsSummed c.args.section.now c.next.new.self (c.strings.total + length x) (c.strings.i + 1))
    (sym same)
    (one_more c.args.section.now c.strings.strings c.next.new.self c.strings.total c.strings.i c.in_ok-next.ensures.ok
    (omega (arith, ap length same))
    (omega (arith, c.strings-test.true, c.len-i-end.ensures.is)) c.strings.invariant)

pub returns : goal.returns
returns c = all_summed c.args.section.now c.strings.strings c.strings.total c.strings.i
    (omega (arith, c.strings-test.false, c.len-i-end.ensures.is)) c.strings.invariant
