use Rattle.std.proofs.Common.{◌≡◌, ◌∙◌, ◌<◌, ℕ, [], ◌++◌, length, get_or, take, ap, subst, sym, arith}
use Rattle.hdt_wire.specs.Control.{HasNoZero}
use Rattle.hdt_front.specs.WriterState.{SectionWriterState}
use Rattle.hdt_build.proofs.RestOfBytes.{next_ahead, next_last, one_more_taken, writer_is}
use Rattle.hdt_build.proofs.comparing.push_strings.Goals as goal

pub push-requires : goal.push-requires
push-requires c =
    let all = c.args.strings.now.ahead in
    let last : c.string.result.now ≡ get_or all c.strings.at [] =
    c.string.ensures ∙ next_last all c.strings.strings c.next.new.self c.strings.at c.in_ok-next.ensures.ok
    c.strings.invariant.ahead (omega (arith, c.requires.within, c.strings-test.true)) in
    record { no_zero = subst HasNoZero (sym last) (c.requires.texts c.strings.at c.strings-test.true) }

pub strings-preserved : goal.strings-preserved
strings-preserved c =
    let all = c.args.strings.now.ahead in
    let low : c.strings.at < length all = omega (arith, c.requires.within, c.strings-test.true) in
    let last : c.string.result.now ≡ get_or all c.strings.at [] =
    c.string.ensures ∙ next_last all c.strings.strings c.next.new.self c.strings.at c.in_ok-next.ensures.ok
    c.strings.invariant.ahead low in
    record {
      ahead = next_ahead all c.strings.strings c.next.new.self c.strings.at c.in_ok-next.ensures.ok
          c.strings.invariant.ahead;
      block = ap (λ (w : SectionWriterState). w.block_size) c.in_ok-push.ensures.ok ∙ c.strings.invariant.block;
      strings = ap (λ (w : SectionWriterState). w.strings) c.in_ok-push.ensures.ok
          ∙ one_more_taken c.args.out.now.strings all c.strings.out.strings c.string.result.now c.strings.at low last
          c.strings.invariant.strings;
    }

pub returns : goal.returns
returns c =
    let all = c.args.strings.now.ahead in
    writer_is c.strings.out c.args.out.now (c.args.out.now.strings ++ take c.args.count all) c.strings.invariant.block
    (c.strings.invariant.strings
    ∙ ap (λ (n : ℕ). c.args.out.now.strings ++ take n all) (omega (arith, c.strings-test.false, c.strings.auto.at-end)))
