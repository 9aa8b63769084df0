use Rattle.std.proofs.Common.{◌≡◌, ◌∙◌, ◌+◌, length, ap, sym, arith}
use Rattle.hdt_front.specs.Laws.CommonPrefix.{lcp_transitive, lcp_itself}
use Rattle.hdt_build.specs.Inside.Rewriting.{string_of_id}
use Rattle.hdt_build.proofs.CursorSteps.{goes, counted, ended}
use Rattle.hdt_build.proofs.section_run.advance_to.Goals as goal

pub strings-init : goal.strings-init
strings-init c = record {
  progress = λ all progress. progress;
  before = c.requires;
  kept = omega (arith, lcp_itself c.args.strings.now.last, ap length c.string-kept.ensures);
}

pub returns-then-given-id-clause-progress : goal.returns-then-given-id-clause-progress
returns-then-given-id-clause-progress c = λ all progress within.
    let go = goes all c.strings.strings c.next_with_prefix_len.new.self c.in-Some.given
    (c.strings.invariant.progress all progress) (sym c.in_ok-given.ensures.id
    ∙ c.in-Some.is) c.in_ok-given.ensures.ok in
    let is : c.strings.strings.given + 1 ≡ c.args.id = sym go.number ∙ c.if-given-id.true in
    record {
      progress = go.progress;
      given = go.given ∙ is;
      last = go.last ∙ ap (string_of_id all) is;
    }

pub returns-then-given-id-clause-kept : goal.returns-then-given-id-clause-kept
returns-then-given-id-clause-kept c =
    lcp_transitive c.min-kept.result c.args.strings.now.last c.strings.strings.last c.next_with_prefix_len.new.self.last
    (omega (arith, c.strings.invariant.kept)) (omega (arith, c.in_ok-given.ensures.kept))

pub strings-preserved : goal.strings-preserved
strings-preserved c =
    let some = sym c.in_ok-given.ensures.id ∙ c.in-Some.is in
    let more = counted c.strings.strings c.next_with_prefix_len.new.self c.in-Some.given some
    c.in_ok-given.ensures.ok in
    record {
      progress = λ all progress.
          (goes all c.strings.strings c.next_with_prefix_len.new.self c.in-Some.given
          (c.strings.invariant.progress all progress) some c.in_ok-given.ensures.ok).progress;
      before = omega (arith, more.0, more.1, c.strings.invariant.before, c.if-given-id.false);
      kept = lcp_transitive c.min-kept.result c.args.strings.now.last c.strings.strings.last
          c.next_with_prefix_len.new.self.last (omega (arith, c.strings.invariant.kept))
          (omega (arith, c.in_ok-given.ensures.kept));
    }

pub returns-in_default-clause-progress : goal.returns-in_default-clause-progress
returns-in_default-clause-progress c = λ all progress within.
    let end = ended all c.strings.strings c.in_ok-given.given
    (c.strings.invariant.progress all progress) c.in_ok-given.ensures.id (λ k. c.in_default.not-Some k) in
    absurd (omega (arith, end, within, c.strings.invariant.before))
