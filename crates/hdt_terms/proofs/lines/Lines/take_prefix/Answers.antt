use Rattle.std.proofs.Common.{◌+◌, ◌≤◌, ap, length, refl, rules, ◌∙◌}
use Rattle.std.proofs.lemmas.Result.{err_from_is_err_and}
use Rattle.hdt_terms.specs.Lines.{HasNoLineEnd}
use Rattle.hdt_terms.specs.LinesReader.{LinesState}
use Rattle.hdt_terms.proofs.LinePrefixes.{front_ended, front_last, holds_none, no_memory, none_held, passing_all}
use Rattle.hdt_terms.proofs.LinePrefixes.{passing_none, passing_on, unread_on}
use Rattle.hdt_terms.proofs.lines.Lines.take_prefix.Goals as goal

pub pieces-init : goal.pieces-init
pieces-init g c =
    let within : c.args.self.now.taken + length c.args.self.now.buffered ≤ c.args.self.now.limit = search rules in
    record {
      passing = passing_none c.args.most c.args.self.now _ _ within c.requires.empty;
      going = c.requires.going;
      count = refl;
      unread = λ h. (refl, h);
    }

pub returns-in_err-put_buffered-in-Some-clause-fault : goal.returns-in_err-put_buffered-in-Some-clause-fault
returns-in_err-put_buffered-in-Some-clause-fault g c =
    let p = err_from_is_err_and c.from_residual.result c.from_residual.ensures.1 in
    rw (p.1, p.2) (no_memory c.args.most c.args.self.now c.pieces.self _ _ _ _ c.in_err-put_buffered-in-Some.field-0.0
    c.pieces.invariant.passing c.in_err-put_buffered-in-Some.ensures.err)

pub returns-in-Some-clause-does : goal.returns-in-Some-clause-does
returns-in-Some-clause-does g c =
    let buffered = c.as_slice.ensures ∙ ap (λ (s : LinesState). s.buffered) c.self-in-pieces.view_is in
    front_ended c.args.most c.args.self.now c.pieces.self c.take_terminated_line.new.self _ _ c.in-Some.n
    c.pieces.text.items c.put_buffered.new.text.items c.pieces.invariant.passing c.pieces.invariant.going
    (rw buffered at c.in-Some.ensures) c.take_terminated_line.ensures c.in_ok-put_buffered-in-Some.ensures.ok

pub returns-in_err-put_buffered-in-None-clause-fault : goal.returns-in_err-put_buffered-in-None-clause-fault
returns-in_err-put_buffered-in-None-clause-fault g c =
    let p = err_from_is_err_and c.from_residual-in_err-put_buffered-in-None.result
    c.from_residual-in_err-put_buffered-in-None.ensures.1 in
    rw (p.1, p.2) (no_memory c.args.most c.args.self.now c.pieces.self _ _ _ _ c.in_err-put_buffered-in-None.field-0.0
    c.pieces.invariant.passing c.in_err-put_buffered-in-None.ensures.err)

pub pieces-preserved : goal.pieces-preserved
pieces-preserved g c =
    let s = c.pieces.self in
    let none : HasNoLineEnd s.buffered =
    rw (c.as_slice.ensures ∙ ap (λ (s : LinesState). s.buffered) c.self-in-pieces.view_is) at c.in-None.ensures in
    let len = c.len.ensures ∙ ap (λ (s : LinesState). length s.buffered) c.self-in-pieces.view_is in
    let passing = passing_all c.args.most c.args.self.now s c.take_buffered.new.self _ _ c.pieces.text.items _ _
    c.pieces.invariant.passing none c.take_buffered.ensures len c.in_ok-put_buffered-in-None.ensures.ok in
    let read = c.in-Ok.ensures in
    record {
      passing = passing_on c.args.most c.args.self.now c.take_buffered.new.self c.buffer_more.new.self _ _ _ _ passing
          (rw c.if-not-more.false at read.does) read.others read.below_limit;
      going = ap (λ (t : LinesState). t.ended) read.others ∙ ap (λ (t : LinesState). t.ended) c.take_buffered.ensures
          ∙ c.pieces.invariant.going;
      count = read.reader_unfailed ∙ c.pieces.invariant.count;
      unread = λ h. holds_none s none (c.pieces.invariant.unread h).1;
    }

pub returns-then-not-more-clause-does : goal.returns-then-not-more-clause-does
returns-then-not-more-clause-does g c =
    let s = c.pieces.self in
    let none : HasNoLineEnd s.buffered =
    rw (c.as_slice.ensures ∙ ap (λ (s : LinesState). s.buffered) c.self-in-pieces.view_is) at c.in-None.ensures in
    let len = c.len.ensures ∙ ap (λ (s : LinesState). length s.buffered) c.self-in-pieces.view_is in
    let passing = passing_all c.args.most c.args.self.now s c.take_buffered.new.self _ _ c.pieces.text.items _ _
    c.pieces.invariant.passing none c.take_buffered.ensures len c.in_ok-put_buffered-in-None.ensures.ok in
    let read = c.in-Ok.ensures in
    front_last c.args.most c.args.self.now c.take_buffered.new.self c.buffer_more.new.self c.end.new.self _ _ _ _
    passing (none_held s c.take_buffered.new.self c.take_buffered.ensures)
    (rw c.if-not-more.true at read.does) read.others c.end.ensures

pub returns-in-Err-clause-fault : goal.returns-in-Err-clause-fault
returns-in-Err-clause-fault g c =
    let s = c.pieces.self in
    let none : HasNoLineEnd s.buffered =
    rw (c.as_slice.ensures ∙ ap (λ (s : LinesState). s.buffered) c.self-in-pieces.view_is) at c.in-None.ensures in
    let len = c.len.ensures ∙ ap (λ (s : LinesState). length s.buffered) c.self-in-pieces.view_is in
    let passing = passing_all c.args.most c.args.self.now s c.take_buffered.new.self _ _ c.pieces.text.items _ _
    c.pieces.invariant.passing none c.take_buffered.ensures len c.in_ok-put_buffered-in-None.ensures.ok in
    let read = c.in-Err.ensures in
    unread_on c.args.most c.args.self.now c.take_buffered.new.self c.buffer_more.new.self _ _ _ _ c.in-Err.why
    c.fault.result passing (none_held s c.take_buffered.new.self c.take_buffered.ensures)
    read.does read.others c.fault.ensures
