use Rattle.std.proofs.Common.{Bool, codes, refl, subst}
use Rattle.std.proofs.lemmas.Result.{err_from_is_err_and}
use Rattle.clap.specs.Words.{found_of, one_of, rows_of}
use Rattle.hdt_tool.specs.CommandLine.{ParsesAsFlag}
use Rattle.hdt_tool.proofs.FindActions.{find_is, object_refused}
use Rattle.hdt_tool.proofs.arguments.find_action.Goals as goal

pub returns-in_err-object-clause-refused : goal.returns-in_err-object-clause-refused
returns-in_err-object-clause-refused c =
    let p = err_from_is_err_and c.from_residual-in_err-object.result c.from_residual-in_err-object.ensures.1 in
    rw (p.1, p.2) (object_refused
    (rows_of (found_of c.args.matches.now)) c.in_ok-subject.subject c.in_ok-predicate.predicate
    c.in_err-object.field-0.0
    c.in_ok-subject.ensures.ok c.in_ok-predicate.ensures.ok c.in_err-object.ensures.refused)

pub returns-clause-ok : goal.returns-clause-ok
returns-clause-ok c =
    let rows = rows_of (found_of c.args.matches.now) in
    find_is rows _ c.format_option.result c.optional_number-most.result c.has_flag-skip.result c.find_or_search.result
    c.find_or_search.ensures (record {
      subject = c.in_ok-subject.subject;
      predicate = c.in_ok-predicate.predicate;
      object = c.in_ok-object.object;
      are = refl;
      s = c.in_ok-subject.ensures.ok;
      p = c.in_ok-predicate.ensures.ok;
      o = c.in_ok-object.ensures.ok;
    }) c.format_option.ensures c.optional_number-most.ensures
    (subst (λ (b : Bool). ParsesAsFlag (one_of (codes "quiet") rows) b) c.if-has_flag.false
    c.has_flag.ensures.given) c.has_flag-skip.ensures.given
