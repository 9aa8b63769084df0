use Rattle.std.proofs.Common.{refl}
use Rattle.hdt_terms.proofs.RequestLaws.{parts_read}
use Rattle.hdt_terms.proofs.request.parse_pattern.Goals as goal

pub returns : goal.returns
returns c =
    let s = c.in_ok-subject.ensures.reads in
    let p = c.in_ok-predicate.ensures.reads in
    let o = c.in_ok-object.ensures.reads in (
      record { s = s.0; p = p.0; o = o.0 },
      parts_read c.args.text.now _ _ _ s.0 p.0 o.0 _ s.1 p.1 o.1 c.in_ok-parse_optional_stop.ensures,
      record { given_is = rw (s.2, p.2, o.2) refl; s_is = s.3; p_is = p.3; o_is = o.3 },
    )
