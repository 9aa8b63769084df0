use Rattle.std.proofs.Common.{arith}
use Rattle.hdt_terms.proofs.Appends.{first_is, literal_term}
use Rattle.hdt_terms.proofs.transcode.transcode_literal.Goals as goal

pub returns-clause-reads : goal.returns-clause-reads
returns-clause-reads c =
    literal_term _ c.args.bytes.now _ _ _ _ _ _ _ c.transcode_suffix.result
    (first_is c.args.bytes.now 34 (omega arith) (omega arith))
    c.in_ok-push.ensures.items c.in_ok-rest.ensures.reads c.in_ok-push-2.ensures.items c.transcode_suffix.ensures.reads
