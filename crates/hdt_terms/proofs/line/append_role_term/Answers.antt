use Rattle.hdt_terms.proofs.LineUtf8.{appended_utf8}
use Rattle.hdt_terms.proofs.line.append_role_term.Goals as goal

pub returns-in-Some-clause-utf8 : goal.returns-in-Some-clause-utf8
returns-in-Some-clause-utf8 c =
    appended_utf8 _ _ _ c.args.bytes.now c.transcode_term.result c.requires c.transcode_term.ensures.reads
