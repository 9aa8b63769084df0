use Rattle.hdt_terms.proofs.Appends.{iri_term, blank_term}
use Rattle.hdt_terms.proofs.transcode.transcode_term.Goals as goal

pub returns-in-60-clause-reads : goal.returns-in-60-clause-reads
returns-in-60-clause-reads c =
    iri_term _ _ _ _ _ _ c.transcode_iri.result c.in-Some.ensures.cases.0 c.in-60.is c.transcode_iri.ensures.reads

pub returns-in-95-clause-reads : goal.returns-in-95-clause-reads
returns-in-95-clause-reads c =
    blank_term _ _ _ _ _ _ c.transcode_blank.result c.in-Some.ensures.cases.0 c.in-95.is c.transcode_blank.ensures.reads
