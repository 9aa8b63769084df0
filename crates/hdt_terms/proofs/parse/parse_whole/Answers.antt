use Rattle.std.proofs.Common.{sym}
use Rattle.hdt_terms.proofs.CompleteTexts.{made}
use Rattle.hdt_terms.proofs.parse.parse_whole.Goals as goal

pub returns-clause-reads : goal.returns-clause-reads
returns-clause-reads c =
    let appended = rw (c.new-string.ensures.items, sym c.deref.ensures.value) at c.in_ok-append_whole.ensures.reads in
    made c.args.text.now _ c.parsed_term.result appended c.in_ok-append_whole.ensures.utf8 c.parsed_term.ensures.ok
    c.parsed_term.ensures.err
