use Rattle.std.proofs.Common.{◌∙◌}
use Rattle.hdt_terms.proofs.GrammarTerms.{Encodes-IsGrammarTerm}
use Rattle.hdt_terms.proofs.LineSoundness.{line_found}
use Rattle.hdt_terms.proofs.line.parse_triple.Goals as goal

pub returns : goal.returns
returns c =
    let read = c.in_ok-parse_triple_strings.ensures in
    let line = (line_found c.args.text.now read.0 c.requires read.1).1 in
    let s = c.in_ok-parsed_term.ensures.ok read.0.s (Encodes-IsGrammarTerm line.s read.0.s line.subject.0)
    (c.deref.ensures.value ∙ read.2.s_is) in
    let p = c.in_ok-parsed_term-2.ensures.ok read.0.p (Encodes-IsGrammarTerm line.p read.0.p line.predicate.0)
    (c.deref-2.ensures.value ∙ read.2.p_is) in
    let o = c.in_ok-parsed_term-3.ensures.ok read.0.o (Encodes-IsGrammarTerm line.o read.0.o line.object)
    (c.deref-3.ensures.value ∙ read.2.o_is) in
    rw (s, p, o) read.1
