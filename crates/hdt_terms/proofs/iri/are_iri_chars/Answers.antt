use Rattle.hdt_terms.specs.Chars.{is_iri_char}
use Rattle.hdt_terms.proofs.TokenTests.{all_pass}
use Rattle.hdt_terms.proofs.iri.are_iri_chars.Goals as goal

pub returns : goal.returns
returns c = all_pass is_iri_char c.args.bytes.now c.plain_len.result c.plain_len.ensures.within
    c.plain_len.ensures.plain c.plain_len.ensures.longest
