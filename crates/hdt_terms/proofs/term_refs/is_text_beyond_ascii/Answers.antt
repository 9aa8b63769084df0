use Rattle.hdt_terms.proofs.TokenTests.{no_zero}
use Rattle.hdt_terms.proofs.term_refs.is_text_beyond_ascii.Goals as goal

pub returns-then-is_none : goal.returns-then-is_none
returns-then-is_none c = (
  λ yes. record {
    utf8 = c.is_utf8.ensures.0 yes;
    no_zero =
        no_zero c.args.bytes.now c.memchr.result c.memchr.ensures c.if-is_none.ensures;
  },
  λ text. c.is_utf8.ensures.1 text.utf8,
)
