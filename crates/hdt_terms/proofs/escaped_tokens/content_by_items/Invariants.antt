use Rattle.std.proofs.Common.{◌≡◌, length}
use Rattle.hdt_terms.specs.TermParsing.{prepend_parsed, token_content}
use Rattle.hdt_terms.specs.Writing.{Extends}
use Rattle.hdt_terms.proofs.escaped_tokens.content_by_items.Given as goal

abbrev pub invariant-items : goal.invariant-items
invariant-items l = (prepend_parsed l.out.items (token_content l.token 0 l.rest)
    ≡ prepend_parsed l.fn.out.items (token_content l.token 0 l.bytes)) × Extends l.fn.out.items l.out.items

abbrev pub decreases-items : goal.decreases-items
decreases-items l = length l.rest
