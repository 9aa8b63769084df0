use Rattle.hdt_terms.proofs.UnescapedRuns.{run_taken}
use Rattle.hdt_terms.proofs.escaped_tokens.append_plain.Goals as goal

pub returns-clause-goes_on : goal.returns-clause-goes_on
returns-clause-goes_on c =
    rw (c.in_ok-extend_from_slice.ensures.items, c.split_at.ensures.front, c.split_at.ensures.back)
    (run_taken c.args.token c.args.out.now.items c.plain_len.result c.args.bytes.now c.plain_len.ensures.within
    c.plain_len.ensures.plain)
