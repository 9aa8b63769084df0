use Rattle.hdt_terms.proofs.UnescapedWriting.{run_behind}
use Rattle.hdt_terms.proofs.put.write_run.Goals as goal

pub returns-clause-ok : goal.returns-clause-ok
returns-clause-ok c =
    rw (c.in_ok-extend_from_slice.ensures.items, c.split_at.ensures.front, c.split_at.ensures.back)
    (run_behind c.args.token c.args.out.now.items c.plain_len.result c.args.text.now c.plain_len.ensures.within
    c.plain_len.ensures.plain)
