-- The verdict is that of the new file, or says why there is none.
use Rattle.std.proofs.Common.{inl, inr}
use Rattle.hdt_c.proofs.rewriting.hdt_rewrite.Goals as goal

pub returns-in-Ok-put : goal.returns-in-Ok-put
returns-in-Ok-put c = inl (record {
  new = c.in-Ok.new.items;
  report = c.in-Ok.report;
  is = c.in-Ok.ensures.ok;
  made =
      c.in-Ok-put.ensures.ok;
  is_reported = c.rewritten_verdict.ensures;
})

pub returns-in-Err-put : goal.returns-in-Err-put
returns-in-Err-put c = inr (c.in-Err-put.ensures.err, inr (inr c.verdict_for.ensures))

pub returns-in-Err : goal.returns-in-Err
returns-in-Err c = inr (c.free.ensures, c.in-Err.ensures.err)
