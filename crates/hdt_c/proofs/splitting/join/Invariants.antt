use Rattle.std.proofs.Common.{◌≡◌}
use Rattle.std.specs.List.{concat}
use Rattle.hdt_dict.specs.StringBatch.{ends_from}
use Rattle.hdt_c.specs.Splitting.{written_texts}
use Rattle.hdt_c.proofs.splitting.join.Given as goal

-- the texts so far are joined
abbrev pub invariant-outs : goal.invariant-outs
invariant-outs l = record {
  bytes : l.bytes.items ≡ concat (written_texts l.yielded);
  ends : l.ends.items ≡ ends_from 0 (written_texts l.yielded);
}
