use Rattle.std.proofs.Common.{◌≡◌, ◌-◌, ◌≤◌, [], length, map, replicate}
use Rattle.std.specs.Prelude.{Some}
use Rattle.hdt_c.specs.Splitting.{written_text}
use Rattle.hdt_c.proofs.splitting.empty_writers.Given as goal

abbrev pub invariant-parts : goal.invariant-parts
invariant-parts l = record {
  within : length l.outs.items ≤ l.parts;
  empty : map (λ out. Some (written_text out)) l.outs.items ≡ replicate (length l.outs.items) (Some []);
}

abbrev pub decreases-parts : goal.decreases-parts
decreases-parts l = l.parts - length l.outs.items
