use Rattle.std.proofs.Common.{◌≡◌, ◌-◌, ◌++◌, ◌≤◌, map, take, drop, length}
use Rattle.hdt_c.specs.LookUps.{numbers}
use Rattle.hdt_c.specs.CallerBuffer.{overwritten_prefix}
use Rattle.hdt_c.proofs.paging.put_triples.Given as goal

-- the triples written so far and the remaining ones are all that are written
abbrev pub invariant-put : goal.invariant-put
invariant-put l = record {
  put : take l.count l.buffer ++ overwritten_prefix (map numbers (drop l.count l.fn.triples)) (drop l.count l.buffer)
      ≡ overwritten_prefix (map numbers l.fn.triples) l.fn.buffer;
  size : length l.buffer ≡ length l.fn.buffer;
  within : l.count ≤ length l.fn.triples;
  fits : l.count ≤ length l.fn.buffer;
}

abbrev pub decreases-put : goal.decreases-put
decreases-put l = length l.buffer - l.count
