use Rattle.std.proofs.Common.{◌≡◌, ◌+◌, ◌-◌, ◌++◌, map, take, drop, length}
use Rattle.hdt_triples.specs.Remaining.{remaining_matches}
use Rattle.hdt_c.specs.LookUps.{numbers}
use Rattle.hdt_c.specs.CallerBuffer.{overwritten_prefix}
use Rattle.hdt_c.proofs.finding.put_matches.Given as goal

-- the matches written so far and the remaining ones are all that are written
abbrev pub invariant-put : goal.invariant-put
invariant-put l = record {
  put : take l.count l.buffer ++ overwritten_prefix (map numbers (remaining_matches l.matches)) (drop l.count l.buffer)
      ≡ overwritten_prefix (map numbers (remaining_matches l.fn.found)) l.fn.buffer;
  size : length l.buffer ≡ length l.fn.buffer;
  count : l.count + length (take (length l.buffer - l.count) (remaining_matches l.matches))
      ≡ length (take (length l.fn.buffer) (remaining_matches l.fn.found));
}

abbrev pub decreases-put : goal.decreases-put
decreases-put l = length l.buffer - l.count
