use Rattle.std.proofs.Common.{◌≡◌, ◌≤◌, ◌-◌, length, take}
use Rattle.std.specs.Io.KnownBytes.{Appends}
use Rattle.hdt_wire.specs.Counted.{inner, failures}
use Rattle.hdt_wire.proofs.counted.Counted.write_all.Given as goal

abbrev pub invariant-writes : goal.invariant-writes
invariant-writes g l = record {
  within : l.at ≤ length l.text;
  written : Appends (g.T.Write.contents (inner l.fn.self)) (g.T.Write.contents (inner l.self)) (take l.at l.text);
  well : failures l.self ≡ failures l.fn.self;
}

abbrev pub decreases-writes : goal.decreases-writes
decreases-writes g l = length l.text - l.at
