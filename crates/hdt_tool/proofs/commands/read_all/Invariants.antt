use Rattle.std.proofs.Common.{◌≡◌, ◌-◌, vec_len}
use Rattle.std.specs.Prelude.{◌^◌}
use Rattle.std.specs.Io.KnownBytes.{Consumes}
use Rattle.hdt_wire.specs.Counted.{inner, failures}
use Rattle.hdt_tool.proofs.commands.read_all.Given as goal

abbrev pub invariant-reads : goal.invariant-reads
invariant-reads g l = record {
  read : Consumes (g.R.Read.remaining (inner l.fn.input)) (g.R.Read.remaining (inner l.input)) l.bytes.items;
  well : failures l.input ≡ failures l.fn.input;
}

-- A vector has fewer than 2^63 bytes, and each read adds at least one.
abbrev pub decreases-reads : goal.decreases-reads
decreases-reads g l = 2 ^ 63 - vec_len l.bytes
