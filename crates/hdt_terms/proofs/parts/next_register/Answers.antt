use Rattle.std.proofs.Common.{arith}
use Rattle.hdt_terms.proofs.PartTables.{low_fits}
use Rattle.hdt_terms.proofs.parts.next_register.Goals as goal

pub overflow_cast-low : goal.overflow_cast-low
overflow_cast-low c = omega arith

pub overflow_cast-result : goal.overflow_cast-result
overflow_cast-result c = omega (arith, low_fits c.args.register c.args.byte (omega arith))

pub offset_bounds-table-low : goal.offset_bounds-table-low
offset_bounds-table-low c = omega (arith, low_fits c.args.register c.args.byte (omega arith))

pub bounds-table-low : goal.bounds-table-low
bounds-table-low c = low_fits c.args.register c.args.byte (omega arith)
