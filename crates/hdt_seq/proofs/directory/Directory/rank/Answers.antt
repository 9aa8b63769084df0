use Rattle.std.proofs.Common.{arith, ◌∙◌}
use Rattle.hdt_seq.specs.Bits.{bits_of}
use Rattle.hdt_seq.specs.Directory.{stored_counts}
use Rattle.hdt_seq.specs.Laws.RankSelect.{ones_before_le}
use Rattle.hdt_seq.proofs.GroupCounts.{last_count}
use Rattle.hdt_seq.proofs.directory.Directory.rank.Goals as goal

pub returns-then-i-len-clause-is : goal.returns-then-i-len-clause-is
unfolding stored_counts
returns-then-i-len-clause-is c =
    c.count.ensures.is
    ∙ last_count (stored_counts c.args.self.now)
    (bits_of c.args.bits.now) c.args.i c.len-then-i-len.result c.requires.is_directory
    (omega (arith, c.len-then-i-len.ensures, c.args.self.now.counts.ok.0)) (c.if-i-len.true ∙ c.len.ensures)

pub returns-then-i-len-clause-most : goal.returns-then-i-len-clause-most
unfolding stored_counts
returns-then-i-len-clause-most c =
    omega (arith, returns-then-i-len-clause-is c, ones_before_le (bits_of c.args.bits.now) c.args.i)
