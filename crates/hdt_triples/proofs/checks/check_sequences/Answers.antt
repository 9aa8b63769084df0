use Rattle.hdt_seq.specs.Bits.{bits_view}
use Rattle.hdt_seq.specs.Numbers.{numbers_view}
use Rattle.hdt_triples.specs.Laws.Triples.{sequence_checks_found}
use Rattle.hdt_triples.proofs.checks.check_sequences.Goals as goal

pub returns-clause-valid : goal.returns-clause-valid
returns-clause-valid c =
    sequence_checks_found c.args.counts.now (bits_view (c.args.bitmap_y.now, 0)) (bits_view (c.args.bitmap_z.now, 0))
    (numbers_view (c.args.array_y.now, 0)) (numbers_view (c.args.array_z.now, 0)) c.run_sequence_checks.result
    (c.run_sequence_checks.ensures 0 0 0 0)
