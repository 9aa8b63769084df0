use Rattle.std.proofs.Common.{arith}
use Rattle.hdt_seq.specs.Laws.ExactSequences.{bits_exact}
use Rattle.hdt_triples.proofs.triples.Triples.read.Goals as goal

pub check_sequences-requires-clause-some_pairs : goal.check_sequences-requires-clause-some_pairs
check_sequences-requires-clause-some_pairs c =
    ((bits_exact c.args.bytes.now c.end.result (λ i. omega (arith, c.type_inv.bytes i))).found _
    c.in_ok-bitmap_y.ensures.exact).spelled.spelled.0

pub check_sequences-requires-clause-some_triples : goal.check_sequences-requires-clause-some_triples
check_sequences-requires-clause-some_triples c =
    ((bits_exact c.args.bytes.now c.in_ok-bitmap_y.bitmap_y_end (λ i. omega (arith, c.type_inv.bytes i))).found _
    c.in_ok-bitmap_z.ensures.exact).spelled.spelled.0
