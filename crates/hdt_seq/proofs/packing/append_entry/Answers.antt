use Rattle.std.proofs.Common.{arith}
use Rattle.hdt_seq.specs.Laws.Packing.{small_next_word}
use Rattle.hdt_seq.proofs.packing.append_entry.Goals as goal

pub returns-clause-below : goal.returns-clause-below
returns-clause-below c = λ lt.
    let r = c.args.rest.now in
    small_next_word r.word r.filled c.args.width c.args.entry c.from.result c.from.ensures
    (omega (arith, c.ranges.entry)) c.requires.filled c.requires.small lt
