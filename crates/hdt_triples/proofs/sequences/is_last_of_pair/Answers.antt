use Rattle.std.proofs.Common.{sym, ◌∙◌, arith, eq-eqb}
use Rattle.hdt_triples.specs.Writing.{pair_eq}
use Rattle.hdt_triples.specs.Laws.Group.{end_bit_inside, end_bit_at_end}
use Rattle.hdt_triples.proofs.sequences.is_last_of_pair.Goals as goal

pub returns-then-at-pairs : goal.returns-then-at-pairs
returns-then-at-pairs c = eq-eqb _ _ c.if-at-pairs.true
    ∙ sym (end_bit_at_end pair_eq c.args.pairs.now c.args.at c.if-at-pairs.true)

pub returns-else-at-pairs : goal.returns-else-at-pairs
returns-else-at-pairs c =
    c.ne.ensures ∙ sym (end_bit_inside pair_eq c.args.pairs.now c.args.at (
      0,
      0,
    ) (omega (arith, c.requires, c.if-at-pairs.false)))
