use Rattle.std.proofs.Common.{◌∙◌, ◌++◌, List, ℕ, None, ap, arith}
use Rattle.hdt_build.specs.Inside.Events.{dealt, id_of_codes, pairs_of}
use Rattle.hdt_build.proofs.batch_encoding.id_lists.Goals as goal

pub returns-then-branch : goal.returns-then-branch
returns-then-branch g c = record {
  long = c.distribute.ensures.long ∙ c.in_ok-lists.ensures.long;
  ids = λ known b lt.
      c.in_ok-distribute.ensures.dealt c.if-branch.true known b (omega (arith, lt, c.in_ok-lists.ensures.long))
      ∙ ap (λ (l : List ℕ). l ++ dealt (id_of_codes c.args.shared) b None
      (pairs_of c.args.numbers.now) c.args.events.now)
      (c.in_ok-lists.ensures.none b lt);
}
