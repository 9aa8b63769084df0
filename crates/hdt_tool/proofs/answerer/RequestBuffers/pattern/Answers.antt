use Rattle.std.proofs.Common.{◌≡◌, [], ◌∷◌, length, refl, rules}
use Rattle.hdt_tool.proofs.Dialogues.{lent_given}
use Rattle.hdt_tool.proofs.answerer.RequestBuffers.pattern.Goals as goal

pub returns : goal.returns
returns c =
    let three : length c.args.given ≡ 3 = search rules in
    record {
      borrowed = c.given_part.result ∷ c.given_part-2.result ∷ c.given_part-3.result ∷ [];
      same = lent_given c.args.given _ _ _ c.given_part.result c.given_part-2.result c.given_part-3.result _ _ _ three
          (rw c.deref.ensures.value at c.given_part.ensures) (rw c.deref-2.ensures.value at c.given_part-2.ensures)
          (rw c.deref-3.ensures.value at c.given_part-3.ensures);
      pattern = c.pattern.result;
      exact = c.pattern.ensures.exact;
      matching = refl;
    }
