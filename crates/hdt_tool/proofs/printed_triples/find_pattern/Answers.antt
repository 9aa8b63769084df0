use Rattle.std.proofs.Common.{◌≡◌, [], ◌∷◌, length, refl, rules}
use Rattle.hdt_tool.proofs.Triples.{are_lent, lent_part}
use Rattle.hdt_tool.proofs.printed_triples.find_pattern.Goals as goal

pub returns : goal.returns
returns c =
    let three : length c.args.given.now ≡ 3 = search rules in
    record {
      borrowed = c.as_deref.result ∷ c.as_deref-2.result ∷ c.as_deref-3.result ∷ [];
      same = are_lent c.args.given.now c.index-given-0.result c.index-given-1.result c.index-given-2.result
          c.as_deref.result c.as_deref-2.result
          c.as_deref-3.result three (lent_part _ _ c.as_deref.ensures.cases) (lent_part _ _ c.as_deref-2.ensures.cases)
          (lent_part _ _ c.as_deref-3.ensures.cases);
      pattern = c.pattern.result;
      exact = c.pattern.ensures.exact;
      matching = refl;
    }
