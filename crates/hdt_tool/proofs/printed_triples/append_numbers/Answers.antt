use Rattle.std.proofs.Common.{◌≡◌, ◌∷◌, ◌++◌, ◌-◌, ◌∙◌, ℕ, List, ap, suc, take, arith}
use Rattle.hdt_triples.specs.TripleSequences.{Triple}
use Rattle.hdt_triples.specs.Remaining.{remaining_matches}
use Rattle.hdt_file.specs.TextWriting.{limited}
use Rattle.hdt_tool.specs.TriplesText.{numbers_lines}
use Rattle.hdt_tool.proofs.Triples.{keeps_on, one_line}
use Rattle.hdt_tool.proofs.printed_triples.append_numbers.Goals as goal

pub triples-preserved : goal.triples-preserved
triples-preserved c =
    let l = c.triples in
    let n = l.remaining - 1 in
    let remaining : l.remaining ≡ suc n = omega (arith, c.triples-test.true) in
    let rest = take n (remaining_matches c.next.new.self) in
    let first : take l.remaining (remaining_matches l.matches) ≡ c.in-Some.triple ∷ rest =
    ap (λ (k : ℕ). take k (remaining_matches l.matches)) remaining
    ∙ ap (λ (ts : List Triple). take (suc n) ts) c.in-Some.ensures.steps.0
    in (
      one_line l.out.items c.put_numbers.new.out.items (c.args.out.now.items
          ++ numbers_lines (limited c.args.most (remaining_matches c.args.found)))
          c.in-Some.triple (take l.remaining (remaining_matches l.matches)) rest first c.in_ok-put_numbers.ensures.ok
          l.invariant.0,
      keeps_on _ l.out.items _ _ l.invariant.1 c.in_ok-put_numbers.ensures.ok,
    )
