use Rattle.std.proofs.Common.{◌≡◌, ◌∙◌, ◌-◌, ℕ, suc, subst, sym, arith}
use Rattle.hdt_triples.specs.Remaining.{remaining_matches}
use Rattle.hdt_file.specs.TermFlags.{is_writable}
use Rattle.hdt_file.proofs.WritableLaws.{KeepsLines, keeps}
use Rattle.hdt_file.proofs.writable.append_writable.Goals as goal

pub triples-preserved-then-is_writable : goal.triples-preserved-then-is_writable
triples-preserved-then-is_writable c =
    let l = c.triples in
    let some : l.wanted ≡ suc (l.wanted - 1) = omega (arith, c.triples-test.true) in
    keeps (is_writable c.args.flags.now) c.args.most (remaining_matches c.args.matches.now) c.args.triples.now.items
    l.triples.items c.push.new.self.items l.skipped (l.wanted - 1) c.in-Some.triple (remaining_matches l.matches)
    (remaining_matches c.next.new.self) c.in-Some.ensures.steps.0
    (sym c.is_writable.ensures ∙ c.if-is_writable.true) c.in_ok-push.ensures.items
    (subst (λ (n : ℕ). KeepsLines (is_writable c.args.flags.now) c.args.most (remaining_matches c.args.matches.now)
    c.args.triples.now.items l.triples.items l.skipped n (remaining_matches l.matches)) some l.invariant)
