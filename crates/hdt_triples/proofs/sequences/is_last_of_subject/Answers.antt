use Rattle.std.proofs.Common.{◌+◌, ◌<◌, ℕ, map, length, sym, ◌∙◌, ap, arith, eq-eqb, nat_eq, not, get_or}
use Rattle.std.proofs.lemmas.List.{length-map, get_or-map}
use Rattle.hdt_triples.specs.Laws.Group.{end_bit_inside, end_bit_at_end}
use Rattle.hdt_triples.proofs.sequences.is_last_of_subject.Goals as goal

pub returns-then-at-pairs : goal.returns-then-at-pairs
returns-then-at-pairs c =
    let first = λ (p : ℕ × ℕ). p.0 in
    eq-eqb _ _ c.if-at-pairs.true
    ∙ sym (end_bit_at_end nat_eq (map first c.args.pairs.now) c.args.at (c.if-at-pairs.true
    ∙ sym (length-map c.args.pairs.now first)))

pub returns-else-at-pairs : goal.returns-else-at-pairs
returns-else-at-pairs c =
    let first = λ (p : ℕ × ℕ). p.0 in
    let ps = c.args.pairs.now in
    let at = c.args.at in
    let more : at + 1 < length ps = omega (arith, c.requires, c.if-at-pairs.false) in
    let here = get_or-map first ps at (0, 0) 0 c.requires in
    let next = get_or-map first ps (at + 1) (0, 0) 0 more in
    ap (λ a. not (nat_eq a (get_or ps at (0, 0)).0)) (sym next)
    ∙ ap (λ b. not (nat_eq (get_or (map first ps) (at + 1) 0) b)) (sym here)
    ∙ sym (end_bit_inside nat_eq (map first ps) at 0 (omega (arith, more, length-map ps first)))
