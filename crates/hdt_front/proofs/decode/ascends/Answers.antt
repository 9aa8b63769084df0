use Rattle.std.proofs.Common.{ap, sym, ◌∙◌, ◌≡◌, drop, List, ℕ}
use Rattle.std.specs.Ordering.{is_lt, nat_cmp}
use Rattle.std.specs.Cmp.Lexicographic.{slice_cmp}
use Rattle.hdt_front.proofs.Order.{kept_order}
use Rattle.hdt_front.proofs.decode.ascends.Goals as goal

pub returns-else-first : goal.returns-else-first
returns-else-first c =
    let e : c.split_at.result.1.now ≡ drop c.args.kept c.args.before.now = cc in
    let same : slice_cmp nat_cmp c.split_at.result.1.now c.args.text.now
    ≡ slice_cmp nat_cmp (drop c.args.kept c.args.before.now) c.args.text.now =
    ap (λ (l : List ℕ). slice_cmp nat_cmp l c.args.text.now) e in
    rw c.if-first.false (c.precedes.ensures
    ∙ ap is_lt (same ∙ sym (kept_order c.args.before.now c.args.text.now c.args.kept c.requires)))
