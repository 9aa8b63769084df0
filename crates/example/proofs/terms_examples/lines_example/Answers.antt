use Rattle.std.proofs.Common.{◌≡◌, false, arith}
use Rattle.std.proofs.lemmas.Bool.{false_from_ne_true}
use Rattle.hdt_build.proofs.DocumentReading.{triple_size}
use Rattle.example.proofs.terms_examples.lines_example.Goals as goal

pub loop-lines-smaller : goal.loop-lines-smaller
loop-lines-smaller c =
    let inv = c.loop-lines.invariant in
    let read = c.in_ok-triple.ensures in
    let going : c.loop-lines.lines.ended ≡ false =
    false_from_ne_true _ (λ end. cc ((read.ended inv end).0, c.in-Some.is)) in
    let taken = rw c.in-Some.is at read.answers inv going in
    let size = triple_size _ _ c.loop-lines.lines c.next_triple.new.self c.in-Some.triple taken in
    omega (arith, size.0, size.1, size.2)
