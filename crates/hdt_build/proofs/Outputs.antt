-- What is written piece by piece.
use Rattle.std.proofs.Common.{◌∙◌, ℕ, List, ◌++◌, arith, length-append}
use Rattle.std.proofs.KnownBytes.{Appends-trans}
use Rattle.hdt_build.specs.Inside.Output.{OutputState, Puts}

pub puts_then : (a b c : OutputState) (xs ys : List ℕ) → Puts a b xs → Puts b c ys → Puts a c (xs ++ ys)
puts_then a b c xs ys p q = record {
  written = Appends-trans a.0 b.0 c.0 xs ys p.written q.written;
  counted = omega (arith, p.counted, q.counted, length-append xs ys);
  unfailed = q.unfailed ∙ p.unfailed;
}
